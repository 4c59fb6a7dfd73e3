-- The least set of a grammar's clauses is what its slots can do by rounds.
use Rattle.std.proofs.Common.{arith, ◌≡◌, ◌⊎◌, inl, inr, ℕ, zero, suc, ◌+◌, ◌-◌, ◌<◌, ◌≤◌, Bool, true, false, if◌then◌else◌, option_to_list, List, [], ◌∷◌, length, All, Contains, get_or, slice_index, refl, sym, ◌∙◌, ap, subst}
use Rattle.std.proofs.lemmas.List.{get_or_default}
use Rattle.std.proofs.lemmas.List.Elements.{Contains-get_or}
use Rattle.std.proofs.lemmas.List.FromFn.{get_or-map-range_with_len, length-map-range_with_len}
use Rattle.grammar_model.specs.Grammar.{WrittenRule, Plain, Sequence, Grammar, Slot, slot_of, rule_at, lhs_of, level_of, child_slot, EachChildSlot}
use Rattle.grammar_model.specs.Analysis.{SomeRule, IsStar, IsNullableIn, EachNeeded, IsProductiveIn}
use Rattle.grammar_core.specs.Written.{IsWritten}
use Rattle.horn_clauses.specs.Least.{Clause, clause_at, IsDerivedIn, IsClosed}
use Rattle.slot_analysis.specs.Slots.{number, end_of, IsNumbering, IsNumbered, body_count, rule_clause, chain_clause, fact_clause}
use Rattle.slot_analysis.specs.Clauses.{IsFact, HasClauses}
use Rattle.grammar_core.proofs.Known.{lhs_known}
use Rattle.slot_analysis.proofs.Known.{head_numbered, child_numbered, body_small}
use Rattle.horn_clauses.proofs.Search.{same_or_below}
use Rattle.grammar_model.proofs.Productive.{item_first}

-- both analyses at once
abbrev pub CanIn : Bool → ℕ → Grammar → Slot → Type 0
CanIn seps zero g slot = IsFact seps g slot.symbol
CanIn seps (suc n) g slot = IsFact seps g slot.symbol ⊎ SomeRule g slot (λ rule. (k : ℕ) → k < body_count seps rule → CanIn seps n g (child_slot rule k))

star_none : (seps : Bool) (rule : WrittenRule) (k : ℕ) → IsStar rule → k < body_count seps rule → ⊥
star_none seps (Plain r) k h lt = h
star_none seps (Sequence r) k h lt = let e : k < 0 = subst (λ b. k < (if b then (if seps then suc (length (option_to_list r.separator)) else 1) else 0)) h lt in omega (arith, e)

pub from_nullable : (n : ℕ) (g : Grammar) (slot : Slot) → IsNullableIn n g slot → CanIn true n g slot
from_nullable zero g slot h = h
from_nullable (suc n) g slot (i, lt, fits, h) = inr (i, lt, fits, body (rule_at g i) (λ k. from_nullable n g (child_slot (rule_at g i) k)) h)
  where
    body : (rule : WrittenRule) → ((k : ℕ) → IsNullableIn n g (child_slot rule k) → CanIn true n g (child_slot rule k)) → IsStar rule ⊎ EachChildSlot (IsNullableIn n g) rule → (k : ℕ) → k < body_count true rule → CanIn true n g (child_slot rule k)
    body rule rec (inl star) k l = absurd (star_none true rule k star l)
    body rule rec (inr each) k l = rec k (each k (body_small true rule k l))

pub to_nullable : (n : ℕ) (g : Grammar) (slot : Slot) → CanIn true n g slot → IsNullableIn n g slot
to_nullable zero g slot h = h
to_nullable (suc n) g slot (inl h) = absurd h
to_nullable (suc n) g slot (inr (i, lt, fits, h)) = (i, lt, fits, each (rule_at g i) (λ k l. to_nullable n g (child_slot (rule_at g i) k) (h k l)))
  where
    each : (rule : WrittenRule) → ((k : ℕ) → k < body_count true rule → IsNullableIn n g (child_slot rule k)) → IsStar rule ⊎ EachChildSlot (IsNullableIn n g) rule
    each (Plain r) h = inr h
    each (Sequence r) h = by r.plus refl
      where
        by : (b : Bool) → r.plus ≡ b → IsStar (Sequence r) ⊎ EachChildSlot (IsNullableIn n g) (Sequence r)
        by true e = inr (λ k l. h k (subst (λ b. k < (if b then suc (length (option_to_list r.separator)) else 0)) (sym e) l))
        by false e = inl e

pub from_productive : (n : ℕ) (g : Grammar) (slot : Slot) → IsProductiveIn n g slot → CanIn false n g slot
from_productive zero g slot h = h
from_productive (suc n) g slot (inl h) = inl h
from_productive (suc n) g slot (inr (i, lt, fits, h)) = inr (i, lt, fits, body (rule_at g i) (λ slot. from_productive n g slot) h)
  where
    body : (rule : WrittenRule) → ((slot : Slot) → IsProductiveIn n g slot → CanIn false n g slot) → IsStar rule ⊎ EachNeeded (IsProductiveIn n g) rule → (k : ℕ) → k < body_count false rule → CanIn false n g (child_slot rule k)
    body rule rec (inl star) k l = absurd (star_none false rule k star l)
    body (Plain r) rec (inr each) k l = rec (child_slot (Plain r) k) (each k l)
    body (Sequence r) rec (inr each) k l =
        let z : k ≡ 0 = by r.plus k l in
        subst (λ k. CanIn false n g (child_slot (Sequence r) k)) (sym z) (subst (λ s. CanIn false n g (slot_of s)) (sym (item_first r.item r.separator)) (rec (slot_of r.item) each))
      where
        by : (b : Bool) (k : ℕ) → k < (if b then 1 else 0) → k ≡ 0
        by true k l = omega arith
        by false k l = omega arith

pub to_productive : (n : ℕ) (g : Grammar) (slot : Slot) → CanIn false n g slot → IsProductiveIn n g slot
to_productive zero g slot h = h
to_productive (suc n) g slot (inl h) = inl h
to_productive (suc n) g slot (inr (i, lt, fits, h)) = inr (i, lt, fits, each (rule_at g i) (λ k l. to_productive n g (child_slot (rule_at g i) k) (h k l)))
  where
    each : (rule : WrittenRule) → ((k : ℕ) → k < body_count false rule → IsProductiveIn n g (child_slot rule k)) → IsStar rule ⊎ EachNeeded (IsProductiveIn n g) rule
    each (Plain r) h = inr h
    each (Sequence r) h = by r.plus refl
      where
        by : (b : Bool) → r.plus ≡ b → IsStar (Sequence r) ⊎ EachNeeded (IsProductiveIn n g) (Sequence r)
        by true e = inr (subst (λ s. IsProductiveIn n g (slot_of s)) (item_first r.item r.separator) (h 0 (subst (λ b. 0 < (if b then 1 else 0)) (sym e) (omega arith))))
        by false e = inl e

can_more : (seps : Bool) (n : ℕ) (g : Grammar) (slot : Slot) → CanIn seps n g slot → CanIn seps (suc n) g slot
can_more seps zero g slot h = inl h
can_more seps (suc n) g slot (inl h) = inl h
can_more seps (suc n) g slot (inr (i, lt, fits, h)) = inr (i, lt, fits, λ k l. can_more seps n g (child_slot (rule_at g i) k) (h k l))

-- what a slot can do, looser ones of its symbol can
can_looser : (seps : Bool) (n : ℕ) (g : Grammar) (s l m : ℕ) → l ≤ m → CanIn seps n g (record { symbol = s; level = m }) → CanIn seps n g (record { symbol = s; level = l })
can_looser seps zero g s l m le h = h
can_looser seps (suc n) g s l m le (inl h) = inl h
can_looser seps (suc n) g s l m le (inr (i, lt, (e, fits), h)) = inr (i, lt, (e, omega (arith, le, fits)), h)

-- the numbers of different symbols lie apart
pub bases_rise : (g : Grammar) (bases : List ℕ) (s t : ℕ) → IsNumbering g bases → s < t → t ≤ length g.names → end_of bases s ≤ slice_index bases t
bases_rise g bases s zero n lt le = absurd (omega arith)
bases_rise g bases s (suc t) n lt le = elim (same_or_below s t (omega arith)) [
  | inl before ↦ let h = bases_rise g bases s t n before (omega arith) in let r = n.rising t (omega arith) in omega (arith, h, r)
  | inr same ↦ subst (λ t. end_of bases s ≤ slice_index bases (suc t)) same (omega arith)
]

pub one_symbol : (g : Grammar) (bases : List ℕ) (s t x : ℕ) → IsNumbering g bases → s < length g.names → t < length g.names → slice_index bases s ≤ x → x < end_of bases s → slice_index bases t ≤ x → x < end_of bases t → s ≡ t
one_symbol g bases s t x n sl tl a b c d = by (compare s t)
  where
    compare : (s t : ℕ) → (s < t) ⊎ ((t < s) ⊎ (s ≡ t))
    compare s t = grind arith

    by : (s < t) ⊎ ((t < s) ⊎ (s ≡ t)) → s ≡ t
    by (inl lt) = let h = bases_rise g bases s t n lt (omega arith) in absurd (omega (arith, h, b, c))
    by (inr (inl lt)) = let h = bases_rise g bases t s n lt (omega arith) in absurd (omega (arith, h, a, d))
    by (inr (inr e)) = e

pub part_is : (seps : Bool) (bases : List ℕ) (rule : WrittenRule) (k d : ℕ) → k < body_count seps rule → get_or (rule_clause seps bases rule).body k d ≡ number bases (child_slot rule k)
part_is seps bases rule k d lt = get_or-map-range_with_len (λ k. number bases (child_slot rule k)) 0 (body_count seps rule) k k d lt (omega arith)

pub body_length : (seps : Bool) (bases : List ℕ) (rule : WrittenRule) → length (rule_clause seps bases rule).body ≡ body_count seps rule
body_length seps bases rule = length-map-range_with_len (λ k. number bases (child_slot rule k)) 0 (body_count seps rule)

pub closed_by : (cs : List Clause) (keys : List ℕ) (c : Clause) → IsClosed cs keys → Contains cs c → All (Contains keys) c.body → Contains keys c.head
closed_by cs keys c closed (j, jl, e) all =
    let is : clause_at cs j ≡ c = get_or_default cs j (record { head = 0; body = [] }) c jl ∙ e in
    subst (λ c. Contains keys c.head) is (closed j jl (subst (λ c. All (Contains keys) c.body) (sym is) all))

module _ (seps : Bool) (g : Grammar) (bases : List ℕ) (cs : List Clause) (w : IsWritten g) (n : IsNumbering g bases) (has : HasClauses seps g bases cs) where
  pub sound : (r x s l : ℕ) → IsNumbered g bases (record { symbol = s; level = l }) → slice_index bases s + l ≡ x → IsDerivedIn r cs x → CanIn seps r g (record { symbol = s; level = l })
  sound zero x s l numbered e h = absurd h
  sound (suc r) x s l (known, small) e (j, jl, e', all) = elim (has.real (clause_at cs j) (Contains-get_or cs j (record { head = 0; body = [] }) jl)) [
    | inl (i, il, is) ↦
        let rule = rule_at g i in
        let at : slice_index bases (lhs_of rule) + level_of rule ≡ slice_index bases s + l = sym (ap (λ c. c.head) is) ∙ (e' ∙ sym e) in
        let within = head_numbered g bases i w n il in
        let same : lhs_of rule ≡ s = one_symbol g bases (lhs_of rule) s (slice_index bases s + l) n (lhs_known g i w il) known (omega (arith, at)) (omega (arith, at, within)) (omega arith) small in
        let bs : slice_index bases (lhs_of rule) ≡ slice_index bases s = ap (slice_index bases) same in
        inr (
          i,
          il,
          (same, omega (arith, at, bs)),
          λ k kl.
              let num = child_numbered g bases i k w n il (body_small seps rule k kl) in
              let d = subst (λ c. All (IsDerivedIn r cs) c.body) is all k 0 (subst (λ m. k < m) (sym (body_length seps bases rule)) kl) in
              sound r (number bases (child_slot rule k)) (child_slot rule k).symbol (child_slot rule k).level num refl (subst (IsDerivedIn r cs) (part_is seps bases rule k 0 kl) d),
        )
    | inr (inl (t, y, tl, from, to, is)) ↦
        let at : y ≡ slice_index bases s + l = sym (ap (λ c. c.head) is) ∙ (e' ∙ sym e) in
        let same : t ≡ s = one_symbol g bases t s y n tl known from (omega arith) (omega (arith, at)) (omega (arith, at, small)) in
        let ends : end_of bases t ≡ end_of bases s = ap (end_of bases) same in
        let d = subst (λ c. All (IsDerivedIn r cs) c.body) is all 0 0 (omega arith) in
        can_more seps r g (record { symbol = s; level = l }) (can_looser seps r g s l (suc l) (omega arith)
        (sound r (suc y) s (suc l) (known, omega (arith, at, to, ends)) (omega (arith, at)) d))
    | inr (inr (t, y, tl, from, to, fact, is)) ↦
        let at : y ≡ slice_index bases s + l = sym (ap (λ c. c.head) is) ∙ (e' ∙ sym e) in
        let same : t ≡ s = one_symbol g bases t s y n tl known from to (omega (arith, at)) (omega (arith, at, small)) in
        inl (subst (IsFact seps g) same fact)
  ]

  module _ (keys : List ℕ) (closed : IsClosed cs keys) where
    down : (d s l : ℕ) → s < length g.names → slice_index bases s + (l + d) < end_of bases s → Contains keys (slice_index bases s + (l + d)) → Contains keys (slice_index bases s + l)
    down zero s l known small h = subst (Contains keys) (let z : slice_index bases s + (l + 0) ≡ slice_index bases s + l = omega arith in z) h
    down (suc d) s l known small h =
        let next : suc (slice_index bases s + (l + d)) ≡ slice_index bases s + (l + suc d) = omega arith in
        down d s l known (omega (arith, next, small)) (closed_by cs keys (chain_clause (slice_index bases s + (l + d))) closed
        (has.levels s (slice_index bases s + (l + d)) known (omega arith) (omega (arith, next, small)))
        (one (suc (slice_index bases s + (l + d))) (subst (Contains keys) (sym next) h)))
      where
        one : (x : ℕ) → Contains keys x → All (Contains keys) (x ∷ [])
        one x h zero d lt = h
        one x h (suc k) d lt = absurd (omega arith)

    fact_in : (s l : ℕ) → IsNumbered g bases (record { symbol = s; level = l }) → IsFact seps g s → Contains keys (slice_index bases s + l)
    fact_in s l (known, small) fact = closed_by cs keys (fact_clause (slice_index bases s + l)) closed (has.terminals s (slice_index bases s + l) known (omega arith) small fact) (λ k d lt. absurd (omega arith))

    pub complete : (r s l : ℕ) → IsNumbered g bases (record { symbol = s; level = l }) → CanIn seps r g (record { symbol = s; level = l }) → Contains keys (slice_index bases s + l)
    complete zero s l numbered h = fact_in s l numbered h
    complete (suc r) s l numbered (inl h) = fact_in s l numbered h
    complete (suc r) s l numbered (inr (i, lt, (e, fits), h)) =
        let rule = rule_at g i in
        let head = closed_by cs keys (rule_clause seps bases rule) closed (has.rules i lt)
        (λ k d kl.
        let kl' : k < body_count seps rule = subst (λ m. k < m) (body_length seps bases rule) kl in
        subst (Contains keys) (sym (part_is seps bases rule k d kl')) (complete r (child_slot rule k).symbol (child_slot rule k).level (child_numbered g bases i k w n lt (body_small seps rule k kl')) (h k kl'))) in
        let more : l + (level_of rule - l) ≡ level_of rule = omega (arith, fits) in
        let at : slice_index bases (lhs_of rule) + level_of rule ≡ slice_index bases s + (l + (level_of rule - l)) = omega (arith, ap (slice_index bases) e, more) in
        let within = head_numbered g bases i w n lt in
        down (level_of rule - l) s l numbered.0 (omega (arith, at, within, ap (end_of bases) e)) (subst (Contains keys) at head)
