-- Marks of symbols, and texts of rules.
use Rattle.std.proofs.Common.{arith, ◌≡◌, ◌≢◌, ◌⊎◌, ◌↔◌, inl, inr, ℕ, zero, suc, ◌+◌, ◌<◌, Bool, true, false, not, ◌||◌, if◌then◌else◌, List, [], ◌∷◌, ◌++◌, length, Contains, slice_index_or, slice_set, nat_eq, refl, sym, ◌∙◌, ap, subst, true≢false}
use Rattle.std.specs.Bool.{IsTrue, Decides}
use Rattle.std.specs.List.{list_any}
use Rattle.std.specs.Cmp.Lexicographic.{pointwise}
use Rattle.std.specs.declared.vec.Vec.{Vec}
use Rattle.std.specs.declared.alloc.Global.{Global}
use Rattle.std.proofs.lemmas.Bool.Decides.{Decides-eqb}
use Rattle.std.proofs.lemmas.Slice.Eq.{slice_eq-Decides}
use Rattle.std.proofs.lemmas.List.{get_or-set_same, get_or-set_other, map-append}
use Rattle.std.proofs.lemmas.List.Elements.{Contains-append_left, Contains-push, Contains-push_cases}
use Rattle.indexmap.specs.IndexSet.{insert_key}
use Rattle.grammar_model.specs.Grammar.{Grammar, WrittenRule, PlainRule, SequenceRule, Plain, Sequence, rule_at, lhs_of}
use Rattle.grammar_model.specs.Checked.{IsDuplicate, IsShared, SequencesAreAlone}
use Rattle.grammar_core.specs.Written.{IsWritten}
use Rattle.grammar_core.specs.Rules.{is_sequence}
use Rattle.grammar_check.specs.Shared.{rows_of}
use Rattle.grammar_check.specs.Shared.{IsSequenceAt, HasTwo, HasSequence, Marks, HasTexts}
use Rattle.horn_clauses.proofs.Search.{same_or_other, same_or_below}
use Rattle.grammar_core.proofs.Known.{lhs_known}

-- a mark more, where R holds
pub mark_more : (marks : List Bool) (P Q : ℕ → Type 0) (x : ℕ) (c : Bool) (R : Type 0) → Marks marks P → x < length marks → (c ≡ true) ↔ R → ((y : ℕ) → (P y ⊎ ((y ≡ x) × R)) ↔ Q y) → Marks (slice_set marks x (slice_index_or marks x false || c)) Q
mark_more marks P Q x c R m lt test split y = elim (same_or_other y x) [
  | inl same ↦
      let here : slice_index_or (slice_set marks x (slice_index_or marks x false || c)) y false ≡ (slice_index_or marks x false || c) = ap (λ y. slice_index_or (slice_set marks x (slice_index_or marks x false || c)) y false) same ∙ get_or-set_same marks x (slice_index_or marks x false || c) false lt in (
        λ t. (split y).0 (either (slice_index_or marks x false) c refl refl (sym here ∙ t) same),
        λ q. here ∙ from same ((split y).1 q),
      )
  | inr ne ↦
      let there = get_or-set_other marks x y (slice_index_or marks x false || c) false ne in (
        λ t. (split y).0 (inl ((m y).0 (sym there ∙ t))),
        λ q. elim ((split y).1 q) [ inl p ↦ there ∙ (m y).1 p | inr (e, r) ↦ absurd (ne e) ],
      )
]
  where
    either : (a b : Bool) → slice_index_or marks x false ≡ a → c ≡ b → (a || b) ≡ true → y ≡ x → P y ⊎ ((y ≡ x) × R)
    either true b ea eb t same = inl (subst P (sym same) ((m x).0 ea))
    either false b ea eb t same = inr (same, test.0 (eb ∙ t))

    or_right : (a : Bool) → (a || true) ≡ true
    or_right true = refl
    or_right false = refl

    from : y ≡ x → P y ⊎ ((y ≡ x) × R) → (slice_index_or marks x false || c) ≡ true
    from same (inl p) = ap (λ b. b || c) ((m x).1 (subst P same p))
    from same (inr (e, r)) = ap (λ b. slice_index_or marks x false || b) (test.1 r) ∙ or_right (slice_index_or marks x false)

pub marks_none : (marks : List Bool) (P : ℕ → Type 0) → ((x : ℕ) → slice_index_or marks x false ≡ false) → ((x : ℕ) → P x → ⊥) → Marks marks P
marks_none marks P off none x = (λ t. absurd (true≢false (sym t ∙ off x)), λ p. absurd (none x p))

abbrev pub SeenIn : Grammar → (n symbol : ℕ) → Type 0
SeenIn g n symbol = (i : ℕ) × (i < n) × (lhs_of (rule_at g i) ≡ symbol)

pub seen_more : (g : Grammar) (n x : ℕ) → x ≡ lhs_of (rule_at g n) → (y : ℕ) → (SeenIn g n y ⊎ ((y ≡ x) × Unit {0})) ↔ SeenIn g (n + 1) y
seen_more g n x e y = (
  λ p. elim p [ inl (i, lt, is) ↦ (i, omega arith, is) | inr (same, u) ↦ (n, omega arith, sym (same ∙ e)) ],
  λ (i, lt, is). elim (same_or_below i n lt) [ inl low ↦ inl (i, low, is) | inr same ↦ inr (sym is ∙ (ap (λ i. lhs_of (rule_at g i)) same ∙ sym e), tt) ],
)

pub two_more : (g : Grammar) (n x : ℕ) → x ≡ lhs_of (rule_at g n) → (y : ℕ) → (HasTwo g n y ⊎ ((y ≡ x) × SeenIn g n x)) ↔ HasTwo g (n + 1) y
two_more g n x e y = (
  λ p. elim p [ inl (i, j, ij, jn, a, b) ↦ (i, j, ij, omega arith, a, b) | inr (same, (i, lt, is)) ↦ (i, n, lt, omega arith, is ∙ sym same, sym (same ∙ e)) ],
  λ (i, j, ij, jn, a, b). elim (same_or_below j n jn) [
    | inl low ↦ inl (i, j, ij, low, a, b)
    | inr same ↦ let at : y ≡ x = sym b ∙ (ap (λ j. lhs_of (rule_at g j)) same ∙ sym e) in inr (at, (i, omega (arith, ij, same), a ∙ at))
  ],
)

pub sequence_more : (g : Grammar) (n x : ℕ) → x ≡ lhs_of (rule_at g n) → (y : ℕ) → (HasSequence g n y ⊎ ((y ≡ x) × IsSequenceAt g n)) ↔ HasSequence g (n + 1) y
sequence_more g n x e y = (
  λ p. elim p [ inl (i, lt, q, is) ↦ (i, omega arith, q, is) | inr (same, q) ↦ (n, omega arith, q, sym (same ∙ e)) ],
  λ (i, lt, q, is). elim (same_or_below i n lt) [
    | inl low ↦ inl (i, low, q, is)
    | inr same ↦ inr (sym is ∙ (ap (λ i. lhs_of (rule_at g i)) same ∙ sym e), subst (IsSequenceAt g) same q)
  ],
)

pub sequence_at : (g : Grammar) (i : ℕ) (rule : WrittenRule) (b : Bool) → rule ≡ rule_at g i → b ≡ is_sequence rule → (b ≡ true) ↔ IsSequenceAt g i
sequence_at g i (Plain r) b is e = (λ t. absurd (true≢false (sym t ∙ e)), λ (q, k). let z : Plain r ≡ Sequence q = is ∙ k in absurd (cc))
sequence_at g i (Sequence r) b is e = (λ t. (r, sym is), λ q. e)

left_is : (g : Grammar) (i : ℕ) (r : SequenceRule) → rule_at g i ≡ Sequence r → lhs_of (rule_at g i) ≡ r.lhs
left_is g i r e = ap lhs_of e

pub shared_from : (g : Grammar) (s : ℕ) → HasTwo g (length g.rules) s → HasSequence g (length g.rules) s → IsShared g s
shared_from g s (i, j, ij, jn, a, b) (q, qn, (r, is), e) = elim (same_or_other q i) [
  | inl same ↦ (q, j, r, qn, jn, (λ z. omega (arith, z, same, ij)), is, sym (left_is g q r is) ∙ e, b)
  | inr ne ↦ (q, i, r, qn, omega (arith, ij, jn), ne, is, sym (left_is g q r is) ∙ e, a)
]

pub shared_to : (g : Grammar) (s : ℕ) → IsShared g s → HasTwo g (length g.rules) s × HasSequence g (length g.rules) s
shared_to g s (i, j, r, il, jl, ne, is, at, b) =
    let a : lhs_of (rule_at g i) ≡ s = left_is g i r is ∙ at in
    (two (side i j ne) a b, (i, il, (r, is), a))
  where
    side : (i j : ℕ) → i ≢ j → (i < j) ⊎ (j < i)
    side i j ne = grind arith

    two : (i < j) ⊎ (j < i) → lhs_of (rule_at g i) ≡ s → lhs_of (rule_at g j) ≡ s → HasTwo g (length g.rules) s
    two (inl lt) a b = (i, j, lt, jl, a, b)
    two (inr gt) a b = (j, i, gt, il, b, a)

pub all_alone : (g : Grammar) → IsWritten g → ((s : ℕ) → s < length g.names → IsShared g s → ⊥) → SequencesAreAlone g
all_alone g w none i j il jl r is same = elim (same_or_other i j) [
  | inl e ↦ e
  | inr ne ↦ absurd (none r.lhs (subst (λ s. s < length g.names) (left_is g i r is) (lhs_known g i w il)) (i, j, r, il, jl, ne, is, refl, same))
]

-- TEXTS

pub found_text : (keys : List (Vec ℕ Global)) (v : Vec ℕ Global) → Decides (list_any (λ k. pointwise nat_eq v.items k.items) keys) (Contains (rows_of keys) v.items)
found_text [] v = (λ t. absurd (true≢false (sym t)), λ (j, jl, e). absurd (omega arith))
found_text (k ∷ ks) v = by (pointwise nat_eq v.items k.items) (list_any (λ k. pointwise nat_eq v.items k.items) ks) refl (slice_eq-Decides Decides-eqb v.items k.items (pointwise nat_eq v.items k.items) refl) (found_text ks v)
  where
    first : v.items ≡ k.items → Contains (k.items ∷ rows_of ks) v.items
    first e = (0, omega arith, sym e)

    later : Contains (rows_of ks) v.items → Contains (k.items ∷ rows_of ks) v.items
    later (j, jl, e) = (suc j, omega arith, e)

    split : Contains (k.items ∷ rows_of ks) v.items → (v.items ≡ k.items) ⊎ Contains (rows_of ks) v.items
    split (zero, jl, e) = inl (sym e)
    split (suc j, jl, e) = inr (j, omega arith, e)

    by : (a b : Bool) → pointwise nat_eq v.items k.items ≡ a → Decides a (v.items ≡ k.items) → Decides b (Contains (rows_of ks) v.items) → Decides (a || b) (Contains (k.items ∷ rows_of ks) v.items)
    by true b e d rest = (λ t. first (d.0 refl), λ h. refl)
    by false b e d rest = (λ t. later (rest.0 t), λ h. elim (split h) [ inl is ↦ absurd (true≢false (sym (d.1 is))) | inr r ↦ rest.1 r ])

pub added_text : (old new : List (Vec ℕ Global)) (v : Vec ℕ Global) → new ≡ insert_key (λ x y. pointwise nat_eq x.items y.items) old v → (t : List ℕ) → Contains (rows_of new) t ↔ (Contains (rows_of old) t ⊎ (t ≡ v.items))
added_text old new v e t = by (list_any (λ k. pointwise nat_eq v.items k.items) old) refl
  where
    by : (b : Bool) → list_any (λ k. pointwise nat_eq v.items k.items) old ≡ b → Contains (rows_of new) t ↔ (Contains (rows_of old) t ⊎ (t ≡ v.items))
    by true h =
        let same : new ≡ old = e ∙ ap (λ b. if b then old else old ++ v ∷ []) h in (
          λ c. inl (subst (λ l. Contains (rows_of l) t) same c),
          λ c. subst (λ l. Contains (rows_of l) t) (sym same) (elim c [ inl o ↦ o | inr is ↦ subst (Contains (rows_of old)) (sym is) ((found_text old v).0 h) ]),
        )
    by false h =
        let grown : rows_of new ≡ rows_of old ++ v.items ∷ [] = ap rows_of (e ∙ ap (λ b. if b then old else old ++ v ∷ []) h) ∙ map-append (λ (w : Vec ℕ Global). w.items) old (v ∷ []) in (
          λ c. elim (Contains-push_cases (rows_of old) v.items t (subst (λ l. Contains l t) grown c)) [ inl o ↦ inl o | inr is ↦ inr (sym is) ],
          λ c. subst (λ l. Contains l t) (sym grown) (elim c [ inl o ↦ Contains-append_left (rows_of old) (v.items ∷ []) t o | inr is ↦ subst (Contains (rows_of old ++ v.items ∷ [])) (sym is) (Contains-push (rows_of old) v.items) ]),
        )

pub texts_none : (g : Grammar) (texts : List (List ℕ)) → texts ≡ [] → HasTexts g 0 texts
texts_none g texts e t = (λ h. let (j, jl, is) = subst (λ l. Contains l t) e h in absurd (omega arith), λ (i, r, lt, e, f). absurd (omega arith))

pub texts_skip : (g : Grammar) (i : ℕ) (texts : List (List ℕ)) (q : SequenceRule) → rule_at g i ≡ Sequence q → HasTexts g i texts → HasTexts g (suc i) texts
texts_skip g i texts q is h t = (
  λ c. let (j, r, lt, e, f) = (h t).0 c in (j, r, omega arith, e, f),
  λ (j, r, lt, e, f). elim (same_or_below j i (omega arith)) [
    | inl low ↦ (h t).1 (j, r, low, e, f)
    | inr same ↦ absurd (parted (sym (sym is ∙ (ap (rule_at g) (sym same) ∙ e))))
  ],
)
  where
    parted : {r : PlainRule} → Plain r ≡ Sequence q → ⊥
    parted e = absurd (cc)

pub texts_more : (g : Grammar) (i : ℕ) (old new : List (List ℕ)) (p : PlainRule) (text : List ℕ) → rule_at g i ≡ Plain p → text ≡ p.lhs ∷ p.rhs → HasTexts g i old → ((t : List ℕ) → Contains new t ↔ (Contains old t ⊎ (t ≡ text))) → HasTexts g (suc i) new
texts_more g i old new p text is e h more t = (
  λ c. elim ((more t).0 c) [ inl o ↦ (let (j, r, lt, f, k) = (h t).0 o in (j, r, omega arith, f, k)) | inr at ↦ (i, p, omega arith, is, at ∙ e) ],
  λ (j, r, lt, f, k). (more t).1 (elim (same_or_below j i (omega arith)) [
    | inl low ↦ inl ((h t).1 (j, r, low, f, k))
    | inr same ↦ inr (k ∙ (ap (λ (r : PlainRule). r.lhs ∷ r.rhs) (one r p (sym f ∙ (ap (rule_at g) same ∙ is))) ∙ sym e))
  ]),
)
  where
    one : (r p : PlainRule) → Plain r ≡ Plain p → r ≡ p
    one r p e = cc

pub duplicate_from : (g : Grammar) (i : ℕ) (texts : List (List ℕ)) (p : PlainRule) (text : List ℕ) → rule_at g i ≡ Plain p → text ≡ p.lhs ∷ p.rhs → HasTexts g i texts → Contains texts text ↔ IsDuplicate g i
duplicate_from g i texts p text is e h = (
  λ c. let (j, r, lt, f, k) = (h text).0 c in let same : r.lhs ∷ r.rhs ≡ p.lhs ∷ p.rhs = sym k ∙ e in (j, r, p, lt, f, is, heads r.lhs p.lhs r.rhs p.rhs same, tails r.lhs p.lhs r.rhs p.rhs same),
  λ (j, r, s, lt, f, k, a, b). (h text).1 (j, r, lt, f, e ∙ sym (both r s (one s p (sym k ∙ is)) a b)),
)
  where
    one : (r p : PlainRule) → Plain r ≡ Plain p → r ≡ p
    one r p e = cc

    heads : (a b : ℕ) (xs ys : List ℕ) → a ∷ xs ≡ b ∷ ys → a ≡ b
    heads a b xs ys e = cc

    tails : (a b : ℕ) (xs ys : List ℕ) → a ∷ xs ≡ b ∷ ys → xs ≡ ys
    tails a b xs ys e = cc

    both : (r s : PlainRule) → s ≡ p → r.lhs ≡ s.lhs → r.rhs ≡ s.rhs → r.lhs ∷ r.rhs ≡ p.lhs ∷ p.rhs
    both r s sp a b = cc

pub never_duplicate : (g : Grammar) (i : ℕ) (q : SequenceRule) → rule_at g i ≡ Sequence q → IsDuplicate g i → ⊥
never_duplicate g i q is (j, r, s, lt, f, k, a, b) = let z : Plain s ≡ Sequence q = sym k ∙ is in absurd (cc)

pub fresh_text : (old : List (Vec ℕ Global)) (v : Vec ℕ Global) (new : Bool) → new ≡ not (list_any (λ k. pointwise nat_eq v.items k.items) old) → IsTrue (not new) ↔ Contains (rows_of old) v.items
fresh_text old v new e = by (list_any (λ k. pointwise nat_eq v.items k.items) old) refl
  where
    by : (b : Bool) → list_any (λ k. pointwise nat_eq v.items k.items) old ≡ b → IsTrue (not new) ↔ Contains (rows_of old) v.items
    by true h = (λ t. (found_text old v).0 h, λ c. ap not (e ∙ ap not h))
    by false h = (λ t. absurd (true≢false (sym t ∙ ap not (e ∙ ap not h))), λ c. absurd (true≢false (sym ((found_text old v).1 c) ∙ h)))
