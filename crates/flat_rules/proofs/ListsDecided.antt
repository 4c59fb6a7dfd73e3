-- What a check decides of the slots of a small grammar: which are productive, nullable and accessible.
use Rattle.std.proofs.Common.{◌≡◌, ℕ, zero, suc, ◌<◌, ◌≤◌, Bool, true, false, ◌⊎◌, inl, inr, refl, sym, ap, ◌∙◌, subst, arith, lit<, lit≤}
use Rattle.std.specs.Prelude.{◌↔◌, nat_lt}
use Rattle.std.proofs.lemmas.Bool.{true≢false, ltb-true}
use Rattle.grammar_model.specs.Grammar.{Grammar, rule_at, slot_of, child_slot, slot_count, IsTerminal, Fits, EachChildSlot}
use Rattle.grammar_model.specs.Grammar
use Rattle.grammar_model.specs.Analysis.{IsNullable, IsNullableIn, IsProductive, IsProductiveIn, IsAccessible, IsAccessibleIn, IsLive, IsStar}
use Rattle.grammar_model.proofs.Total.{nullable_not_terminal}
use Rattle.recognizer_model.specs.FlatForm.{IsUsedSlot}
use Rattle.flat_model.specs.Flatten.{Decided}
use Rattle.flat_model.specs.Lists.{lists}
use Rattle.grammar_model.proofs.Instances.{terminal}

abbrev pub at : (symbol level : ℕ) → Grammar.Slot
at s k = record { symbol = s; level = k }

left_not : (s : ℕ) → s < 3 → IsTerminal lists s → ⊥
left_not zero lt t = t 0 (lit< tt) refl
left_not (suc zero) lt t = t 1 (lit< tt) refl
left_not (suc (suc zero)) lt t = t 2 (lit< tt) refl
left_not (suc (suc (suc n))) lt t = omega arith

-- ---- productive

abbrev pub is_left : (symbol level : ℕ) → Bool
is_left zero zero = true
is_left (suc zero) zero = true
is_left (suc (suc zero)) zero = true
is_left (suc (suc zero)) (suc zero) = true
is_left (suc (suc zero)) (suc (suc zero)) = true
is_left s k = false

abbrev pub productive : (symbol level : ℕ) → Bool
productive (suc (suc (suc n))) k = true
productive s k = is_left s k

sums_left : (k : ℕ) → k ≤ 2 → is_left 2 k ≡ true
sums_left zero le = refl
sums_left (suc zero) le = refl
sums_left (suc (suc zero)) le = refl
sums_left (suc (suc (suc k))) le = absurd (omega arith)

loosest : (P : ℕ → ℕ → Type 0) (t s k : ℕ) → P t 0 → t ≡ s → k ≤ 0 → P s k
loosest P t s zero h e le = subst (λ z. P z 0) e h
loosest P t s (suc k) h e le = absurd (omega arith)

-- the left side of a rule, at a level that it fits
left_from : (s k i : ℕ) → i < 5 → Fits (rule_at lists i) (at s k) → is_left s k ≡ true
left_from s k zero lt f = loosest (λ s k. is_left s k ≡ true) 0 s k refl f.0 f.1
left_from s k (suc zero) lt f = loosest (λ s k. is_left s k ≡ true) 1 s k refl f.0 f.1
left_from s k (suc (suc zero)) lt f = let le = f.1 in subst (λ z. is_left z k ≡ true) f.0 (sums_left k (omega arith))
left_from s k (suc (suc (suc zero))) lt f = let le = f.1 in subst (λ z. is_left z k ≡ true) f.0 (sums_left k (omega arith))
left_from s k (suc (suc (suc (suc zero)))) lt f = let le = f.1 in subst (λ z. is_left z k ≡ true) f.0 (sums_left k (omega arith))
left_from s k (suc (suc (suc (suc (suc i))))) lt f = absurd (omega arith)

productive_from : (s k n : ℕ) → IsProductiveIn n lists (at s k) → productive s k ≡ true
productive_from (suc (suc (suc s))) k n p = refl
productive_from zero k zero t = absurd (left_not 0 (lit< tt) t)
productive_from zero k (suc n) (inl t) = absurd (left_not 0 (lit< tt) t)
productive_from zero k (suc n) (inr (i, lt, f, how)) = left_from 0 k i lt f
productive_from (suc zero) k zero t = absurd (left_not 1 (lit< tt) t)
productive_from (suc zero) k (suc n) (inl t) = absurd (left_not 1 (lit< tt) t)
productive_from (suc zero) k (suc n) (inr (i, lt, f, how)) = left_from 1 k i lt f
productive_from (suc (suc zero)) k zero t = absurd (left_not 2 (lit< tt) t)
productive_from (suc (suc zero)) k (suc n) (inl t) = absurd (left_not 2 (lit< tt) t)
productive_from (suc (suc zero)) k (suc n) (inr (i, lt, f, how)) = left_from 2 k i lt f

sum_productive : (k : ℕ) → k ≤ 2 → IsProductiveIn 1 lists (at 2 k)
sum_productive k le = inr (2, lit< tt, (refl, le), inr each)
  where
    each : (j : ℕ) → j < 1 → IsProductiveIn 0 lists (child_slot (rule_at lists 2) j)
    each zero lt = terminal 0
    each (suc j) lt = absurd (omega arith)

pub productive_to : (s k : ℕ) → productive s k ≡ true → IsProductive lists (at s k)
productive_to zero zero e = (1, inr (0, lit< tt, (refl, lit≤ tt), inl refl))
productive_to (suc zero) zero e = (2, inr (1, lit< tt, (refl, lit≤ tt), inr (sum_productive 0 (lit≤ tt))))
productive_to (suc (suc zero)) zero e = (1, sum_productive 0 (lit≤ tt))
productive_to (suc (suc zero)) (suc zero) e = (1, sum_productive 1 (lit≤ tt))
productive_to (suc (suc zero)) (suc (suc zero)) e = (1, sum_productive 2 (lit≤ tt))
productive_to (suc (suc (suc n))) k e = (0, terminal n)
productive_to s k e = absurd (true≢false (sym e))

pub productive_is : (s k : ℕ) → (productive s k ≡ true) ↔ IsProductive lists (at s k)
productive_is s k = (productive_to s k, (λ p. productive_from s k p.0 p.1))

-- ---- nullable

abbrev pub nullable : (symbol level : ℕ) → Bool
nullable zero zero = true
nullable s k = false

-- an alternative of E has a terminal
sum_spans : (n i : ℕ) → i < 5 → 1 < i → IsStar (rule_at lists i) ⊎ EachChildSlot (IsNullableIn n lists) (rule_at lists i) → ⊥
sum_spans n zero lt more h = omega arith
sum_spans n (suc zero) lt more h = omega arith
sum_spans n (suc (suc zero)) lt more (inl star) = star
sum_spans n (suc (suc zero)) lt more (inr each) = nullable_not_terminal lists (slot_of 3) (n, each 0 (lit< tt)) (terminal 0)
sum_spans n (suc (suc (suc zero))) lt more (inl star) = star
sum_spans n (suc (suc (suc zero))) lt more (inr each) = nullable_not_terminal lists (slot_of 5) (n, each 1 (lit< tt)) (terminal 2)
sum_spans n (suc (suc (suc (suc zero)))) lt more (inl star) = star
sum_spans n (suc (suc (suc (suc zero)))) lt more (inr each) = nullable_not_terminal lists (slot_of 6) (n, each 1 (lit< tt)) (terminal 3)
sum_spans n (suc (suc (suc (suc (suc i))))) lt more h = omega arith

sums_span : (n : ℕ) → IsNullableIn n lists (at 2 0) → ⊥
sums_span zero h = h
sums_span (suc n) (zero, lt, f, how) = let e = f.0 in omega arith
sums_span (suc n) (suc zero, lt, f, how) = let e = f.0 in omega arith
sums_span (suc n) (suc (suc i), lt, f, how) = sum_spans n (suc (suc i)) lt (omega arith) how

nullable_from : (s k n : ℕ) → IsNullableIn n lists (at s k) → nullable s k ≡ true
nullable_from s k zero h = absurd h
nullable_from s k (suc n) (zero, lt, f, how) = loosest (λ s k. nullable s k ≡ true) 0 s k refl f.0 f.1
nullable_from s k (suc n) (suc zero, lt, f, inl star) = absurd (true≢false star)
nullable_from s k (suc n) (suc zero, lt, f, inr each) = absurd (sums_span n (each 0 (lit< tt)))
nullable_from s k (suc n) (suc (suc i), lt, f, how) = absurd (sum_spans n (suc (suc i)) lt (omega arith) how)

nullable_to : (s k : ℕ) → nullable s k ≡ true → IsNullable lists (at s k)
nullable_to zero zero e = (1, (0, lit< tt, (refl, lit≤ tt), inl refl))
nullable_to s k e = absurd (true≢false (sym e))

pub nullable_is : (s k : ℕ) → (nullable s k ≡ true) ↔ IsNullable lists (at s k)
nullable_is s k = (nullable_to s k, (λ h. nullable_from s k h.0 h.1))

-- ---- accessible

abbrev pub used : (symbol level : ℕ) → Bool
used (suc (suc (suc n))) zero = nat_lt n 4
used (suc (suc (suc n))) (suc k) = false
used s k = is_left s k

abbrev pub is_used : Grammar.Slot → Bool
is_used s = used s.symbol s.level

child_used : (i j : ℕ) → i < 5 → j < slot_count (rule_at lists i) → is_used (child_slot (rule_at lists i) j) ≡ true
child_used zero j lt less = refl
child_used (suc zero) zero lt less = refl
child_used (suc zero) (suc zero) lt less = refl
child_used (suc zero) (suc (suc j)) lt less = absurd (omega arith)
child_used (suc (suc zero)) zero lt less = refl
child_used (suc (suc zero)) (suc j) lt less = absurd (omega arith)
child_used (suc (suc (suc zero))) zero lt less = refl
child_used (suc (suc (suc zero))) (suc zero) lt less = refl
child_used (suc (suc (suc zero))) (suc (suc zero)) lt less = refl
child_used (suc (suc (suc zero))) (suc (suc (suc j))) lt less = absurd (omega arith)
child_used (suc (suc (suc (suc zero)))) zero lt less = refl
child_used (suc (suc (suc (suc zero)))) (suc zero) lt less = refl
child_used (suc (suc (suc (suc zero)))) (suc (suc zero)) lt less = refl
child_used (suc (suc (suc (suc zero)))) (suc (suc (suc j))) lt less = absurd (omega arith)
child_used (suc (suc (suc (suc (suc i))))) j lt less = absurd (omega arith)

used_from : (n : ℕ) (slot : Grammar.Slot) → IsAccessibleIn n lists slot → is_used slot ≡ true
used_from zero slot (s, (zero, lt, e), is) = subst (λ z. is_used z ≡ true) (ap slot_of e ∙ sym is) refl
used_from zero slot (s, (suc k, lt, e), is) = absurd (omega arith)
used_from (suc n) slot (above, acc, prod, (i, lt, fits, (live, (j, less, e)))) = subst (λ z. is_used z ≡ true) e (child_used i j lt less)

live : (i : ℕ) → i < 5 → IsLive lists (rule_at lists i)
live zero lt = productive_to 1 0 refl
live (suc zero) lt = productive_to 2 0 refl
live (suc (suc zero)) lt = each
  where
    each : (j : ℕ) → j < 1 → IsProductive lists (child_slot (rule_at lists 2) j)
    each zero less = productive_to 3 0 refl
    each (suc j) less = absurd (omega arith)
live (suc (suc (suc zero))) lt = each
  where
    each : (j : ℕ) → j < 3 → IsProductive lists (child_slot (rule_at lists 3) j)
    each zero less = productive_to 2 1 refl
    each (suc zero) less = productive_to 5 0 refl
    each (suc (suc zero)) less = productive_to 2 2 refl
    each (suc (suc (suc j))) less = absurd (omega arith)
live (suc (suc (suc (suc zero)))) lt = each
  where
    each : (j : ℕ) → j < 3 → IsProductive lists (child_slot (rule_at lists 4) j)
    each zero less = productive_to 2 0 refl
    each (suc zero) less = productive_to 6 0 refl
    each (suc (suc zero)) less = productive_to 2 1 refl
    each (suc (suc (suc j))) less = absurd (omega arith)
live (suc (suc (suc (suc (suc i))))) lt = absurd (omega arith)

below : (above slot : Grammar.Slot) (i j : ℕ) → IsAccessible lists above → IsProductive lists slot → i < 5 → Fits (rule_at lists i) above → j < slot_count (rule_at lists i) → child_slot (rule_at lists i) j ≡ slot → IsAccessible lists slot
below above slot i j acc prod lt fits less e = (suc acc.0, (above, acc.1, prod, (i, lt, fits, (live i lt, (j, less, e)))))

start_reached : IsAccessible lists (at 0 0)
start_reached = (0, (0, (0, lit< tt, refl), refl))

list_reached : IsAccessible lists (at 1 0)
list_reached = below (at 0 0) (at 1 0) 0 0 start_reached (productive_to 1 0 refl) (lit< tt) (refl, lit≤ tt) (lit< tt) refl

sum_reached : IsAccessible lists (at 2 0)
sum_reached = below (at 1 0) (at 2 0) 1 0 list_reached (productive_to 2 0 refl) (lit< tt) (refl, lit≤ tt) (lit< tt) refl

-- a part of an alternative of E
part_reached : (slot : Grammar.Slot) (i j : ℕ) → IsProductive lists slot → i < 5 → Fits (rule_at lists i) (at 2 0) → j < slot_count (rule_at lists i) → child_slot (rule_at lists i) j ≡ slot → IsAccessible lists slot
part_reached slot i j prod lt fits less e = below (at 2 0) slot i j sum_reached prod lt fits less e

used_to : (s k : ℕ) → used s k ≡ true → IsUsedSlot lists (at s k)
used_to zero zero e = (start_reached, productive_to 0 0 refl)
used_to (suc zero) zero e = (list_reached, productive_to 1 0 refl)
used_to (suc (suc zero)) zero e = (sum_reached, productive_to 2 0 refl)
used_to (suc (suc zero)) (suc zero) e = (part_reached (at 2 1) 3 0 (productive_to 2 1 refl) (lit< tt) (refl, lit≤ tt) (lit< tt) refl, productive_to 2 1 refl)
used_to (suc (suc zero)) (suc (suc zero)) e = (part_reached (at 2 2) 3 2 (productive_to 2 2 refl) (lit< tt) (refl, lit≤ tt) (lit< tt) refl, productive_to 2 2 refl)
used_to (suc (suc (suc zero))) zero e = (part_reached (at 3 0) 2 0 (productive_to 3 0 refl) (lit< tt) (refl, lit≤ tt) (lit< tt) refl, productive_to 3 0 refl)
used_to (suc (suc (suc (suc zero)))) zero e =
    (below (at 1 0) (at 4 0) 1 1 list_reached (productive_to 4 0 refl) (lit< tt) (refl, lit≤ tt) (lit< tt) refl, productive_to 4 0 refl)
used_to (suc (suc (suc (suc (suc zero))))) zero e = (part_reached (at 5 0) 3 1 (productive_to 5 0 refl) (lit< tt) (refl, lit≤ tt) (lit< tt) refl, productive_to 5 0 refl)
used_to (suc (suc (suc (suc (suc (suc zero)))))) zero e = (part_reached (at 6 0) 4 1 (productive_to 6 0 refl) (lit< tt) (refl, lit≤ tt) (lit< tt) refl, productive_to 6 0 refl)
used_to (suc (suc (suc (suc (suc (suc (suc n))))))) zero e = absurd (let lt = ltb-true (suc (suc (suc (suc n)))) 4 e in omega arith)
used_to s k e = absurd (true≢false (sym e))

pub used_is : (s k : ℕ) → (used s k ≡ true) ↔ IsUsedSlot lists (at s k)
used_is s k = (used_to s k, (λ u. used_from u.0.0 (at s k) u.0.1))

pub small : (s k : ℕ) → used s k ≡ true → (s < 7) × (k < 3)
small zero zero e = (lit< tt, lit< tt)
small (suc zero) zero e = (lit< tt, lit< tt)
small (suc (suc zero)) zero e = (lit< tt, lit< tt)
small (suc (suc zero)) (suc zero) e = (lit< tt, lit< tt)
small (suc (suc zero)) (suc (suc zero)) e = (lit< tt, lit< tt)
small (suc (suc (suc n))) zero e = let lt = ltb-true n 4 e in (omega arith, lit< tt)
small s k e = absurd (true≢false (sym e))

abbrev pub decided : Decided lists
decided = record {
  used = is_used;
  used_is = λ s. used_is s.symbol s.level;
  productive = λ s. productive s.symbol s.level;
  productive_is = λ s. productive_is s.symbol s.level;
  nullable = λ s. nullable s.symbol s.level;
  nullable_is = λ s. nullable_is s.symbol s.level;
  symbols = 7;
  below_symbols = λ s u. (small s.symbol s.level ((used_is s.symbol s.level).1 u)).0;
  levels = 3;
  below_levels = λ s u other. (small s.symbol s.level ((used_is s.symbol s.level).1 u)).1;
}
