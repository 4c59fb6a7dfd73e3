-- Heights at a small grammar: a star without separator, a separated list, levels, and a start that is nullable.
use Rattle.std.proofs.Common.{◌≡◌, ◌≢◌, ℕ, zero, suc, ◌<◌, Bool, true, false, List, [], ◌∷◌, inl, inr, Some, None, refl, sym, ap, subst, arith, lit<, lit≤}
use Rattle.std.specs.Prelude.{pos, ◌==◌, ◌&&◌, IsTrue}
use Rattle.std.specs.List.Sorted.{IsStrictlySortedBy}
use Rattle.std.specs.declared.cmp.Ordering.{Ordering}
use Rattle.std.proofs.lemmas.Bool.{true≢false, eqb-true, and_parts}
use Rattle.finite_sets.proofs.Members.{among_from, contains_from, Among}
use Rattle.grammar_model.specs.Grammar.{Left, Sequence, Grammar, Slot, slot_of, rule_at, child_slot, IsTerminal, Fits, slot_count, IsPlain}
use Rattle.grammar_model.specs.Analysis.{IsNullable, IsNullableIn, LeadsTo}
use Rattle.grammar_model.specs.Cycles.{HasHeights}
use Rattle.grammar_model.specs.Listable.{IsListable}
use Rattle.grammar_model.specs.Order.{rank_order}
use Rattle.grammar_model.specs.declared.Ranking.TheVariants.{Rule as RuleRanks}
use Rattle.grammar_model.specs.Simple.{is_terminal}
use Rattle.grammar_model.proofs.Simple.{terminal_from, is_terminal_from}
use Rattle.grammar_model.proofs.Sorting.{ranks_order}
use Rattle.grammar_model.proofs.Examples.{rule}
use Rattle.grammar_model.proofs.Total.{nullable_not_terminal}

-- S ::= L*; L ::= E+ separator => comma; E ::= N || E times E || E plus E, with the numbers 0 S, 1 L, 2 E, 3 N, 4 comma, 5 times, 6 plus
abbrev pub lists : Grammar
lists = record {
  names = [];
  rules = Sequence (record { lhs = 0; item = 1; plus = false; separator = None; proper = false; rank = pos 0; null_high = false })
      ∷ Sequence (record { lhs = 1; item = 2; plus = true; separator = Some 4; proper = false; rank = pos 0; null_high = false })
      ∷ rule 2 (3 ∷ []) 2 3 Left ∷ rule 2 (2 ∷ 5 ∷ 2 ∷ []) 1 3 Left ∷ rule 2 (2 ∷ 6 ∷ 2 ∷ []) 0 3 Left ∷ [];
  starts = 0 ∷ [];
}

abbrev pub height_of_symbol : ℕ → ℕ
height_of_symbol zero = 4
height_of_symbol (suc zero) = 3
height_of_symbol (suc (suc zero)) = 2
height_of_symbol (suc (suc (suc n))) = 1

pub terminal : (n : ℕ) → IsTerminal lists (suc (suc (suc n)))
terminal n zero lt e = omega arith
terminal n (suc zero) lt e = omega arith
terminal n (suc (suc zero)) lt e = omega arith
terminal n (suc (suc (suc zero))) lt e = omega arith
terminal n (suc (suc (suc (suc zero)))) lt e = omega arith
terminal n (suc (suc (suc (suc (suc i))))) lt e = omega arith

sums_span : (k level : ℕ) → IsNullableIn k lists (record { symbol = 2; level = level }) → ⊥
sums_span zero level h = h
sums_span (suc k) level (zero, lt, f, w) = let e = f.0 in omega arith
sums_span (suc k) level (suc zero, lt, f, w) = let e = f.0 in omega arith
sums_span (suc k) level (suc (suc zero), lt, f, inl star) = star
sums_span (suc k) level (suc (suc zero), lt, f, inr each) = nullable_not_terminal lists (slot_of 3) (k, each 0 (lit< tt)) (terminal 0)
sums_span (suc k) level (suc (suc (suc zero)), lt, f, inl star) = star
sums_span (suc k) level (suc (suc (suc zero)), lt, f, inr each) = nullable_not_terminal lists (slot_of 5) (k, each 1 (lit< tt)) (terminal 2)
sums_span (suc k) level (suc (suc (suc (suc zero))), lt, f, inl star) = star
sums_span (suc k) level (suc (suc (suc (suc zero))), lt, f, inr each) = nullable_not_terminal lists (slot_of 6) (k, each 1 (lit< tt)) (terminal 3)
sums_span (suc k) level (suc (suc (suc (suc (suc i)))), lt, f, w) = omega arith

lower : (s t : Slot) (a b : ℕ) → a ≡ s.symbol → b ≡ t.symbol → height_of_symbol b < height_of_symbol a → height_of_symbol t.symbol < height_of_symbol s.symbol
lower s t a b e e' lt = subst (λ z. height_of_symbol z < height_of_symbol s.symbol) e' (subst (λ z. height_of_symbol b < height_of_symbol z) e lt)

falls : (s t : Slot) → LeadsTo lists s t → height_of_symbol t.symbol < height_of_symbol s.symbol
falls s t (zero, lt, f, e) = lower s t 0 1 f.0 (ap (λ z. z.symbol) e) (lit< tt)
falls s t (suc zero, lt, f, e) = lower s t 1 2 f.0 (ap (λ z. z.symbol) e) (lit< tt)
falls s t (suc (suc zero), lt, f, (zero, k, e, others)) = lower s t 2 3 f.0 (ap (λ z. z.symbol) e) (lit< tt)
falls s t (suc (suc zero), lt, f, (suc j, k, e, others)) = omega arith
falls s t (suc (suc (suc zero)), lt, f, (zero, k, e, others)) = absurd (nullable_not_terminal lists (slot_of 5) (others 1 (lit< tt) (λ e. omega arith)) (terminal 2))
falls s t (suc (suc (suc zero)), lt, f, (suc zero, k, e, others)) = let h = others 0 (lit< tt) (λ e. omega arith) in absurd (sums_span h.0 1 h.1)
falls s t (suc (suc (suc zero)), lt, f, (suc (suc zero), k, e, others)) = absurd (nullable_not_terminal lists (slot_of 5) (others 1 (lit< tt) (λ e. omega arith)) (terminal 2))
falls s t (suc (suc (suc zero)), lt, f, (suc (suc (suc j)), k, e, others)) = omega arith
falls s t (suc (suc (suc (suc zero))), lt, f, (zero, k, e, others)) = absurd (nullable_not_terminal lists (slot_of 6) (others 1 (lit< tt) (λ e. omega arith)) (terminal 3))
falls s t (suc (suc (suc (suc zero))), lt, f, (suc zero, k, e, others)) = let h = others 0 (lit< tt) (λ e. omega arith) in absurd (sums_span h.0 0 h.1)
falls s t (suc (suc (suc (suc zero))), lt, f, (suc (suc zero), k, e, others)) = absurd (nullable_not_terminal lists (slot_of 6) (others 1 (lit< tt) (λ e. omega arith)) (terminal 3))
falls s t (suc (suc (suc (suc zero))), lt, f, (suc (suc (suc j)), k, e, others)) = omega arith
falls s t (suc (suc (suc (suc (suc i)))), lt, f, w) = omega arith

pub heights : HasHeights lists
heights = record { height = λ s. height_of_symbol s.symbol; falls = λ s t a p l. falls s t l }

-- the start is nullable, by its star
by_star : IsNullableIn 1 lists (slot_of 0)
by_star = (0, lit< tt, (refl, lit≤ tt), inl refl)

nullable_start : IsNullable lists (slot_of 0)
nullable_start = (1, by_star)

-- ---- a grammar whose derivations can be listed: S ::= B B; B ::= b; B ::=, with the numbers 0 S, 1 B, 2 b. The start is nullable.

abbrev pairs : Grammar
pairs = record { names = []; rules = rule 0 (1 ∷ 1 ∷ []) 0 1 Left ∷ rule 1 (2 ∷ []) 0 1 Left ∷ rule 1 [] 0 1 Left ∷ []; starts = 0 ∷ [] }

abbrev letters : ℕ → ℕ → ℕ → Bool
letters s p q = (s == 2) && (q == suc p)

letters_forward : (s p q : ℕ) → IsTrue (letters s p q) → p < q
letters_forward s p q e = let h = eqb-true q (suc p) (and_parts _ _ e).1 in omega arith

abbrev at_level : ℕ → ℕ → Slot
at_level symbol level = record { symbol = symbol; level = level }

abbrev can_be_nulled : ℕ → ℕ → Bool
can_be_nulled zero zero = true
can_be_nulled (suc zero) zero = true
can_be_nulled (suc (suc s)) zero = false
can_be_nulled s (suc l) = false

b_nulled : IsNullableIn 1 pairs (slot_of 1)
b_nulled = (2, lit< tt, (refl, lit≤ tt), inr (λ k lt. omega arith))

both_nulled : (k : ℕ) → k < 2 → IsNullableIn 1 pairs (child_slot (rule_at pairs 0) k)
both_nulled zero lt = b_nulled
both_nulled (suc zero) lt = b_nulled
both_nulled (suc (suc k)) lt = absurd (omega arith)

s_nulled : IsNullableIn 2 pairs (slot_of 0)
s_nulled = (0, lit< tt, (refl, lit≤ tt), inr both_nulled)

nulled_to : (s l : ℕ) → can_be_nulled s l ≡ true → IsNullable pairs (at_level s l)
nulled_to zero zero e = (2, s_nulled)
nulled_to (suc zero) zero e = (1, b_nulled)
nulled_to (suc (suc s)) zero e = absurd (true≢false (sym e))
nulled_to s (suc l) e = absurd (true≢false (sym e))

-- each rule is of level 0, and its left side is S or B
left_small : (i s l : ℕ) → i < 3 → Fits (rule_at pairs i) (at_level s l) → (l ≡ 0) × (s < 2)
left_small zero s l lt f = let a = f.0 in let b = f.1 in (omega arith, omega arith)
left_small (suc zero) s l lt f = let a = f.0 in let b = f.1 in (omega arith, omega arith)
left_small (suc (suc zero)) s l lt f = let a = f.0 in let b = f.1 in (omega arith, omega arith)
left_small (suc (suc (suc i))) s l lt f = omega arith

small_nulled : (s l : ℕ) → (l ≡ 0) × (s < 2) → can_be_nulled s l ≡ true
small_nulled zero zero h = refl
small_nulled (suc zero) zero h = refl
small_nulled (suc (suc s)) zero h = let a = h.1 in absurd (omega arith)
small_nulled s (suc l) h = let a = h.0 in absurd (omega arith)

nulled_from : (s l : ℕ) → IsNullable pairs (at_level s l) → can_be_nulled s l ≡ true
nulled_from s l (zero, h) = absurd h
nulled_from s l (suc k, (i, lt, f, how)) = small_nulled s l (left_small i s l lt f)

abbrev rules_at : ℕ → ℕ → List ℕ
rules_at zero zero = 0 ∷ []
rules_at (suc zero) zero = 1 ∷ 2 ∷ []
rules_at (suc (suc s)) zero = []
rules_at s (suc l) = []

abbrev by_count : ℕ → ℕ → Ordering
by_count i j = (rank_order pairs RuleRanks).cmp i (slot_count (rule_at pairs i)) j (slot_count (rule_at pairs j))

rules_sorted : (s l : ℕ) → IsStrictlySortedBy by_count (rules_at s l)
unfolding IsStrictlySortedBy
rules_sorted zero zero = (tt, tt)
rules_sorted (suc zero) zero = ((refl, tt), (tt, tt))
rules_sorted (suc (suc s)) zero = tt
rules_sorted s (suc l) = tt

rules_from : (s l i : ℕ) → Among i (rules_at s l) → (i < 3) × Fits (rule_at pairs i) (at_level s l)
rules_from zero zero i (inl e) = subst (λ z. (z < 3) × Fits (rule_at pairs z) (at_level 0 0)) e (lit< tt, (refl, lit≤ tt))
rules_from zero zero i (inr h) = absurd h
rules_from (suc zero) zero i (inl e) = subst (λ z. (z < 3) × Fits (rule_at pairs z) (at_level 1 0)) e (lit< tt, (refl, lit≤ tt))
rules_from (suc zero) zero i (inr (inl e)) = subst (λ z. (z < 3) × Fits (rule_at pairs z) (at_level 1 0)) e (lit< tt, (refl, lit≤ tt))
rules_from (suc zero) zero i (inr (inr h)) = absurd h
rules_from (suc (suc s)) zero i h = absurd h
rules_from s (suc l) i h = absurd h

rules_to : (s l i : ℕ) → i < 3 → Fits (rule_at pairs i) (at_level s l) → Among i (rules_at s l)
rules_to s (suc l) i lt f = let h = (left_small i s (suc l) lt f).0 in absurd (omega arith)
rules_to zero zero zero lt f = inl refl
rules_to zero zero (suc zero) lt f = let e = f.0 in absurd (omega arith)
rules_to zero zero (suc (suc zero)) lt f = let e = f.0 in absurd (omega arith)
rules_to zero zero (suc (suc (suc i))) lt f = absurd (omega arith)
rules_to (suc zero) zero zero lt f = let e = f.0 in absurd (omega arith)
rules_to (suc zero) zero (suc zero) lt f = inl refl
rules_to (suc zero) zero (suc (suc zero)) lt f = inr (inl refl)
rules_to (suc zero) zero (suc (suc (suc i))) lt f = absurd (omega arith)
rules_to (suc (suc s)) zero i lt f = let h = (left_small i (suc (suc s)) 0 lt f).1 in absurd (omega arith)

abbrev pair_height : ℕ → ℕ
pair_height zero = 2
pair_height (suc zero) = 1
pair_height (suc (suc s)) = 0

pairs_capped : (s : ℕ) → pair_height s < 3
pairs_capped zero = lit< tt
pairs_capped (suc zero) = lit< tt
pairs_capped (suc (suc s)) = lit< tt

pairs_fall : (s : Slot) (i k : ℕ) → i < 3 → Fits (rule_at pairs i) s → k < slot_count (rule_at pairs i) → pair_height (child_slot (rule_at pairs i) k).symbol < pair_height s.symbol
pairs_fall s zero zero lt f h = subst (λ z. 1 < pair_height z) f.0 (lit< tt)
pairs_fall s zero (suc zero) lt f h = subst (λ z. 1 < pair_height z) f.0 (lit< tt)
pairs_fall s zero (suc (suc k)) lt f h = omega arith
pairs_fall s (suc zero) zero lt f h = subst (λ z. 0 < pair_height z) f.0 (lit< tt)
pairs_fall s (suc zero) (suc k) lt f h = omega arith
pairs_fall s (suc (suc zero)) k lt f h = omega arith
pairs_fall s (suc (suc (suc i))) k lt f h = omega arith

pairs_plain : (i : ℕ) → i < 3 → IsPlain (rule_at pairs i)
pairs_plain zero lt = tt
pairs_plain (suc zero) lt = tt
pairs_plain (suc (suc zero)) lt = tt
pairs_plain (suc (suc (suc i))) lt = absurd (omega arith)

listable : IsListable pairs letters (rank_order pairs RuleRanks)
listable = record {
  plain = pairs_plain;
  forward = letters_forward;
  order_laws = ranks_order pairs RuleRanks;
  null = λ s. can_be_nulled s.symbol s.level;
  nulls = λ s. (nulled_to s.symbol s.level, nulled_from s.symbol s.level);
  terminal = λ s. is_terminal pairs s.symbol;
  terminals = λ s. (terminal_from pairs s.symbol, is_terminal_from pairs s.symbol);
  rules_of = λ s. rules_at s.symbol s.level;
  rules_sorted = λ s. rules_sorted s.symbol s.level;
  rules_are = λ s i. ((λ c. rules_from s.symbol s.level i (among_from (rules_at s.symbol s.level) i c)), (λ h. contains_from (rules_at s.symbol s.level) i (rules_to s.symbol s.level i h.0 h.1)));
  height = λ s. pair_height s.symbol;
  top = 3;
  capped = λ s. pairs_capped s.symbol;
  falls = λ s i k lt f h others. pairs_fall s i k lt f h;
}
