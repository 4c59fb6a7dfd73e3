-- Chains of pairs end: from each pair to the next the place falls, or stays and the symbol has a greater height.
use Rattle.std.proofs.Common.{◌≡◌, inl, inr, ℕ, zero, suc, ◌+◌, ◌*◌, ◌<◌, ◌≤◌, length, List, Some, refl, sym, subst, arith}
use Rattle.std.proofs.lemmas.Bool.{cases_lt}
use Rattle.std.proofs.lemmas.Option.{slice_get_within}
use Rattle.finite_sets.proofs.Deciding.{less}
use Rattle.finite_sets.proofs.Members.{values, among_values}
use Rattle.finite_sets.proofs.Choosing.{count, count_less}
use Rattle.recognizer_model.specs.declared.Item.{Item}
use Rattle.recognizer_model.specs.Flat.{FlatGrammar, lhs_of, rhs_of}
use Rattle.recognizer_model.specs.Invariant.{IsFlat, LeadsOver}
use Rattle.item_rows.specs.Kept.{AreRows}
use Rattle.leo_items.specs.ByRows.{IsLeoIn, IsStepIn, AreNulled}
use Rattle.leo_items.proofs.Chains.{leo_inside}

all_counted : (n : ℕ) → count (λ (z : ℕ). Unit {0}) (λ z. inl tt) (values (λ k. k) n) ≡ n
all_counted zero = refl
all_counted (suc n) = let e = all_counted n in omega (arith, e)

module _ (g : FlatGrammar) (flat : IsFlat g) where
  abbrev height : ℕ → ℕ
  height x = flat.heights.height x

  -- how many symbols have a greater height
  pub above : ℕ → ℕ
  above x = count (λ y. height x < height y) (λ y. less (height x) (height y)) (values (λ k. k) (length g.symbols))

  above_few : (x : ℕ) → x < length g.symbols → above x < length g.symbols
  unfolding above
  above_few x lt =
      let c = count_less (λ y. height x < height y) (λ (z : ℕ). Unit {0}) (λ y. less (height x) (height y)) (λ z. inl tt) (λ y h. tt) (values (λ k. k) (length g.symbols)) x (among_values (λ k. k) (length g.symbols) x lt) (λ h. omega (arith, h)) tt in
      let n = all_counted (length g.symbols) in
      omega (arith, c, n)

  above_falls : (x y : ℕ) → y < length g.symbols → height x < height y → above y < above x
  unfolding above
  above_falls x y lt rises =
      count_less (λ z. height y < height z) (λ z. height x < height z) (λ z. less (height y) (height z)) (λ z. less (height x) (height z)) (λ z h. omega (arith, h, rises))
      (values (λ k. k) (length g.symbols)) y (among_values (λ k. k) (length g.symbols) y lt) (λ h. omega (arith, h)) rises

  -- how far a pair is from the end of its chain, at most
  pub far : (earleme symbol : ℕ) → ℕ
  far i x = i * 4294967295 + above x

  pub far_bound : (i x : ℕ) → i < 4294967296 → x < length g.symbols → far i x ≤ 18446744069414584319
  unfolding far
  far_bound i x lt inside = let few = above_few x inside in let short = flat.in_range.symbols in omega (arith, few, short, lt)

  module _ (rows : List (List Item)) (are : AreRows g rows) (nulled : AreNulled g rows) where
    over : (i x : ℕ) (item : Item) → IsLeoIn g rows i x item → item.origin ≡ i → LeadsOver g item.rule item.dot
    over i x item leo here other y differs e = elim (cases_lt other item.dot) [
      | inl before ↦ nulled i item leo.there here other y before e
      | inr le ↦ (let lt = slice_get_within (rhs_of g item.rule) other y e in let last = leo.last in absurd (differs (omega (arith, le, lt, last))))
    ]

    falls : (i x : ℕ) (item : Item) → IsLeoIn g rows i x item → far item.origin (lhs_of g item.rule) < far i x
    unfolding far
    falls i x item leo =
        let (rule, le) = leo_inside g rows are leo in
        let few = above_few (lhs_of g item.rule) (flat.in_range.left item.rule rule) in
        let short = flat.in_range.symbols in
        elim (cases_lt item.origin i) [
          | inl lt ↦ omega (arith, lt, few, short)
          | inr ge ↦
              let here : item.origin ≡ i = omega (arith, le, ge) in
              let rises = flat.heights.falls item.rule item.dot x rule leo.waits (over i x item leo here) in
              let less = above_falls x (lhs_of g item.rule) (flat.in_range.left item.rule rule) rises in
              omega (arith, here, less)
        ]

    -- the pair above a step is nearer to the end
    pub step_falls : (i x : ℕ) (step : Item) → IsStepIn g rows i x (Some step) → far step.origin (lhs_of g step.rule) < far i x
    step_falls i x step (item, leo, same) = subst (λ (s : Item). far s.origin (lhs_of g s.rule) < far i x) (sym same) (falls i x item leo)

    -- the symbol of a pair with a step is one
    pub symbol_there : (i x : ℕ) (item : Item) → IsLeoIn g rows i x item → x < length g.symbols
    symbol_there i x item leo = flat.in_range.parts item.rule item.dot x ((leo_inside g rows are leo).0) leo.waits
