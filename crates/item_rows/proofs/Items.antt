-- Items that differ.
use Rattle.std.proofs.Common.{rules, ◌≡◌, ◌≢◌, ◌==◌, ◌&&◌, Bool, true, List, sym, ◌∙◌, ap}
use Rattle.std.specs.Cmp.{IsEquivalence}
use Rattle.std.specs.Cmp.Rules.{comparing}
use Rattle.std.specs.List.{AllPairs}
use Rattle.std.specs.List.Sorted.{IsPermutation}
use Rattle.std.proofs.lemmas.Bool.{and_parts, eqb-true}
use Rattle.std.proofs.lemmas.Map.Keys.{IsDistinct-IsPermutation}
use Rattle.std.proofs.lemmas.Map.Made.{AllPairs-from_IsDistinct, IsDistinct-from_AllPairs}
use Rattle.recognizer_model.specs.declared.Item.{Item}

-- whether two items are the same, field by field
abbrev pub item_eq : Item → Item → Bool
item_eq x y = (x.rule == y.rule) && ((x.dot == y.dot) && (x.origin == y.origin))

pub item_eq-true : (x y : Item) → item_eq x y ≡ true → x ≡ y
item_eq-true x y h =
    let (a, bc) = and_parts (x.rule == y.rule) ((x.dot == y.dot) && (x.origin == y.origin)) h in
    let (b, c) = and_parts (x.dot == y.dot) (x.origin == y.origin) bc in
    let ea = eqb-true x.rule y.rule a in
    let eb = eqb-true x.dot y.dot b in
    let ec = eqb-true x.origin y.origin c in
    λ i. record { rule = ea i; dot = eb i; origin = ec i }

pub item_eq-laws : IsEquivalence item_eq
item_eq-laws = search (comparing, rules)

-- items that differ do so in another order
pub once_permuted : (xs ys : List Item) → IsPermutation xs ys → AllPairs (λ x y. x ≢ y) xs → AllPairs (λ x y. x ≢ y) ys
once_permuted xs ys p once =
    AllPairs-from_IsDistinct (λ a b. (item_eq-true a b, λ e. ap (item_eq a) (sym e) ∙ item_eq-laws.refl a)) ys
    (IsDistinct-IsPermutation item_eq item_eq-laws.symm xs ys p (IsDistinct-from_AllPairs (λ a b. (item_eq-true a b, λ e. ap (item_eq a) (sym e) ∙ item_eq-laws.refl a)) xs once))
