-- Keys of nodes that stand in a set.
use Rattle.std.proofs.Common.{rules, ◌≡◌, ◌==◌, ◌&&◌, ◌≢◌, ◌↔◌, ℕ, zero, suc, ◌<◌, length, get_or, subst, arith, Bool, true, false, List, [], ◌∷◌, Contains, sym, ◌∙◌, true≢false}
use Rattle.std.specs.Cmp.{IsEquivalence}
use Rattle.std.specs.Cmp.Rules.{comparing}
use Rattle.std.specs.List.{list_any, IsDistinct, AllPairs, AllByRecursion}
use Rattle.std.proofs.lemmas.Bool.{and_parts, eqb-true}
use Rattle.std.proofs.lemmas.Map.Views.{Contains-from_any, list_any-from_Contains}
use Rattle.recognizer_model.specs.declared.NodeKey.{NodeKey}

abbrev pub node_eq : NodeKey → NodeKey → Bool
node_eq x y = (x.rule == y.rule) && ((x.dot == y.dot) && ((x.origin == y.origin) && (x.end == y.end)))

node_laws : IsEquivalence node_eq
node_laws = search (comparing, rules)

node_eq-true : (x y : NodeKey) → node_eq x y ≡ true → x ≡ y
node_eq-true x y h =
    let (a, bcd) = and_parts (x.rule == y.rule) ((x.dot == y.dot) && ((x.origin == y.origin) && (x.end == y.end))) h in
    let (b, cd) = and_parts (x.dot == y.dot) ((x.origin == y.origin) && (x.end == y.end)) bcd in
    let (c, d) = and_parts (x.origin == y.origin) (x.end == y.end) cd in
    let ea = eqb-true x.rule y.rule a in
    let eb = eqb-true x.dot y.dot b in
    let ec = eqb-true x.origin y.origin c in
    let ed = eqb-true x.end y.end d in
    λ i. record { rule = ea i; dot = eb i; origin = ec i; end = ed i }

-- what a look-up of a key tells
pub key_there : (xs : List NodeKey) (x : NodeKey) (b : Bool) → b ≡ list_any (node_eq x) xs → (b ≡ true) ↔ Contains xs x
key_there xs x b e = (λ t. Contains-from_any node_eq-true x xs (sym e ∙ t), λ there. e ∙ list_any-from_Contains node_laws x xs there)

all_at : (P : NodeKey → Type 0) (xs : List NodeKey) (j : ℕ) (d : NodeKey) → AllByRecursion P xs → j < length xs → P (get_or xs j d)
all_at P [] j d h lt = absurd (omega arith)
all_at P (x ∷ xs) zero d h lt = h.0
all_at P (x ∷ xs) (suc j) d h lt = all_at P xs j d h.1 (omega arith)

pub nodes_differ : (xs : List NodeKey) → IsDistinct node_eq xs → AllPairs (λ x y. x ≢ y) xs
unfolding IsDistinct
nodes_differ [] h i j d lt below e = absurd (omega arith)
nodes_differ (x ∷ xs) h zero zero d lt below e = absurd (omega arith)
nodes_differ (x ∷ xs) h zero (suc j) d lt below e =
    let differ = all_at (λ y. node_eq x y ≡ false) xs j d h.0 (omega arith) in
    true≢false (sym (node_laws.refl x) ∙ subst (λ z. node_eq x z ≡ false) (sym e) differ)
nodes_differ (x ∷ xs) h (suc i) zero d lt below e = absurd (omega arith)
nodes_differ (x ∷ xs) h (suc i) (suc j) d lt below e = nodes_differ xs h.1 i j d (omega arith) (omega arith) e
