use Rattle.std.proofs.Common.{◌≡◌, List, [], ◌∷◌, map, Bool, true, false, ◌&&◌, Decides, refl, ap}
use Rattle.std.proofs.lemmas.Bool.{eqb-true, eq-eqb}
use Rattle.std.proofs.lemmas.Slice.Eq.{slice_eq-Decides}
use Rattle.grammar_core.specs.declared.steps.TreeStep.{TreeStep}
use Rattle.grammar_core.specs.declared.steps.TreeStep.TheVariants.{Token, Nulled, Rule}
use Rattle.grammar_core.specs.contracts.steps.TreeStepPartialEq.TheImpl as derived
use Rattle.grammar_core.specs.Steps.{step_of}
use Rattle.tree_iter.proofs.jump.are_same.Goals as goal

abbrev E : TreeStep → TreeStep → Bool
E = derived.eq-value.it

both : (a b : Bool) → (a && b) ≡ true → (a ≡ true) × (b ≡ true)
both true true e = (refl, refl)
both true false e = (refl, e)
both false b e = (e, cc)

and : (a b : Bool) → a ≡ true → b ≡ true → (a && b) ≡ true
and true b e e' = e'
and false b e e' = e

decided : (a b : TreeStep) → Decides (E a b) (a ≡ b)
decided (Token s p q) (Token s' p' q') = (
  λ e.
      let (x, yz) = both _ _ e in
      let (y, z) = both _ _ yz in
      (λ i. Token (eqb-true s s' x i) (eqb-true p p' y i) (eqb-true q q' z i)),
  λ e.
      let x : s ≡ s' = cc in
      let y : p ≡ p' = cc in
      let z : q ≡ q' = cc in
      and _ _ (eq-eqb s s' x) (and _ _ (eq-eqb p p' y) (eq-eqb q q' z)),
)
decided (Token s p q) (Nulled s' p') = (λ e. cc, λ e. cc)
decided (Token s p q) (Rule r' n' p' q') = (λ e. cc, λ e. cc)
decided (Nulled s p) (Token s' p' q') = (λ e. cc, λ e. cc)
decided (Nulled s p) (Nulled s' p') = (
  λ e.
      let (x, y) = both _ _ e in
      (λ i. Nulled (eqb-true s s' x i) (eqb-true p p' y i)),
  λ e.
      let x : s ≡ s' = cc in
      let y : p ≡ p' = cc in
      and _ _ (eq-eqb s s' x) (eq-eqb p p' y),
)
decided (Nulled s p) (Rule r' n' p' q') = (λ e. cc, λ e. cc)
decided (Rule r n p q) (Token s' p' q') = (λ e. cc, λ e. cc)
decided (Rule r n p q) (Nulled s' p') = (λ e. cc, λ e. cc)
decided (Rule r n p q) (Rule r' n' p' q') = (
  λ e.
      let (x, rest) = both _ _ e in
      let (y, zw) = both _ _ rest in
      let (z, w) = both _ _ zw in
      (λ i. Rule (eqb-true r r' x i) (eqb-true n n' y i) (eqb-true p p' z i) (eqb-true q q' w i)),
  λ e.
      let x : r ≡ r' = cc in
      let y : n ≡ n' = cc in
      let z : p ≡ p' = cc in
      let w : q ≡ q' = cc in
      and _ _ (eq-eqb r r' x) (and _ _ (eq-eqb n n' y) (and _ _ (eq-eqb p p' z) (eq-eqb q q' w))),
)

step_same : (a b : TreeStep) → step_of a ≡ step_of b → a ≡ b
step_same (Token s p q) (Token s' p' q') e = cc
step_same (Token s p q) (Nulled s' p') e = cc
step_same (Token s p q) (Rule r' n' p' q') e = cc
step_same (Nulled s p) (Token s' p' q') e = cc
step_same (Nulled s p) (Nulled s' p') e = cc
step_same (Nulled s p) (Rule r' n' p' q') e = cc
step_same (Rule r n p q) (Token s' p' q') e = cc
step_same (Rule r n p q) (Nulled s' p') e = cc
step_same (Rule r n p q) (Rule r' n' p' q') e = cc

steps_same : (xs ys : List TreeStep) → map step_of xs ≡ map step_of ys → xs ≡ ys
steps_same [] [] e = refl
steps_same [] (y ∷ ys) e = cc
steps_same (x ∷ xs) [] e = cc
steps_same (x ∷ xs) (y ∷ ys) e =
    let heads : step_of x ≡ step_of y = cc in
    let tails : map step_of xs ≡ map step_of ys = cc in
    (λ i. step_same x y heads i ∷ steps_same xs ys tails i)

pub returns : goal.returns
returns c =
    let d = slice_eq-Decides decided c.args.steps.now c.args.to.now c.eq.result c.eq.ensures in
    (λ t. ap (map step_of) (d.0 t), λ e. d.1 (steps_same c.args.steps.now c.args.to.now e))
