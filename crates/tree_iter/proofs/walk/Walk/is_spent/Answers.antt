use Rattle.std.proofs.Common.{arith, ◌≡◌, List, [], ◌∷◌, length, refl, sym, ◌∙◌, eqb-true}
use Rattle.tree_iter.proofs.Walks.{none_left}
use Rattle.tree_iter.proofs.walk.Walk.is_spent.Goals as goal

no_elements : {X : Type 0} (xs : List X) → length xs ≡ 0 → xs ≡ []
no_elements [] e = refl
no_elements (x ∷ xs) e = absurd (omega arith)

pub returns : goal.returns
returns c = λ yes rest h.
    none_left c.args.self.now rest (sym c.as_slice.ensures.value ∙ no_elements c.as_slice.result.now (eqb-true (length c.as_slice.result.now) 0 (sym c.is_empty.ensures ∙ yes))) h
