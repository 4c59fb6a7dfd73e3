-- Steps that were written the last one first.
use Rattle.std.proofs.Common.{◌≡◌, Bool, true, false, List, [], ◌∷◌, ◌++◌, map, Contains, refl, sym, ◌∙◌, ap, subst}
use Rattle.std.specs.Prelude.{reverse, not, ◌&&◌, IsTrue}
use Rattle.std.proofs.lemmas.List.{map-append, reverse-append}
use Rattle.finite_sets.proofs.Members.{among_from, contains_from, among_map}
use Rattle.grammar_model.specs.Steps.{Step}
use Rattle.flat_steps.specs.declared.writing.FlatStep.{FlatStep}
use Rattle.flat_steps.specs.Writing.{flat_step}
use Rattle.first_walk.specs.Going.{backwards}

pub backwards_push : (new old : List FlatStep) (step : FlatStep) → new ≡ old ++ step ∷ [] → backwards new ≡ flat_step step ∷ backwards old
backwards_push new old step e =
    ap backwards e ∙ ap reverse (map-append flat_step old (step ∷ [])) ∙ reverse-append (map flat_step old) (flat_step step ∷ [])

pub map_reverse : {X Y : Type 0} (f : X → Y) (xs : List X) → map f (reverse xs) ≡ reverse (map f xs)
map_reverse f [] = refl
map_reverse f (x ∷ xs) =
    ap (map f) (reverse-append (x ∷ []) xs) ∙ map-append f (reverse xs) (x ∷ []) ∙ ap (λ l. l ++ f x ∷ []) (map_reverse f xs) ∙ sym (reverse-append (f x ∷ []) (map f xs))

pub turned : (steps : List FlatStep) (step : FlatStep) → Contains (reverse steps) step → Contains (backwards steps) (flat_step step)
turned steps step h =
    subst (λ (l : List Step). Contains l (flat_step step)) (map_reverse flat_step steps)
    (contains_from (map flat_step (reverse steps)) (flat_step step) (among_map flat_step step (reverse steps) (among_from (reverse steps) step h)))

-- where a walk gives up, it looks for the only one, and has met another
pub gives_up : (only alone : Bool) → (only && not alone) ≡ true → IsTrue only × (alone ≡ false)
gives_up true true e = let no : false ≡ true = e in absurd (cc)
gives_up true false e = (refl, refl)
gives_up false alone e = let no : false ≡ true = e in absurd (cc)
