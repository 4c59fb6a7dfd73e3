-- The lines of the names of symbols.
use Rattle.std.proofs.Common.{◌≡◌, ℕ, ◌++◌, [], ◌∷◌, List, map, ap, ◌∙◌}
use Rattle.grammar_model.specs.Grammar.{Grammar}
use Rattle.grammar_model.specs.Values.{name_of}
use Rattle.language_model.specs.Building.{Built}

pub names_as : (b : Built) (w : Grammar) (xs ys : List ℕ) (lines : List (List ℕ)) → w ≡ b.g1 → xs ≡ ys → lines ≡ map (λ s. name_of w s ++ 10 ∷ []) xs → lines ≡ map (λ s. name_of b.g1 s ++ 10 ∷ []) ys
names_as b w xs ys lines same is e = e ∙ ap (λ (g : Grammar). map (λ s. name_of g s ++ 10 ∷ []) xs) same ∙ ap (map (λ s. name_of b.g1 s ++ 10 ∷ [])) is
