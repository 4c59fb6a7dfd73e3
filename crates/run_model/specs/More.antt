-- The lines that job `more` tells: those of the derivations after a place, and where to go on.
-- Source: the Libmarpa manual (bocage, order, tree, value); the texts are our own.
use Rattle.std.specs.Prelude.{ℕ, ◌++◌, List, [], ◌∷◌, length, map, Option, codes}
use Rattle.grammar_model.specs.Trees.{Tree}
use Rattle.grammar_model.specs.Steps.{steps_of}
use Rattle.grammar_model.specs.declared.Show.{Show}
use Rattle.cursor_model.specs.Rest.{place_after}
use Rattle.language_model.specs.Building.{Built}
use Rattle.reading_model.specs.Reading.{Piece}
use Rattle.run_model.specs.Listing.{line_of, first_of, beyond}

abbrev pub end_line : List ℕ
end_line = codes "end\n"

-- that nothing is left, or the place after those given
abbrev pub last_line : (after : List ℕ) → (given left : List Tree) → List ℕ
last_line after given [] = end_line
last_line after given (tree ∷ left) = codes "cursor: " ++ (place_after after given ++ 10 ∷ [])

-- so many of those that are left after a place, and a last line
abbrev pub page_lines :
    Built → Show → (first : Option ℕ) → (after cs : List ℕ) → List Piece → (rest : List Tree) →
    List (List ℕ)
page_lines b show first after cs pieces rest =
    map (line_of b show cs pieces) (first_of first rest)
    ++ last_line after (first_of first rest) (beyond first rest) ∷ []

-- how many steps the last of these has, where there is one
abbrev pub last_steps : List Tree → ℕ
last_steps [] = 0
last_steps (tree ∷ []) = length (steps_of tree)
last_steps (tree ∷ next ∷ trees) = last_steps (next ∷ trees)
