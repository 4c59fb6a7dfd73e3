-- Lexical rules that nothing uses.
use Rattle.std.specs.Prelude.{ℕ, Bool, ◌&&◌, not, if◌then◌else◌, List, [], ◌∷◌, bytes_eq, Option, Some, None}
use Rattle.std.specs.List.{flat_map, list_any}
use Rattle.std.specs.Option.{option_map_or}
use Rattle.language_model.specs.Tokens.{Spelled}
use Rattle.language_model.specs.Description.{Statement, Discard, Quantified, Rules, is_name}
use Rattle.language_model.specs.Building.{left_of, separator_of, parts_of}
use Rattle.lint_hints.specs.Hints.{Hint, Unused, hint_if}

-- the name of a statement's left side
abbrev pub left_name : Statement → List ℕ
left_name s = option_map_or (λ l. l.1.content) (left_of s) []

-- a part is a name, and not this one
abbrev pub is_other : List ℕ → Spelled → Bool
is_other left t = is_name t && not (bytes_eq t.content left)

abbrev pub use_of : List ℕ → Spelled → List (List ℕ)
use_of left t = if is_other left t then t.content ∷ [] else []

-- the parts of the right side, separators included
abbrev pub parts_of_right : Statement → List Spelled
parts_of_right (Discard at item adverbs) = item ∷ []
parts_of_right (Quantified left lexical item plus adverbs) = item ∷ separator_of adverbs
parts_of_right (Rules left lexical groups) = flat_map (flat_map parts_of) groups
parts_of_right _ = []

-- the names on the right side of a statement that are not its left side
abbrev pub uses_of : Statement → List (List ℕ)
uses_of s = flat_map (use_of (left_name s)) (parts_of_right s)

-- whether a statement uses the name
abbrev pub is_used : List Statement → List ℕ → Bool
is_used d name = list_any (bytes_eq name) (flat_map uses_of d)

-- a lexical rule whose left side is not used, by a test of names
abbrev pub unused_left : (List ℕ → Bool) → Option (Bool × Spelled) → List Hint
unused_left used None = []
unused_left used (Some l) = hint_if (l.0 && not (used l.1.content)) l.1.at (Unused l.1.content)

abbrev pub unused : (List ℕ → Bool) → Statement → List Hint
unused used s = unused_left used (left_of s)

abbrev pub unused_hints : List Statement → List Hint
unused_hints d = flat_map (unused (is_used d)) d
