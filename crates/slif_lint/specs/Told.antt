-- What is written of the hints about a grammar: a line for each, in the order of their places, but for those on lines that say that it is meant so.
use Rattle.std.specs.Prelude.{◌≡◌, ℕ, Bool, not, if◌then◌else◌, List, [], map, count_by, Option, IsPermutation}
use Rattle.std.specs.List.{flat_map}
use Rattle.std.specs.List.Sorted.{IsNonDecreasingBy}
use Rattle.std.specs.Str.{chars}
use Rattle.language_model.specs.Description.{Statement}
use Rattle.std.specs.Io.KnownBytes.{Appends}
use Rattle.slif_lint.specs.Described.{IsDescriptionOf}
use Rattle.lint_hints.specs.declared.hint.Hint.{Hint as HeldHint}
use Rattle.lint_hints.specs.Hints.{hint_of}
use Rattle.lint_hints.specs.All.{AreHints}
use Rattle.slif_lint.specs.Meant.{is_meant}
use Rattle.slif_lint.specs.Sentences.{line_text}

abbrev pub place : HeldHint → ℕ
place h = h.at

-- all hints, in the order of their places
pub record AreListed (d : List Statement) (hints : List HeldHint) : Type 0 where
  pub found : List HeldHint
  pub are : AreHints d (map hint_of found)
  pub permutation : IsPermutation found hints
  pub sorted : IsNonDecreasingBy place hints

-- whether a hint is told, and its line if it is
abbrev pub is_told : List ℕ → HeldHint → Bool
is_told cs hint = not (is_meant cs hint.at)

abbrev pub told_line : List ℕ → HeldHint → List ℕ
told_line cs hint = if is_told cs hint then line_text cs (hint_of hint) else []

-- so many hints about statements are written, by the characters of the text
pub record AreTold (d : List Statement) (cs : List ℕ) (count : ℕ) (written : List ℕ) : Type 0 where
  pub hints : List HeldHint
  pub listed : AreListed d hints
  pub count_is : count ≡ count_by (is_told cs) hints
  pub is : written ≡ flat_map (told_line cs) hints

-- so many hints about a grammar are written
pub record IsWritten (grammar : List ℕ) (count : ℕ) (old new : Option (List ℕ)) : Type 0 where
  pub statements : List Statement
  pub written : List ℕ
  pub described : IsDescriptionOf statements (chars grammar)
  pub told : AreTold statements (chars grammar) count written
  pub appended : Appends old new written
