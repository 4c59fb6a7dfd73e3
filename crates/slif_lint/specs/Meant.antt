-- Lines whose comment says that what stands there is meant.
use Rattle.std.specs.Prelude.{ℕ, suc, Bool, ◌+◌, ◌-◌, ◌==◌, ◌&&◌, not, List, take, drop, codes, slice_range}
use Rattle.std.specs.List.{prefix_len}
use Rattle.std.specs.Str.{encode_utf8_all}
use Rattle.outside_model.specs.Places.{column_after}
use Rattle.lint_hints.specs.Hints.{has_piece}
use Rattle.slif_lint.specs.Sentences.{is_place}

-- the line in which a character stands, without its end: where it begins, and where it ends
abbrev pub line_start : List ℕ → ℕ → ℕ
line_start cs at = suc at - column_after (take at cs)

abbrev pub line_end : List ℕ → ℕ → ℕ
line_end cs at = at + prefix_len (λ c. not (c == 10)) (drop at cs)

abbrev pub line_around : List ℕ → ℕ → List ℕ
line_around cs at = slice_range cs (line_start cs at) (line_end cs at)

abbrev pub is_meant : List ℕ → ℕ → Bool
is_meant cs at = is_place cs at && has_piece (codes "# meant") (encode_utf8_all (line_around cs at))
