-- What stands between the quotes of a quoted text.
use Rattle.std.specs.Prelude.{ℕ, ◌-◌, List, length, take, drop}
use Rattle.language_model.specs.Classes.{modifier_len}

abbrev pub between_quotes : List ℕ → List ℕ
between_quotes text = take (length text - modifier_len text - 2) (drop 1 text)
