-- What clap's matches give to each name.
use Rattle.std.specs.Prelude.{ℕ, List, Option, Some, None, bytes_eq, codes, if◌then◌else◌}
use Rattle.clap.specs.Words.{first_value}
use Rattle.clap.specs.declared.parser.matches.Found.{Found}
use Rattle.words_model.specs.Words.{stats}

-- a flag has the value `true` where it is given, and else the value `false`
abbrev pub flag_given : Option (List ℕ) → Option (List ℕ)
flag_given None = None
flag_given (Some value) = if bytes_eq value (codes "true") then Some value else None

abbrev pub given_in : Found → (name : List ℕ) → Option (List ℕ)
given_in found name = if bytes_eq name stats then flag_given (first_value found stats) else first_value found name
