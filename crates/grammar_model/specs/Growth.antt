-- How a grammar grows: by names, each of which stands once, and by rules and starts.
use Rattle.std.specs.Prelude.{ℕ, Bool, if◌then◌else◌, List, [], ◌∷◌, ◌++◌}
use Rattle.std.specs.List.{list_any, position_or_len}
use Rattle.std.specs.Str.{bytes_eq}
use Rattle.grammar_model.specs.Grammar.{WrittenRule, Grammar}

abbrev pub has_name : Grammar → List ℕ → Bool
has_name g name = list_any (bytes_eq name) g.names

-- the number of the symbol with this name, or the next one
abbrev pub number_of : Grammar → List ℕ → ℕ
number_of g name = position_or_len (bytes_eq name) g.names

abbrev pub with_name : Grammar → List ℕ → Grammar
with_name g name = record { names = (if has_name g name then g.names else g.names ++ name ∷ []); rules = g.rules; starts = g.starts }

abbrev pub with_rule : Grammar → WrittenRule → Grammar
with_rule g rule = record { names = g.names; rules = g.rules ++ rule ∷ []; starts = g.starts }

abbrev pub with_start : Grammar → ℕ → Grammar
with_start g symbol = record { names = g.names; rules = g.rules; starts = g.starts ++ symbol ∷ [] }
