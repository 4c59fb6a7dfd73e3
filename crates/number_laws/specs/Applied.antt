-- The numbers at a small reading: one token of a chain of rules, where the sets leave out one item, which is counted.
use Rattle.std.specs.Prelude.{⊤}
use Rattle.grammar_model.specs.Derives.{Held}
use Rattle.recognizer_model.specs.Chosen.{Allowed}
use Rattle.recognizer_model.specs.FlatForm.{FlatEdges}
use Rattle.recognizer_model.specs.Nodes.{IsStats}
use Rattle.grammar_laws.specs.Reduced.{chain, one_token}

-- every rule, wherever it stands
abbrev pub any_rule : Allowed
any_rule rule from to = ⊤

-- one token; three items are kept before it, and two after it; the forest has three nodes, and brings back one item
abbrev pub NumbersApply : Type 0
NumbersApply = IsStats chain (FlatEdges chain (Held one_token)) any_rule 2 1 1 5 3 1
