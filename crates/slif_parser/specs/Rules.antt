-- A rule as it is written: its left side, and its parts by their names; a sequence by its item, and by its separator where it has one.
use Rattle.std.specs.Prelude.{ℕ, Bool, true, false, List, [], ◌++◌, Option, Some, None, flat_map, codes}
use Rattle.grammar_model.specs.Grammar.{Grammar, PlainRule, SequenceRule, WrittenRule, Plain, Sequence}
use Rattle.grammar_model.specs.Values.{name_of}

abbrev pub parts_text : Grammar → List ℕ → List ℕ
parts_text g symbols = flat_map (λ s. codes " " ++ name_of g s) symbols

abbrev pub sign_text : (plus : Bool) → List ℕ
sign_text true = codes "+"
sign_text false = codes "*"

abbrev pub separator_text : Grammar → Option ℕ → List ℕ
separator_text g None = []
separator_text g (Some s) = codes " separator => " ++ name_of g s

abbrev pub plain_text : Grammar → PlainRule → List ℕ
plain_text g r = name_of g r.lhs ++ (codes " ::=" ++ parts_text g r.rhs)

abbrev pub sequence_text : Grammar → SequenceRule → List ℕ
sequence_text g r = name_of g r.lhs ++ (codes " ::= " ++ (name_of g r.item ++ (sign_text r.plus ++ separator_text g r.separator)))

abbrev pub rule_text : Grammar → WrittenRule → List ℕ
rule_text g (Plain r) = plain_text g r
rule_text g (Sequence r) = sequence_text g r
