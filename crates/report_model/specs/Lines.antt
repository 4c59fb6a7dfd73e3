-- The line that is told of an item of a report.
use Rattle.std.specs.Prelude.{ℕ, ◌++◌, List, [], ◌∷◌, codes, decimal}
use Rattle.grammar_model.specs.Grammar.{Grammar, rule_at, lhs_of}
use Rattle.grammar_model.specs.Values.{name_of}
use Rattle.recognizer_model.specs.declared.ReportLine.{ReportLine}

-- an item by its written rule, its dot, its origin, the place of the report, and the rule's left side
abbrev pub report_line : Grammar → (at : ℕ) → ReportLine → List ℕ
report_line g at l =
    decimal l.rule ++ (codes ":" ++ (decimal l.dot ++ (codes " @" ++ (decimal l.origin ++ (codes "-" ++ (decimal at ++ (codes " " ++ (name_of g (lhs_of (rule_at g l.rule)) ++ 10 ∷ []))))))))
