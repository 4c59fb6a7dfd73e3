-- What is told of a grammar that a check refuses.
-- Source: the Libmarpa manual (errors of precomputation); the texts are our own.
use Rattle.std.specs.Prelude.{ℕ, ◌++◌, List, [], ◌∷◌, map, flat_map, codes, decimal}
use Rattle.grammar_model.specs.Grammar.{Grammar, rule_at, lhs_of}
use Rattle.grammar_model.specs.Values.{name_of}
use Rattle.grammar_model.specs.Checked.{Refusal, NoRules, NoStart, StartNotLhs, SequenceLhs, Duplicate, CountedNullable, UnproductiveStart, Cyclic}

-- names, parted by commas
abbrev pub listed : List (List ℕ) → List ℕ
listed [] = codes "none"
listed (name ∷ names) = name ++ flat_map (λ n. codes ", " ++ n) names

abbrev pub left_name : Grammar → ℕ → List ℕ
left_name g rule = name_of g (lhs_of (rule_at g rule))

abbrev pub refusal_text : Grammar → Refusal → List ℕ
refusal_text g NoRules = codes "no rules"
refusal_text g NoStart = codes "no start symbol"
refusal_text g (StartNotLhs symbol) = codes "start symbol " ++ (name_of g symbol ++ codes " has no rule")
refusal_text g (SequenceLhs symbol) = name_of g symbol ++ codes " is a sequence and has another rule"
refusal_text g (Duplicate rule) = codes "rule " ++ (decimal rule ++ (codes " of " ++ (left_name g rule ++ codes " is a duplicate")))
refusal_text g (CountedNullable rule) = codes "sequence " ++ (left_name g rule ++ codes " has a nullable item or separator")
refusal_text g (UnproductiveStart symbol) = codes "start symbol " ++ (name_of g symbol ++ codes " is unproductive")
refusal_text g (Cyclic cycle) = codes "cyclic: " ++ listed (map (λ slot. name_of g slot.symbol) cycle)
