-- What is built of the statements of the job's own grammar: they have no fault, and these are their grammars and tables.
use Rattle.std.proofs.Common.{◌≡◌, ℕ, false, true, List, [], ◌∷◌, None, pos, codes, refl}
use Rattle.std.specs.Str.{chars}
use Rattle.std.specs.Fmt.{digits}
use Rattle.grammar_model.specs.declared.Assoc.TheVariants.{Left}
use Rattle.grammar_model.specs.Grammar.{WrittenRule, Plain, Grammar}
use Rattle.grammar_model.specs.Values.{MakeUndefined, RuleMeaning}
use Rattle.language_model.specs.declared.class.ClassItem.TheVariants.{Span}
use Rattle.language_model.specs.Classes.{Class}
use Rattle.language_model.specs.Building.{Built, LexemeRow, faults_of, built_of}
use Rattle.language_model.specs.Texts.{IsBuiltOf}
use Rattle.run_model.specs.Jobs.{work_grammar}
use Rattle.work_laws.proofs.Text.{work_description, has_description}

abbrev rule : ℕ → List ℕ → WrittenRule
rule lhs rhs = Plain (record { lhs = lhs; rhs = rhs; level = 0; groups = 1; assoc = Left; rank = pos 0; null_high = false })

abbrev pub character : ℕ → Class
character c = record { negated = false; caseless = false; items = Span c c ∷ [] }

abbrev pub row : ℕ → ℕ → LexemeRow
row symbol start = record { symbol = symbol; start = start; priority = pos 0; latm = false }

-- L ::= I L | I and I ::= 'a' | '(' L ')', with the numbers 0 L, 1 I, 2 'a', 3 '(', 4 ')'
abbrev pub work_g1 : Grammar
work_g1 = record {
  names = codes "L" ∷ codes "I" ∷ codes "'a'" ∷ codes "'('" ∷ codes "')'" ∷ [];
  rules = rule 0 (1 ∷ 0 ∷ []) ∷ rule 0 (1 ∷ []) ∷ rule 1 (2 ∷ []) ∷ rule 1 (3 ∷ 0 ∷ 4 ∷ []) ∷ [];
  starts = 0 ∷ [];
}

-- a rule for each quoted character, with the numbers 0 'a', 1 '(', 2 ')', and 3, 4, 5 of their sets
abbrev pub work_l0 : Grammar
work_l0 = record {
  names = codes "'a'" ∷ codes "'('" ∷ codes "')'" ∷ codes ":0" ∷ codes ":1" ∷ codes ":2" ∷ [];
  rules = rule 0 (3 ∷ []) ∷ rule 1 (4 ∷ []) ∷ rule 2 (5 ∷ []) ∷ [];
  starts = 0 ∷ 1 ∷ 2 ∷ [];
}

abbrev shown : List RuleMeaning
shown =
    record { action = MakeUndefined; shown = true ∷ true ∷ []; sequence = false; separated = false }
    ∷ record { action = MakeUndefined; shown = true ∷ []; sequence = false; separated = false }
    ∷ record { action = MakeUndefined; shown = true ∷ []; sequence = false; separated = false }
    ∷ record { action = MakeUndefined; shown = true ∷ true ∷ true ∷ []; sequence = false; separated = false } ∷ []

abbrev pub work_built : Built
work_built = record {
  g1 = work_g1;
  l0 = work_l0;
  sets = (3, character 97) ∷ (4, character 40) ∷ (5, character 41) ∷ [];
  lexemes = row 2 0 ∷ row 3 1 ∷ row 4 2 ∷ [];
  discards = [];
  meaning = record { rules = shown; lexeme = None };
}

faultless : faults_of work_description ≡ []
unfolding chars
faultless = refl

built : work_built ≡ built_of work_description
unfolding chars digits
built = refl

pub is_built_of : IsBuiltOf work_description work_built
is_built_of = record { described = (work_grammar, has_description); faultless = faultless; is = built }
