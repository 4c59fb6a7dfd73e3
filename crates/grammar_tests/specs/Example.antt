-- The flat grammar of `E ::= E '+' E | N`, with one start: an instance of what is always so of flat grammars.
use Rattle.std.specs.Prelude.{ℕ, false, [], ◌∷◌}
use Rattle.recognizer_model.specs.declared.flat.FlatSymbol.TheVariants.{Terminal, Slot, Top}
use Rattle.recognizer_model.specs.declared.flat.FlatSource.{FlatSource}
use Rattle.recognizer_model.specs.declared.flat.FlatSource.TheVariants.{Written, Top as OfStart}
use Rattle.recognizer_model.specs.FlatRule.{FlatRule}
use Rattle.recognizer_model.specs.Flat.{FlatGrammar}

-- `E ::= E '+' E`
abbrev pub sum_of_two : FlatRule
sum_of_two = record { lhs = 2; rhs = 2 ∷ 0 ∷ 2 ∷ []; source = Written 0 }

-- a rule of one part
abbrev pub of_one : ℕ → ℕ → FlatSource → FlatRule
of_one lhs part source = record { lhs = lhs; rhs = part ∷ []; source = source }

abbrev pub sums : FlatGrammar
sums = record {
  symbols = Terminal 1 ∷ Terminal 2 ∷ Slot 0 0 ∷ Top 0 ∷ [];
  nullable = false ∷ false ∷ false ∷ false ∷ [];
  rules = sum_of_two ∷ of_one 2 1 (Written 1) ∷ of_one 3 2 (OfStart 0) ∷ [];
  tops = 2 ∷ [];
}
