-- A small grammar with a star without separator, a separated list, levels, and a start that is nullable; and its flat grammar, by hand.
use Rattle.std.specs.Prelude.{◌≡◌, ℕ, false, true, List, [], ◌∷◌, Some, None, pos}
use Rattle.grammar_model.specs.declared.Assoc.TheVariants.{Left}
use Rattle.grammar_model.specs.Grammar.{WrittenRule, Plain, Grammar}
use Rattle.grammar_model.specs.Grammar
use Rattle.grammar_model.specs.Checked.{IsChecked}
use Rattle.recognizer_model.specs.Flat.{FlatGrammar, FlatRule}
use Rattle.recognizer_model.specs.declared.flat.FlatSymbol.TheVariants.{Terminal, Slot, Sequence, Top}
use Rattle.recognizer_model.specs.declared.flat.FlatSource.{FlatSource}
use Rattle.recognizer_model.specs.declared.flat.FlatSource.TheVariants.{Written, Top as OfStart}
use Rattle.recognizer_model.specs.FlatForm.{IsFlatOf}
use Rattle.recognizer_model.specs.Invariant.{IsFlat, IsArranged}
use Rattle.flat_model.specs.Flatten.{Decided, flat_of}

-- an alternative of E
abbrev pub alternative : List ℕ → ℕ → WrittenRule
alternative rhs level = Plain (record { lhs = 2; rhs = rhs; level = level; groups = 3; assoc = Left; rank = pos 0; null_high = false })

-- S ::= L*; L ::= E+ separator => comma; E ::= N || E times E || E plus E, with the numbers 0 S, 1 L, 2 E, 3 N, 4 comma, 5 times, 6 plus
abbrev pub lists : Grammar
lists = record {
  names = [];
  rules = Grammar.Sequence (record { lhs = 0; item = 1; plus = false; separator = None; proper = false; rank = pos 0; null_high = false })
      ∷ Grammar.Sequence (record { lhs = 1; item = 2; plus = true; separator = Some 4; proper = false; rank = pos 0; null_high = false })
      ∷ alternative (3 ∷ []) 2 ∷ alternative (2 ∷ 5 ∷ 2 ∷ []) 1 ∷ alternative (2 ∷ 6 ∷ 2 ∷ []) 0 ∷ [];
  starts = 0 ∷ [];
}

abbrev pub flat_rule : ℕ → List ℕ → FlatSource → FlatRule
flat_rule lhs rhs source = record { lhs = lhs; rhs = rhs; source = source }

abbrev pub flat_lists : FlatGrammar
flat_lists = record {
  symbols = Terminal 3 ∷ Terminal 4 ∷ Terminal 5 ∷ Terminal 6 ∷ Slot 0 0 ∷ Slot 1 0 ∷ Slot 2 0 ∷ Slot 2 1 ∷ Slot 2 2 ∷ Sequence 0 ∷ Sequence 1 ∷ Top 0 ∷ [];
  nullable = false ∷ false ∷ false ∷ false ∷ true ∷ false ∷ false ∷ false ∷ false ∷ false ∷ false ∷ true ∷ [];
  rules = flat_rule 4 (9 ∷ []) (Written 0) ∷ flat_rule 5 (10 ∷ []) (Written 1) ∷ flat_rule 5 (10 ∷ 1 ∷ []) (Written 1)
      ∷ flat_rule 6 (0 ∷ []) (Written 2) ∷ flat_rule 6 (7 ∷ 2 ∷ 8 ∷ []) (Written 3) ∷ flat_rule 6 (6 ∷ 3 ∷ 7 ∷ []) (Written 4)
      ∷ flat_rule 7 (0 ∷ []) (Written 2) ∷ flat_rule 7 (7 ∷ 2 ∷ 8 ∷ []) (Written 3) ∷ flat_rule 8 (0 ∷ []) (Written 2)
      ∷ flat_rule 9 (9 ∷ 5 ∷ []) (Written 0) ∷ flat_rule 9 (5 ∷ []) (Written 0) ∷ flat_rule 10 (10 ∷ 1 ∷ 6 ∷ []) (Written 1) ∷ flat_rule 10 (6 ∷ []) (Written 1)
      ∷ flat_rule 11 (4 ∷ []) (OfStart 0) ∷ [];
  tops = 13 ∷ [];
}

-- the grammar is checked, and that is its flat grammar
pub record ListsHaveFlatGrammar : Type 0 where
  pub checked : IsChecked lists
  pub decided : Decided lists
  pub listed : flat_of lists decided ≡ flat_lists
  pub made : IsFlatOf flat_lists lists
  pub flat : IsFlat flat_lists
  pub arranged : IsArranged flat_lists
