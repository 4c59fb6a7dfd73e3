-- The laws at small grammars: ambiguous sums, a rule that is its own part, and a grammar of lists with its flat grammar.
use Rattle.std.specs.Prelude.{ℕ, suc, Bool, false, ◌&&◌, ◌==◌, List, [], ◌∷◌, slice_index, pos}
use Rattle.finite_sets.specs.Decided.{IsDecided}
use Rattle.grammar_model.specs.declared.Assoc.TheVariants.{Left}
use Rattle.grammar_model.specs.declared.Edge.{Edge}
use Rattle.grammar_model.specs.Grammar.{WrittenRule, Plain, Grammar, slot_of}
use Rattle.grammar_model.specs.Trees.{Tree}
use Rattle.grammar_model.specs.Derives.{Held, Derives}
use Rattle.grammar_model.specs.Checked.{IsChecked, Refusal, Refuses}
use Rattle.grammar_model.specs.Acceptable.{IsAcceptable}
use Rattle.recognizer_model.specs.declared.Item.{Item}
use Rattle.recognizer_model.specs.Flat.{FlatGrammar}
use Rattle.recognizer_model.specs.Items.{InSet}
use Rattle.recognizer_model.specs.Counts.{IsListOf, IsCountOf}
use Rattle.recognizer_model.specs.FlatForm.{FlatEdges, IsRuleOf}
use Rattle.flat_model.specs.Flattened.{IsFlattened}
use Rattle.flat_model.specs.Lists.{lists, flat_lists}
use Rattle.grammar_laws.specs.Laws.{Told}

abbrev pub rule : List ℕ → WrittenRule
rule rhs = Plain (record { lhs = 0; rhs = rhs; level = 0; groups = 1; assoc = Left; rank = pos 0; null_high = false })

-- E ::= E plus E | N, with the numbers 0 E, 1 plus, 2 N
abbrev pub sums : Grammar
sums = record { names = []; rules = rule (0 ∷ 1 ∷ 0 ∷ []) ∷ rule (2 ∷ []) ∷ []; starts = 0 ∷ [] }

-- S ::= S | a
abbrev pub loops : Grammar
loops = record { names = []; rules = rule (0 ∷ []) ∷ rule (1 ∷ []) ∷ []; starts = 0 ∷ [] }

-- one terminal after another, as a test
abbrev pub is_at : List ℕ → ℕ → ℕ → ℕ → Bool
is_at input symbol from to = (to == suc from) && (slice_index input from == symbol)

-- N, a comma and N
abbrev pub tokens : List Edge
tokens = record { symbol = 3; from = 0; to = 1 } ∷ record { symbol = 4; from = 1; to = 2 } ∷ record { symbol = 3; from = 2; to = 3 } ∷ []

pub record LawsApply : Type 0 where
  pub loops_refused : (r : Refusal) × Refuses loops r
  pub lists_pass : IsChecked lists
  pub lists_counted : IsCountOf (IsRuleOf lists) 14
  pub lists_flattened : (f : FlatGrammar) × IsFlattened lists f
  pub lists_placed : (items : List Item) × IsListOf (InSet flat_lists (FlatEdges flat_lists (Held tokens)) 13 3) items
  pub lists_acceptable : IsDecided (IsAcceptable lists (Held tokens) 0 4 3)
  pub lists_spanned : IsDecided ((tree : Tree) × Derives lists (Held tokens) (slot_of 0) 0 3 tree)
  pub sums_spanned : IsDecided ((tree : Tree) × Derives sums (Told (is_at (2 ∷ 1 ∷ 2 ∷ 1 ∷ 2 ∷ []))) (slot_of 0) 0 5 tree)
