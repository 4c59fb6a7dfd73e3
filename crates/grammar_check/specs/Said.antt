-- A refusal as the definition has it.
use Rattle.std.specs.Prelude.{◌≡◌}
use Rattle.grammar_model.specs.Grammar.{Grammar}
use Rattle.grammar_model.specs.Checked as model
use Rattle.grammar_check.specs.declared.refusal.GrammarRefusal.{GrammarRefusal}
use Rattle.grammar_check.specs.declared.refusal.GrammarRefusal.TheVariants.{NoRules, NoStart, StartNotLhs, SequenceLhs, Duplicate, CountedNullable, UnproductiveStart, Cyclic, NoMemory}
use Rattle.grammar_check.specs.Told.{slots_with}
use Rattle.grammar_check.specs.Message.{IsOf}

-- a refusal of a check as the definition has it; want of memory is none
abbrev pub Says : GrammarRefusal → model.Refusal → Type 0
Says NoRules r = r ≡ model.NoRules
Says NoStart r = r ≡ model.NoStart
Says (StartNotLhs symbol) r = r ≡ model.StartNotLhs symbol
Says (SequenceLhs symbol) r = r ≡ model.SequenceLhs symbol
Says (Duplicate rule) r = r ≡ model.Duplicate rule
Says (CountedNullable rule) r = r ≡ model.CountedNullable rule
Says (UnproductiveStart symbol) r = r ≡ model.UnproductiveStart symbol
Says (Cyclic cycle) r = r ≡ model.Cyclic (slots_with cycle.items)
Says NoMemory r = ⊥

-- the refusal tells of the grammar what the definition does
pub record IsSaid (g : Grammar) (refusal : GrammarRefusal) (IsItsFault : model.Refusal → Type 0) : Type 0 where
  pub of : IsOf g refusal
  pub told : model.Refusal
  pub says : Says refusal told
  pub fault : IsItsFault told
