-- What a check tells of a grammar that it refuses.
use Rattle.grammar_model.specs.Grammar.{Grammar}
use Rattle.grammar_model.specs.Checked as model
use Rattle.grammar_check.specs.declared.refusal.GrammarRefusal.{GrammarRefusal}
use Rattle.grammar_check.specs.declared.refusal.GrammarRefusal.TheVariants.{NoRules, NoStart, StartNotLhs, SequenceLhs, Duplicate, CountedNullable, UnproductiveStart, Cyclic, NoMemory}
use Rattle.grammar_check.specs.Told.{slots_with}

-- the grammar's refusal, or want of memory
abbrev pub IsTold : Grammar → GrammarRefusal → Type 0
IsTold g NoRules = model.Refuses g model.NoRules
IsTold g NoStart = model.Refuses g model.NoStart
IsTold g (StartNotLhs symbol) = model.Refuses g (model.StartNotLhs symbol)
IsTold g (SequenceLhs symbol) = model.Refuses g (model.SequenceLhs symbol)
IsTold g (Duplicate rule) = model.Refuses g (model.Duplicate rule)
IsTold g (CountedNullable rule) = model.Refuses g (model.CountedNullable rule)
IsTold g (UnproductiveStart symbol) = model.Refuses g (model.UnproductiveStart symbol)
IsTold g (Cyclic cycle) = model.Refuses g (model.Cyclic (slots_with cycle.items))
IsTold g NoMemory = Unit {0}
