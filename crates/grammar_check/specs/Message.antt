-- The text that tells why a grammar is refused.
use Rattle.std.specs.Prelude.{ℕ, ◌<◌, List, [], length, slice_index_or}
use Rattle.grammar_model.specs.Grammar.{Grammar}
use Rattle.grammar_model.specs.Checked as model
use Rattle.grammar_model.specs.Refusals as refusal
use Rattle.grammar_check.specs.Told.{slots_with}
use Rattle.grammar_check.specs.declared.refusal.GrammarRefusal.{GrammarRefusal}
use Rattle.grammar_check.specs.declared.refusal.GrammarRefusal.TheVariants.{NoRules, NoStart, StartNotLhs, SequenceLhs, Duplicate, CountedNullable, UnproductiveStart, Cyclic, NoMemory}

abbrev pub AreOf : Grammar → List (ℕ × ℕ) → Type 0
AreOf g cycle = (k : ℕ) (d : ℕ × ℕ) → k < length cycle → (slice_index_or cycle k d).0 < length g.names

-- the refusal's symbols and rules are the grammar's
abbrev pub IsOf : Grammar → GrammarRefusal → Type 0
IsOf g NoRules = Unit {0}
IsOf g NoStart = Unit {0}
IsOf g (StartNotLhs symbol) = symbol < length g.names
IsOf g (SequenceLhs symbol) = symbol < length g.names
IsOf g (Duplicate rule) = rule < length g.rules
IsOf g (CountedNullable rule) = rule < length g.rules
IsOf g (UnproductiveStart symbol) = symbol < length g.names
IsOf g (Cyclic cycle) = AreOf g cycle.items
IsOf g NoMemory = Unit {0}

-- the text of a cycle of slots
abbrev pub cycle_text : Grammar → List (ℕ × ℕ) → List ℕ
cycle_text g cycle = refusal.refusal_text g (model.Cyclic (slots_with cycle))

-- the text of the refusal that is told; of want of memory none
abbrev pub refusal_text : Grammar → GrammarRefusal → List ℕ
refusal_text g NoRules = refusal.refusal_text g model.NoRules
refusal_text g NoStart = refusal.refusal_text g model.NoStart
refusal_text g (StartNotLhs symbol) = refusal.refusal_text g (model.StartNotLhs symbol)
refusal_text g (SequenceLhs symbol) = refusal.refusal_text g (model.SequenceLhs symbol)
refusal_text g (Duplicate rule) = refusal.refusal_text g (model.Duplicate rule)
refusal_text g (CountedNullable rule) = refusal.refusal_text g (model.CountedNullable rule)
refusal_text g (UnproductiveStart symbol) = refusal.refusal_text g (model.UnproductiveStart symbol)
refusal_text g (Cyclic cycle) = cycle_text g cycle.items
refusal_text g NoMemory = []
