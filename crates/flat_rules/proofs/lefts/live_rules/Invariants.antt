use Rattle.std.proofs.Common.{◌≡◌, ℕ, ◌<◌, ◌↔◌, true, false, length, slice_index_or}
use Rattle.grammar_model.specs.Grammar.{rule_at}
use Rattle.grammar_model.specs.Analysis.{IsLive}
use Rattle.flat_rules.proofs.lefts.live_rules.Given as goal

abbrev pub invariant-loop-i : goal.invariant-loop-i
invariant-loop-i l = (length l.live.items ≡ l.i) × ((j : ℕ) → j < l.i → (slice_index_or l.live.items j false ≡ true) ↔ IsLive l.c (rule_at l.c j))
