use Rattle.std.proofs.Common.{◌≡◌, map}
use Rattle.std.specs.List.{range_with_len}
use Rattle.grammar_model.specs.Grammar.{rule_at, child_slot}
use Rattle.slot_analysis.specs.Slots.{number}
use Rattle.slot_analysis.proofs.clauses.put_body.Given as goal

abbrev pub invariant-loop-k : goal.invariant-loop-k
invariant-loop-k l = l.body.items ≡ map (λ k. number l.bases (child_slot (rule_at l.w l.i) k)) (range_with_len 0 l.k)
