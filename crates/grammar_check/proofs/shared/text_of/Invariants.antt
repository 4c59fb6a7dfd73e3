use Rattle.std.proofs.Common.{◌≡◌, ◌∷◌, take}
use Rattle.grammar_check.proofs.shared.text_of.Given as goal

abbrev pub invariant-loop-part : goal.invariant-loop-part
invariant-loop-part l = l.text.items ≡ l.rule.lhs ∷ take l.part-index l.part-items
