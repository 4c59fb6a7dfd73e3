use Rattle.std.proofs.Common.{◌≡◌, ◌==◌, false, take}
use Rattle.std.specs.List.{list_any}
use Rattle.grammar_model.specs.Grammar.{lhs_of}
use Rattle.plain_lister.proofs.rules.is_inner.Given as goal

abbrev pub invariant-loop-i : goal.invariant-loop-i
invariant-loop-i l = list_any (λ rule. lhs_of rule == l.symbol) (take l.i l.w.rules) ≡ false
