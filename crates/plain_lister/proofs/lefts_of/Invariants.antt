use Rattle.std.proofs.Common.{◌≡◌, map, take}
use Rattle.grammar_model.specs.Grammar.{lhs_of}
use Rattle.plain_lister.proofs.lefts_of.Given as goal

abbrev pub invariant-loop-i : goal.invariant-loop-i
invariant-loop-i l = l.lefts.items ≡ map lhs_of (take l.i l.w.rules)
