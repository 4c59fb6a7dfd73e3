use Rattle.prepared_grammars.specs.Abilities.{AreAbilitiesOf}
use Rattle.prepared_grammars.proofs.abilities.abilities_of.Given as goal

abbrev pub invariant-loop-s : goal.invariant-loop-s
invariant-loop-s l = AreAbilitiesOf l.c l.s l.abilities.items
