use Rattle.grammar_check.specs.Links.{IsDown, Gains, StepsInto}
use Rattle.grammar_check.proofs.layers.grow.Given as goal

abbrev pub invariant-loop-j : goal.invariant-loop-j
invariant-loop-j l = record {
  gains : Gains l.initial.found l.found (StepsInto l.rows l.floors l.initial.found l.from l.j);
  down : IsDown l.floors l.found;
}
