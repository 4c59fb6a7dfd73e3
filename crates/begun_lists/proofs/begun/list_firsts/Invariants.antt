use Rattle.begun_lists.proofs.Starting.{FirstsTo, RulesTo}
use Rattle.begun_lists.proofs.begun.list_firsts.Given as goal

abbrev pub invariant-loop-symbol : goal.invariant-loop-symbol
invariant-loop-symbol l = record {
  listed : FirstsTo l.flat l.symbols l.next.items l.symbol-index;
  tried : RulesTo l.flat l.symbols l.next.items l.symbol-index;
}
