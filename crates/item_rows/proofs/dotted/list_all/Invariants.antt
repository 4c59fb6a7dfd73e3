use Rattle.std.proofs.Common.{◌≡◌, length}
use Rattle.item_rows.specs.Dotted.{AreListed}
use Rattle.item_rows.proofs.dotted.list_all.Given as goal

abbrev pub invariant-loop-rule : goal.invariant-loop-rule
invariant-loop-rule l = record {
  listed : AreListed l.flat l.listed.items l.firsts.items l.rule;
  size : length l.firsts.items ≡ l.rule;
}
