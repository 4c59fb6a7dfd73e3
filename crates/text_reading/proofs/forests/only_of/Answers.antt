use Rattle.std.proofs.Common.{subst}
use Rattle.std.specs.Prelude.{IfSome}
use Rattle.text_reading.proofs.Derived.{IsFound}
use Rattle.text_reading.proofs.forests.only_of.Goals as goal

pub returns-in-Ok-Some-clause-only : goal.returns-in-Ok-Some-clause-only
returns-in-Ok-Some-clause-only g c given read =
    let b = c.args.prepared.now in
    let reading = c.args.reading.now in
    let found = subst (λ o. IfSome o (IsFound b c.args.ranking c.args.chars.now reading.recce reading.spans.items)) c.in-Ok-Some.field-0-is c.in-Ok-Some.ensures.first in
    let first = found given read in
    record {
      has = first.has;
      asked = record {
        tree = first.first.tree;
        others = first.first.others;
        listing = first.first.listing;
        alone = c.is_all_asked.ensures c.if-is_all_asked.true first.first.tree first.first.others first.first.only.0;
        steps_are = first.first.is;
      };
    }
