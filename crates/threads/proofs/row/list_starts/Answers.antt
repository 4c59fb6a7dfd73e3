use Rattle.std.proofs.Common.{subst, arith}
use Rattle.std.proofs.lemmas.List.Elements.{Contains-get_or}
use Rattle.std.proofs.lemmas.List.{take_all}
use Rattle.threads.proofs.Parts.{StartsTo, starts_none, starts_more}
use Rattle.threads.proofs.row.list_starts.Goals as goal

pub top-requires : goal.top-requires
top-requires c = c.requires _ (Contains-get_or c.args.starts.now c.loop-start.start-index 0 (omega arith))

pub loop-start-init : goal.loop-start-init
loop-start-init c = starts_none c.args.flat.now c.args.starts.now c.clear.new.self.items c.clear.ensures.items

pub loop-start-preserved : goal.loop-start-preserved
loop-start-preserved c =
    starts_more c.args.flat.now c.args.starts.now c.loop-start.start-index c.loop-start-test.true c.loop-start.seeds.items c.push.new.self.items c.top.result c.top.ensures.value c.in_ok-push.ensures.items c.loop-start.invariant

pub returns : goal.returns
returns c = subst (λ l. StartsTo c.args.flat.now c.args.starts.now l c.loop-start.seeds.items) (take_all c.loop-start.start-index c.args.starts.now c.loop-start-test.false) c.loop-start.invariant
