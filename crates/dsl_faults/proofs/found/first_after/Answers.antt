use Rattle.std.proofs.Common.{refl, sym, ◌∙◌, arith, Ok}
use Rattle.dsl_faults.specs.Found.{FindsAfter}
use Rattle.dsl_faults.proofs.Alongs.{along_on, along_stops, along_ends}
use Rattle.dsl_faults.proofs.found.first_after.Goals as goal

pub returns-then-is_some : goal.returns-then-is_some
returns-then-is_some g c each after h =
    let called : FindsAfter g.F.Fn c.args.find c.loop-x.state c.x-item.result (Ok c.in_ok-found.found) c.find.new.arg2 = record { shown = _; item = _; shows = (refl, refl); left = _; met = c.in_ok-found.ensures; leaves = refl } in
    along_stops each after c.args.first c.args.xs.now c.loop-x.x-index c.loop-x.state (c.loop-x.invariant each after h) c.x-item.result c.in_ok-found.found c.find.new.arg2 (omega arith) c.x-item.is (h c.loop-x.state c.x-item.result c.in_ok-found.found c.find.new.arg2 called) (sym c.is_some.ensures ∙ c.if-is_some.true)

pub loop-x-preserved : goal.loop-x-preserved
loop-x-preserved g c each after h =
    let called : FindsAfter g.F.Fn c.args.find c.loop-x.state c.x-item.result (Ok c.in_ok-found.found) c.find.new.arg2 = record { shown = _; item = _; shows = (refl, refl); left = _; met = c.in_ok-found.ensures; leaves = refl } in
    along_on each after c.args.first c.args.xs.now c.loop-x.x-index c.loop-x.state (c.loop-x.invariant each after h) c.x-item.result c.in_ok-found.found c.find.new.arg2 (omega arith) c.x-item.is (h c.loop-x.state c.x-item.result c.in_ok-found.found c.find.new.arg2 called) (sym c.is_some.ensures ∙ c.if-is_some.false)

pub returns : goal.returns
returns g c each after h = along_ends each after c.args.first c.args.xs.now c.loop-x.x-index c.loop-x.state (c.loop-x.invariant each after h) (omega arith)
