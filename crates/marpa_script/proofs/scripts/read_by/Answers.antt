use Rattle.std.proofs.Common.{◌≡◌, ap}
use Rattle.std.proofs.lemmas.Result.{on_ok_weaker, on_err_weaker}
use Rattle.script_model.specs.Machine.{that_reads}
use Rattle.marpa_script.specs.Machines.{building}
use Rattle.marpa_script.proofs.Whole.{reads_by, played_so, checked_by, some_top, stopped_at}
use Rattle.marpa_script.proofs.scripts.read_by.Goals as goal

pub new-requires : goal.new-requires
new-requires g c =
    let (whole, first, played) = c.requires.built in
    some_top c.args.w.now c.args.ready.now.flat c.requires.flat (checked_by whole c.args.ready.now.rest.now c.args.w.now first (g.K.Sink.contents c.args.out.now) played)

pub returns-in_default-clause-breaks : goal.returns-in_default-clause-breaks
returns-in_default-clause-breaks g c whole first played = stopped_at whole c.args.ready.now.rest.now (that_reads (building c.args.w.now)) first (g.K.Sink.contents c.args.out.now) played

pub read_lines-played-requires : goal.read_lines-played-requires
read_lines-played-requires g c =
    let (whole, first, played) = c.requires.built in
    let new = c.in-Ok.ensures in
    reads_by c.args.w.now c.args.ready.now.flat c.in-Ok.recce c.requires.flat new.0 new.1 new.2 new.3 (checked_by whole c.args.ready.now.rest.now c.args.w.now first (g.K.Sink.contents c.args.out.now) played)

pub returns-clause-played : goal.returns-clause-played
returns-clause-played g c =
    let new = c.in-Ok.ensures in
    on_ok_weaker c.read_lines-played.result
    (λ all whole first played. all whole first (played_so c.args.w.now c.args.ready.now.flat c.in-Ok.recce c.requires.flat new.0 new.1 new.2 new.3 whole c.args.ready.now.rest.now first (g.K.Sink.contents c.args.out.now) played))
    c.read_lines-played.ensures.played

pub returns-clause-breaks : goal.returns-clause-breaks
returns-clause-breaks g c =
    let new = c.in-Ok.ensures in
    on_err_weaker c.read_lines-played.result
    (λ all whole first played. all whole first (played_so c.args.w.now c.args.ready.now.flat c.in-Ok.recce c.requires.flat new.0 new.1 new.2 new.3 whole c.args.ready.now.rest.now first (g.K.Sink.contents c.args.out.now) played))
    c.read_lines-played.ensures.breaks
