use Rattle.std.proofs.Common.{Err, ap}
use Rattle.std.proofs.lemmas.Result.{on_ok_weaker, on_err_weaker}
use Rattle.marpa_script.proofs.Writing.{none_said}
use Rattle.marpa_script.proofs.Derivations.{is_over, trees_told, trees_broken, no_tree_told, no_tree_broken}
use Rattle.marpa_script.proofs.trees.play_trees.Goals as goal

pub tell_trees-told-requires : goal.tell_trees-told-requires
tell_trees-told-requires g c =
    let r = c.in-Ok.ensures.reading in
    is_over c.args.w.now c.args.recce.now c.requires c.in-Ok.forest (record { written = r.0; start = r.2; edges = r.3; place = r.4; ranking = r.5 }) c.known.ensures

pub returns-in-Ok-clause-played : goal.returns-in-Ok-clause-played
returns-in-Ok-clause-played g c =
    let r = c.in-Ok.ensures.reading in
    on_ok_weaker c.tell_trees-told.result
    (trees_told c.args.w.now c.args.recce.now c.requires c.in-Ok.forest (record { written = r.0; start = r.2; edges = r.3; place = r.4; ranking = r.5 }) c.args.count _ _) c.tell_trees-told.ensures.told

pub returns-in-Ok-clause-breaks : goal.returns-in-Ok-clause-breaks
returns-in-Ok-clause-breaks g c =
    let r = c.in-Ok.ensures.reading in
    on_err_weaker c.tell_trees-told.result
    (trees_broken c.args.w.now c.args.recce.now c.requires c.in-Ok.forest (record { written = r.0; start = r.2; edges = r.3; place = r.4; ranking = r.5 }) c.args.count _ _) c.tell_trees-told.ensures.breaks

pub returns-in-Err-NoParse-clause-played : goal.returns-in-Err-NoParse-clause-played
returns-in-Err-NoParse-clause-played g c =
    let none = c.in-Err-NoParse.ensures.no_parse.0 (ap Err c.in-Err-NoParse.field-0-is) in
    on_ok_weaker c.write_count.result (no_tree_told c.trees_are_derivations.ensures c.args.w.now c.args.recce.now c.requires c.place-place.ensures.is none c.args.count _ _) c.write_count.ensures.ok

pub returns-in-Err-NoParse-clause-breaks : goal.returns-in-Err-NoParse-clause-breaks
returns-in-Err-NoParse-clause-breaks g c =
    let none = c.in-Err-NoParse.ensures.no_parse.0 (ap Err c.in-Err-NoParse.field-0-is) in
    on_err_weaker c.write_count.result (no_tree_broken c.trees_are_derivations.ensures c.args.w.now c.args.recce.now c.requires c.place-place.ensures.is none c.args.count _ _) c.write_count.ensures.err

pub returns-clause-breaks : goal.returns-clause-breaks
returns-clause-breaks g c = none_said _ (g.K.Sink.contents c.args.out.now)
