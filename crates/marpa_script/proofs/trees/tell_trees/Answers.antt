use Rattle.std.proofs.Common.{◌≡◌, ◌∙◌, Err, sym, ap, subst}
use Rattle.std.specs.Io.KnownBytes.{Appends}
use Rattle.std.proofs.lemmas.Result.{on_ok_weaker, on_err_weaker}
use Rattle.outside_model.specs.Told.{AppendsPrefix}
use Rattle.slif_base.proofs.Bytes.{rose_before}
use Rattle.forest_model.specs.Forest.{Forest}
use Rattle.tree_iter.specs.Iteration.{Iteration}
use Rattle.marpa_script.specs.Listed.{IsOver, TellsTrees}
use Rattle.marpa_script.proofs.Deriving.{told_all, broken_count, broken_trees, nothing_told}
use Rattle.marpa_script.proofs.trees.tell_trees.Goals as goal

pub returns-in_default-clause-breaks : goal.returns-in_default-clause-breaks
returns-in_default-clause-breaks g c = nothing_told c.args.w.now c.args.forest.now c.args.count (g.K.Sink.contents c.args.out.now) c.known.ensures

pub write_trees-requires-clause-over : goal.write_trees-requires-clause-over
write_trees-requires-clause-over g c = subst (λ (it : Iteration). IsOver c.args.w.now it.forest) (sym c.in-Ok.ensures.begun) c.requires

pub write_trees-requires-clause-begun : goal.write_trees-requires-clause-begun
write_trees-requires-clause-begun g c = c.in-Ok.ensures.none

pub returns-in-Ok-write_trees-clause-told : goal.returns-in-Ok-write_trees-clause-told
returns-in-Ok-write_trees-clause-told g c =
    let same = ap (λ (it : Iteration). it.forest) c.in-Ok.ensures.begun in
    let tells = subst (λ (f : Forest). TellsTrees c.args.w.now f c.args.count (λ n text. (c.in-Ok-write_trees.told ≡ n) × Appends (g.K.Sink.contents c.args.out.now) (g.K.Sink.contents c.write_trees.new.out) text)) same c.in-Ok-write_trees.ensures.told in
    on_ok_weaker c.write_count.result (told_all c.args.w.now c.args.forest.now c.args.count _ _ _ c.in-Ok-write_trees.told tells) c.write_count.ensures.ok

pub returns-in-Ok-write_trees-clause-breaks : goal.returns-in-Ok-write_trees-clause-breaks
returns-in-Ok-write_trees-clause-breaks g c =
    let same = ap (λ (it : Iteration). it.forest) c.in-Ok.ensures.begun in
    let tells = subst (λ (f : Forest). TellsTrees c.args.w.now f c.args.count (λ n text. (c.in-Ok-write_trees.told ≡ n) × Appends (g.K.Sink.contents c.args.out.now) (g.K.Sink.contents c.write_trees.new.out) text)) same c.in-Ok-write_trees.ensures.told in
    on_err_weaker c.write_count.result (broken_count c.args.w.now c.args.forest.now c.args.count _ _ _ c.in-Ok-write_trees.told tells) c.write_count.ensures.err

pub returns-in-Ok-write_trees-clause-fault : goal.returns-in-Ok-write_trees-clause-fault
returns-in-Ok-write_trees-clause-fault g c fault =
    rose_before (g.K.Sink.fault_count c.args.out.now) (g.K.Sink.fault_count c.write_trees.new.out) (g.K.Sink.fault_count c.write_count.new.out) c.write_trees.ensures.later (c.write_count.ensures.fault fault)

pub returns-clause-breaks : goal.returns-clause-breaks
returns-clause-breaks g c =
    let same = ap (λ (it : Iteration). it.forest) c.in-Ok.ensures.begun in
    broken_trees c.args.w.now c.args.forest.now c.args.count _ _
    (subst (λ (f : Forest). TellsTrees c.args.w.now f c.args.count (λ n text. AppendsPrefix (g.K.Sink.contents c.args.out.now) (g.K.Sink.contents c.write_trees.new.out) text)) same c.in-Err.ensures.breaks)
