use Rattle.std.proofs.Common.{◌≡◌, ◌∙◌, Err, refl, sym, ap, subst, arith}
use Rattle.std.specs.Io.KnownBytes.{Appends}
use Rattle.outside_model.specs.Told.{AppendsPrefix}
use Rattle.slif_base.proofs.Bytes.{rose_before}
use Rattle.marpa_script.specs.Listed.{IsOver, IsTreeLine}
use Rattle.marpa_script.specs.declared.refusal.ScriptRefusal.TheVariants.{WriteFault}
use Rattle.marpa_script.proofs.Deriving.{none_told, stopped, enough_told, all_given, one_more_told, broken_line}
use Rattle.marpa_script.proofs.trees.write_trees.Goals as goal

pub loop-told-init : goal.loop-told-init
loop-told-init g c = record { forest = refl; lines = none_told c.args.w.now c.args.iter.now (g.K.Sink.contents c.args.out.now) c.requires.begun; later = omega arith }

pub next_tree-requires-clause-over : goal.next_tree-requires-clause-over
next_tree-requires-clause-over g c = subst (IsOver c.args.w.now) (sym c.loop-told.invariant.forest) c.requires.over

pub next_tree-requires-clause-given : goal.next_tree-requires-clause-given
next_tree-requires-clause-given g c = (c.loop-told.invariant.lines.given, c.loop-told.invariant.lines.are)

pub returns-in_default-clause-breaks : goal.returns-in_default-clause-breaks
returns-in_default-clause-breaks g c =
    stopped c.args.w.now c.args.iter.now.forest c.args.count c.loop-told.iter c.loop-told.invariant.forest c.loop-told.told _ _ c.loop-told.invariant.lines c.loop-told-test.true

pub returns-then-not-more-clause-told : goal.returns-then-not-more-clause-told
returns-then-not-more-clause-told g c =
    let w = c.loop-told.invariant.lines in
    let none = subst (IsTreeLine c.args.w.now c.next_tree.new.iter w.given c.next_tree.new.line.items) c.if-not-more.true (c.in-Ok.ensures.line w.given w.are) in
    all_given c.args.w.now c.args.iter.now.forest c.args.count c.next_tree.new.iter (c.in-Ok.ensures.forest ∙ c.loop-told.invariant.forest) w.given c.loop-told.told _ _ w.count_is c.loop-told-test.true w.appends none

pub returns-in-Err-clause-breaks : goal.returns-in-Err-clause-breaks
returns-in-Err-clause-breaks g c =
    let w = c.loop-told.invariant.lines in
    let more = subst (IsTreeLine c.args.w.now c.next_tree.new.iter w.given c.next_tree.new.line.items) c.if-not-more.false (c.in-Ok.ensures.line w.given w.are) in
    let part = subst (AppendsPrefix (g.K.Sink.contents c.loop-told.out) (g.K.Sink.contents c.write_piece.new.out)) c.deref.ensures.value c.in-Err.ensures.err in
    broken_line c.args.w.now c.args.iter.now.forest c.args.count c.next_tree.new.iter (c.in-Ok.ensures.forest ∙ c.loop-told.invariant.forest) w.given c.loop-told.told _ _ w.count_is c.loop-told-test.true w.appends
    c.next_tree.new.line.items _ more part

pub returns-in-Err-clause-fault : goal.returns-in-Err-clause-fault
returns-in-Err-clause-fault g c fault =
    let same : c.in-Err.refusal ≡ WriteFault = cc fault in
    rose_before (g.K.Sink.fault_count c.args.out.now) (g.K.Sink.fault_count c.loop-told.out) (g.K.Sink.fault_count c.write_piece.new.out) c.loop-told.invariant.later
    (c.write_piece.ensures.fault (c.in-Err.is ∙ ap (λ e. Err e) same))

pub loop-told-preserved : goal.loop-told-preserved
loop-told-preserved g c =
    let w = c.loop-told.invariant.lines in
    let more = subst (IsTreeLine c.args.w.now c.next_tree.new.iter w.given c.next_tree.new.line.items) c.if-not-more.false (c.in-Ok.ensures.line w.given w.are) in
    let all = subst (Appends (g.K.Sink.contents c.loop-told.out) (g.K.Sink.contents c.write_piece.new.out)) c.deref.ensures.value c.in-Ok-write_piece.ensures.ok in
    record {
      forest = c.in-Ok.ensures.forest ∙ c.loop-told.invariant.forest;
      lines = one_more_told c.args.w.now c.args.iter.now.forest c.args.count c.next_tree.new.iter (c.in-Ok.ensures.forest ∙ c.loop-told.invariant.forest) w.given c.loop-told.told _ _ w.count_is c.loop-told-test.true w.appends
          c.next_tree.new.line.items _ more all;
      later = omega (arith, c.loop-told.invariant.later, c.write_piece.ensures.later);
    }

pub returns-clause-told : goal.returns-clause-told
returns-clause-told g c =
    enough_told c.args.w.now c.args.iter.now.forest c.args.count c.loop-told.iter c.loop-told.invariant.forest c.loop-told.told _ _ c.loop-told.invariant.lines c.loop-told-test.false c.loop-told.auto.told-end
