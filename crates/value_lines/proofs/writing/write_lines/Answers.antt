use Rattle.std.proofs.Common.{◌∙◌, ◌++◌, sym, subst, refl, arith}
use Rattle.std.specs.Io.KnownBytes.{Appends}
use Rattle.outside_model.specs.Told.{AppendsPrefix}
use Rattle.tree_iter.specs.Iteration.{IsAnswer, AreFew}
use Rattle.value_lines.specs.Lines.{IsLineOf}
use Rattle.value_lines.specs.Writing.{IsWholeLine, IsWithin}
use Rattle.value_lines.proofs.Texts.{so_many_is, within_next, within_less, none_has_written, prefix_written, enough_written, rest_written, one_more_written, line_in_prefix, whole_line}
use Rattle.value_lines.proofs.Fitting.{line_played}
use Rattle.value_lines.proofs.writing.write_lines.Goals as goal

pub next_line-requires-clause-given : goal.next_line-requires-clause-given
next_line-requires-clause-given g c =
    let (show, alone) = c.requires.tellers in
    let (pieces, of) = c.requires.forest in
    let (before, are) = c.requires.begun in
    let w = c.loop-k.invariant.written show pieces before alone of are in
    (before ++ w.given, w.are)

pub returns-in_default-clause-stops : goal.returns-in_default-clause-stops
returns-in_default-clause-stops g c =
    λ show pieces before alone of are.
    let within = within_less c.args.first c.loop-k._k (within_next c.args.first c.limit_of-limit.result c.loop-k._k c.limit_of-limit.ensures.some c.loop-k-test.true) in
    prefix_written c.args.prepared.now show c.args.player.now.chars pieces before c.args.iter.now.forest c.args.first c.loop-k.iter c.loop-k.invariant.forest c.loop-k._k _ _ _ _
    (c.loop-k.invariant.written show pieces before alone of are) within

pub returns-in_default-write_line-clause-stops : goal.returns-in_default-write_line-clause-stops
returns-in_default-write_line-clause-stops g c =
    λ show pieces before alone of are.
    let b = c.args.prepared.now in
    let w = c.loop-k.invariant.written show pieces before alone of are in
    let line = line_played b show _ _ _ _ pieces _ (before ++ w.given) _ _ c.loop-k.invariant.player c.loop-k.invariant.forest of (λ h. c.in-Ok.ensures.line show pieces (before ++ w.given) (c.loop-k.invariant.tellers ∙ alone) h w.are) in
    let more = subst (IsLineOf b show c.args.player.now.chars pieces c.next_line.new.iter (before ++ w.given) c.next_line.new.line.items) c.if-not-more.false line in
    let within = within_next c.args.first c.limit_of-limit.result c.loop-k._k c.limit_of-limit.ensures.some c.loop-k-test.true in
    let part = subst (AppendsPrefix (g.O.Sink.contents c.loop-k.out) (g.O.Sink.contents c.write_line.new.out)) c.deref.ensures.value c.in_default-write_line.ensures.prefix in
    let r = line_in_prefix b show c.args.player.now.chars pieces before c.args.iter.now.forest c.args.first c.loop-k.iter c.loop-k.invariant.forest c.loop-k._k _ _ _ _ w
    c.next_line.new.iter c.next_line.new.line.items more (c.in-Ok.ensures.forest ∙ c.loop-k.invariant.forest) within _ part in
    (r.0, r.1, (omega (arith, c.loop-k.invariant.later, c.in_default-write_line.ensures.cause.failed), r.2))

pub write_line-requires : goal.write_line-requires
write_line-requires g c =
    let b = c.args.prepared.now in
    let (pieces, of) = c.requires.forest in
    let (show, alone) = c.requires.tellers in
    let (before, are) = c.requires.begun in
    let w = c.loop-k.invariant.written show pieces before alone of are in
    let line = line_played b show _ _ _ _ pieces _ (before ++ w.given) _ _ c.loop-k.invariant.player c.loop-k.invariant.forest of (λ h. c.in-Ok.ensures.line show pieces (before ++ w.given) (c.loop-k.invariant.tellers ∙ alone) h w.are) in
    let more = subst (IsLineOf b show c.args.player.now.chars pieces c.next_line.new.iter (before ++ w.given) c.next_line.new.line.items) c.if-not-more.false line in
    subst IsWholeLine (sym c.deref.ensures.value) (whole_line b show c.args.player.now.chars pieces c.next_line.new.iter (before ++ w.given) c.next_line.new.line.items more)

pub loop-k-init : goal.loop-k-init
loop-k-init g c = record {
  player = refl;
  forest = refl;
  tellers = refl;
  written = λ show pieces before alone of are. none_has_written c.args.prepared.now show c.args.player.now.chars pieces before c.args.iter.now _ _ are;
  later = omega arith;
}

pub loop-k-preserved : goal.loop-k-preserved
loop-k-preserved g c = record {
  player = c.next_line.ensures.player ∙ c.loop-k.invariant.player;
  forest = c.in-Ok.ensures.forest ∙ c.loop-k.invariant.forest;
  tellers = c.in-Ok.ensures.tellers ∙ c.loop-k.invariant.tellers;
  written = λ show pieces before alone of are.
      let b = c.args.prepared.now in
      let w = c.loop-k.invariant.written show pieces before alone of are in
      let line = line_played b show _ _ _ _ pieces _ (before ++ w.given) _ _ c.loop-k.invariant.player c.loop-k.invariant.forest of (λ h. c.in-Ok.ensures.line show pieces (before ++ w.given) (c.loop-k.invariant.tellers ∙ alone) h w.are) in
      let more = subst (IsLineOf b show c.args.player.now.chars pieces c.next_line.new.iter (before ++ w.given) c.next_line.new.line.items) c.if-not-more.false line in
      let answer = subst (IsAnswer c.next_line.new.iter (before ++ w.given)) c.if-not-more.false (c.in-Ok.ensures.answer (before ++ w.given) w.are) in
      let few = subst (λ m. AreFew c.next_line.new.iter (before ++ w.given) m c.loop-k.steps c.next_line.new.steps) c.if-not-more.false (c.in-Ok.ensures.counted (before ++ w.given) w.are) in
      one_more_written b show c.args.player.now.chars pieces before c.args.iter.now.forest c.args.first c.loop-k.iter c.loop-k.invariant.forest c.loop-k._k _ _ _ _ w
      c.next_line.new.iter c.next_line.new.line.items more answer _ _ few
      (subst (Appends (g.O.Sink.contents c.loop-k.out) (g.O.Sink.contents c.write_line.new.out)) c.deref.ensures.value c.in-Ok-write_line.ensures.written);
  later = omega (arith, c.loop-k.invariant.later, c.in-Ok-write_line.ensures.cause.later);
}

pub returns-then-not-more-clause-written : goal.returns-then-not-more-clause-written
returns-then-not-more-clause-written g c =
    λ show pieces before alone of are.
    let b = c.args.prepared.now in
    let w = c.loop-k.invariant.written show pieces before alone of are in
    let none = subst (IsAnswer c.next_line.new.iter (before ++ w.given)) c.if-not-more.true (c.in-Ok.ensures.answer (before ++ w.given) w.are) in
    let few = subst (λ m. AreFew c.next_line.new.iter (before ++ w.given) m c.loop-k.steps c.next_line.new.steps) c.if-not-more.true (c.in-Ok.ensures.counted (before ++ w.given) w.are) in
    let within = within_less c.args.first c.loop-k._k (within_next c.args.first c.limit_of-limit.result c.loop-k._k c.limit_of-limit.ensures.some c.loop-k-test.true) in
    rest_written b show c.args.player.now.chars pieces before c.args.iter.now.forest c.args.first c.loop-k.iter c.loop-k.invariant.forest c.loop-k._k _ _ _ _ w
    c.next_line.new.iter c.next_line.new.steps none within few

pub returns-in-Some-clause-written : goal.returns-in-Some-clause-written
returns-in-Some-clause-written g c =
    λ show pieces before alone of are.
    let so_many = so_many_is c.args.first c.in-Some.field-0 c.limit_of-limit.result c.loop-k._k c.in-Some.is c.limit_of-limit.ensures.some c.loop-k-test.false c.loop-k.auto._k-end in
    enough_written c.args.prepared.now show c.args.player.now.chars pieces before c.args.iter.now.forest c.args.first c.loop-k.iter c.loop-k.invariant.forest c.loop-k._k _ _ _ _
    (c.loop-k.invariant.written show pieces before alone of are) so_many

pub returns-in-None-clause-stops : goal.returns-in-None-clause-stops
returns-in-None-clause-stops g c =
    λ show pieces before alone of are.
    let within = subst (λ o. IsWithin o c.loop-k._k) (sym c.in-None.is) tt in
    prefix_written c.args.prepared.now show c.args.player.now.chars pieces before c.args.iter.now.forest c.args.first c.loop-k.iter c.loop-k.invariant.forest c.loop-k._k _ _ _ _
    (c.loop-k.invariant.written show pieces before alone of are) within
