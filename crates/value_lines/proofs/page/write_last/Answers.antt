use Rattle.std.proofs.Common.{◌∷◌, [], ◌++◌, refl, sym, subst, ◌∙◌, append_assoc, arith}
use Rattle.std.specs.Prelude.{codes}
use Rattle.std.specs.Io.KnownBytes.{Appends}
use Rattle.std.proofs.lemmas.Result.{on_ok_weaker, IfErr-weaker}
use Rattle.cursor_model.specs.Rest.{place_after}
use Rattle.run_model.specs.Outside.{stream}
use Rattle.tree_iter.specs.Iteration.{IsAnswer, AreFew}
use Rattle.value_lines.specs.Writing.{TextStops}
use Rattle.value_lines.proofs.Pages.{left_more, left_end, one_few}
use Rattle.value_lines.proofs.page.write_last.Goals as goal

pub put_line-requires : goal.put_line-requires
put_line-requires g c =
    let (before, given, e) = c.requires in
    let place = place_after c.args.after.now given in
    let line = c.in-Ok.ensures given e.count e.stands in
    record { text = codes "cursor: " ++ place; ended = c.deref.ensures.value ∙ line ∙ sym (append_assoc (codes "cursor: ") place (10 ∷ [])) }

pub put_line-requires-else-more : goal.put_line-requires-else-more
put_line-requires-else-more g c = record { text = codes "end"; ended = refl }

pub returns-then-more-clause-written : goal.returns-then-more-clause-written
returns-then-more-clause-written g c = on_ok_weaker c.put_line.result
    (λ appends before given e.
    let answer = subst (IsAnswer c.next.new.self (before ++ given)) c.if-more.true (c.in-Ok-next.ensures.answer (before ++ given) e.are) in
    let few = subst (λ m. AreFew c.next.new.self (before ++ given) m c.args.steps.now c.next.new.steps) c.if-more.true (c.in-Ok-next.ensures.few (before ++ given) e.are) in
    let line = c.deref.ensures.value ∙ c.in-Ok.ensures given e.count e.stands in (
      answer.0 ∷ answer.1.first.rest,
      left_more c.args.iter.now.forest (before ++ given) c.next.new.self c.in-Ok-next.ensures.forest answer,
      (subst (Appends (g.O.Sink.contents c.args.out.now) (g.O.Sink.contents c.put_line.new.out)) line appends, one_few c.args.steps.now c.next.new.steps answer.0 answer.1.first.rest (few answer.0 answer.1)),
    ))
    c.put_line.ensures.written

pub returns-then-more-clause-stops : goal.returns-then-more-clause-stops
returns-then-more-clause-stops g c = IfErr-weaker c.put_line.result _ _
    (λ refusal stops before given e.
    let answer = subst (IsAnswer c.next.new.self (before ++ given)) c.if-more.true (c.in-Ok-next.ensures.answer (before ++ given) e.are) in
    let line = c.deref.ensures.value ∙ c.in-Ok.ensures given e.count e.stands in (
      answer.0 ∷ answer.1.first.rest,
      left_more c.args.iter.now.forest (before ++ given) c.next.new.self c.in-Ok-next.ensures.forest answer,
      subst (TextStops (stream g.O.Sink.contents g.O.Sink.fault_count c.args.out.now) (stream g.O.Sink.contents g.O.Sink.fault_count c.put_line.new.out) refusal) line stops,
    ))
    c.put_line.ensures.stops

pub returns-else-more-clause-written : goal.returns-else-more-clause-written
returns-else-more-clause-written g c = on_ok_weaker c.put_line-else-more.result
    (λ appends before given e.
    let answer = subst (IsAnswer c.next.new.self (before ++ given)) c.if-more.false (c.in-Ok-next.ensures.answer (before ++ given) e.are) in
    let few = subst (λ m. AreFew c.next.new.self (before ++ given) m c.args.steps.now c.next.new.steps) c.if-more.false (c.in-Ok-next.ensures.few (before ++ given) e.are) in
    ([], left_end c.args.iter.now.forest (before ++ given) c.next.new.self c.in-Ok-next.ensures.forest answer, (appends, omega (arith, few))))
    c.put_line-else-more.ensures.written

pub returns-else-more-clause-stops : goal.returns-else-more-clause-stops
returns-else-more-clause-stops g c = IfErr-weaker c.put_line-else-more.result _ _
    (λ refusal stops before given e.
    let answer = subst (IsAnswer c.next.new.self (before ++ given)) c.if-more.false (c.in-Ok-next.ensures.answer (before ++ given) e.are) in
    ([], left_end c.args.iter.now.forest (before ++ given) c.next.new.self c.in-Ok-next.ensures.forest answer, stops))
    c.put_line-else-more.ensures.stops
