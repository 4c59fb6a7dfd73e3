use Rattle.std.proofs.Common.{◌≡◌, List, ℕ, Some, slice_get, map, arith, subst}
use Rattle.std.specs.Io.KnownBytes.{Appends}
use Rattle.outside_model.specs.Told.{AppendsPrefix}
use Rattle.tellings.proofs.Lines.{one_more_written, prefix_of_text, mapped_item}
use Rattle.tellings.proofs.writing.write_lines.Goals as goal

pub returns-in_default-clause-stops : goal.returns-in_default-clause-stops
returns-in_default-clause-stops g c =
    let lines : List (List ℕ) = map (λ v. v.items) c.args.lines.now in
    let line : List ℕ = c.line-item.result.items in
    let e : slice_get lines c.loop-line.line-index ≡ Some line =
    mapped_item (λ v. v.items) c.args.lines.now c.loop-line.line-index c.line-item.result (omega (arith, c.loop-line-test.true, c.loop-line.auto.line-index-end)) c.line-item.is in (
      omega (arith, c.loop-line.invariant.later, c.in_default.ensures.cause.failed),
      prefix_of_text lines c.loop-line.line-index line _ _ _ e c.loop-line.invariant.written
          (subst (AppendsPrefix (g.O.Sink.contents c.loop-line.out) (g.O.Sink.contents c.write_all.new.sink)) c.deref.ensures.value c.in_default.ensures.prefix),
    )

pub loop-line-preserved : goal.loop-line-preserved
loop-line-preserved g c =
    let lines : List (List ℕ) = map (λ v. v.items) c.args.lines.now in
    let line : List ℕ = c.line-item.result.items in
    let e : slice_get lines c.loop-line.line-index ≡ Some line =
    mapped_item (λ v. v.items) c.args.lines.now c.loop-line.line-index c.line-item.result (omega (arith, c.loop-line-test.true, c.loop-line.auto.line-index-end)) c.line-item.is in
    record {
      written = one_more_written lines c.loop-line.line-index line _ _ _ e c.loop-line.invariant.written
          (subst (Appends (g.O.Sink.contents c.loop-line.out) (g.O.Sink.contents c.write_all.new.sink)) c.deref.ensures.value c.in-Ok.ensures.written);
      later = omega (arith, c.loop-line.invariant.later, c.in-Ok.ensures.cause.later);
    }
