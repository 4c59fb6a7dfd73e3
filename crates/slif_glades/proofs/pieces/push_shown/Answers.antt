use Rattle.std.proofs.Common.{◌∙◌}
use Rattle.std.proofs.lemmas.Str.{IsUtf8-past_char}
use Rattle.std.proofs.lemmas.Result.{on_ok_weaker}
use Rattle.slif_glades.proofs.Shown.{shown_step, shown_stops, shown_end}
use Rattle.slif_glades.proofs.pieces.push_shown.Goals as goal

pub returns-then-left-eq0 : goal.returns-then-left-eq0
returns-then-left-eq0 c =
    let parts = c.in-Some.ensures.steps.0 in
    on_ok_weaker c.push.result (λ e. e ∙ shown_stops c.loop-c.left _ _ _ _ c.in-Some.c c.loop-c.invariant.utf8 parts c.if-left-eq0.true c.loop-c.invariant.written) c.push.ensures

pub loop-c-preserved : goal.loop-c-preserved
loop-c-preserved c =
    let parts = c.in-Some.ensures.steps.0 in
    record {
      utf8 = IsUtf8-past_char _ _ c.in-Some.c c.loop-c.invariant.utf8 parts;
      written = shown_step c.loop-c.left _ _ _ _ _ c.in-Some.c c.loop-c.invariant.utf8 parts c.if-left-eq0.false c.in_ok-push_char.ensures c.loop-c.invariant.written;
    }

pub returns : goal.returns
returns c = shown_end c.loop-c.left _ _ _ c.in-None.ensures.steps.0.0 c.loop-c.invariant.written
