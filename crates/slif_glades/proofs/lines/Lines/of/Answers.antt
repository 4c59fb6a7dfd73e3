use Rattle.std.proofs.lemmas.Str.{IsUtf8-past_char}
use Rattle.slif_glades.proofs.LineStarts.{starts_step, one_further, starts_end}
use Rattle.slif_glades.proofs.lines.Lines.of.Goals as goal

pub loop-c-preserved : goal.loop-c-preserved
loop-c-preserved c =
    let utf8 = c.loop-c.invariant.utf8 in
    let parts = c.in-Some.ensures.steps.0 in
    record {
      utf8 = IsUtf8-past_char _ _ c.in-Some.c utf8 parts;
      at = one_further _ _ _ c.loop-c.starts.items c.in-Some.c utf8 parts _ c.loop-c.invariant.at;
      starts = starts_step _ _ _ _ c.in-Some.c utf8 parts _ _ c.in_ok-note.ensures c.loop-c.invariant.starts;
    }

pub returns : goal.returns
returns c =
    let ended = starts_end _ _ _ _ _ c.in-None.ensures.steps.0.0 c.loop-c.invariant.at c.loop-c.invariant.starts in
    record { starts_are = ended.0; end_is = ended.1 }
