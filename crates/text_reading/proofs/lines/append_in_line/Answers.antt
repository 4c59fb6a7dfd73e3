use Rattle.std.proofs.lemmas.Str.{IsUtf8-past_char}
use Rattle.text_reading.proofs.OneLine.{shown_step, shown_end}
use Rattle.text_reading.proofs.lines.append_in_line.Goals as goal

pub loop-c-preserved : goal.loop-c-preserved
loop-c-preserved c =
    let parts = c.in-Some.ensures.steps.0 in
    record {
      utf8 = IsUtf8-past_char _ _ c.in-Some.c c.loop-c.invariant.utf8 parts;
      written = shown_step _ _ _ _ _ _ c.loop-c.invariant.utf8 parts c.in_ok-append_char.ensures c.loop-c.invariant.written;
    }

pub returns : goal.returns
returns c = shown_end _ _ _ c.in-None.ensures.steps.0.0 c.loop-c.invariant.written
