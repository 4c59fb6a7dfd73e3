use Rattle.std.proofs.lemmas.Str.{IsUtf8-past_char}
use Rattle.tree_text.specs.Written.{in_quotes}
use Rattle.tree_text.proofs.Eaches.{each_step, each_end}
use Rattle.tree_text.proofs.labels.push_inside.Goals as goal

pub loop-c-preserved : goal.loop-c-preserved
loop-c-preserved c =
    let parts = c.in-Some.ensures.steps.0 in
    record {
      utf8 = IsUtf8-past_char _ _ c.in-Some.c c.loop-c.invariant.utf8 parts;
      written = each_step in_quotes _ _ _ _ _ c.in-Some.c c.loop-c.invariant.utf8 parts c.in_ok-push_in_quotes.ensures c.loop-c.invariant.written;
    }

pub returns : goal.returns
returns c = each_end in_quotes _ _ _ c.in-None.ensures.steps.0.0 c.loop-c.invariant.written
