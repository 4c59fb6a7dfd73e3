use Rattle.std.proofs.lemmas.Str.{IsUtf8-past_char}
use Rattle.tree_pictures.specs.Pictures.{escaped}
use Rattle.tree_pictures.proofs.Eaches.{each_step, each_end}
use Rattle.tree_pictures.proofs.svg.push_escaped.Goals as goal

pub loop-c-preserved : goal.loop-c-preserved
loop-c-preserved c =
    let parts = c.in-Some.ensures.steps.0 in
    record {
      utf8 = IsUtf8-past_char _ _ c.in-Some.c c.loop-c.invariant.utf8 parts;
      written = each_step escaped _ _ _ _ _ c.in-Some.c c.loop-c.invariant.utf8 parts c.in_ok-push_character.ensures c.loop-c.invariant.written;
    }

pub returns : goal.returns
returns c = each_end escaped _ _ _ c.in-None.ensures.steps.0.0 c.loop-c.invariant.written
