use Rattle.std.proofs.lemmas.Str.{IsUtf8-past_char}
use Rattle.ini_json.specs.Json.{character_json}
use Rattle.ini_json.proofs.Eaches.{each_step, each_end}
use Rattle.ini_json.proofs.json.put_inside.Goals as goal

pub loop-c-preserved : goal.loop-c-preserved
loop-c-preserved c =
    let parts = c.in-Some.ensures.steps.0 in
    record {
      utf8 = IsUtf8-past_char _ _ c.in-Some.c c.loop-c.invariant.utf8 parts;
      written = each_step character_json _ _ _ _ _ c.in-Some.c c.loop-c.invariant.utf8 parts c.in_ok-put_character.ensures c.loop-c.invariant.written;
    }

pub returns : goal.returns
returns c = each_end character_json _ _ _ c.in-None.ensures.steps.0.0 c.loop-c.invariant.written
