use Rattle.std.proofs.Common.{◌≡◌, ◌∙◌, sym, ap, ◌&&◌}
use Rattle.std.proofs.lemmas.Str.{IsUtf8-past_char}
use Rattle.dsl_reader.proofs.SpacedLemmas.{white_step, other_step, spaced_end}
use Rattle.dsl_reader.proofs.spelling.spaced.Goals as goal
use Rattle.dsl_reader.proofs.spelling.spaced.Goals.{then-started, else-started}

pub loop-c-preserved-then-is_white_space : goal.loop-c-preserved-then-is_white_space
loop-c-preserved-then-is_white_space c =
    let parts = c.in-Some.ensures.steps.0 in
    record {
      utf8 = IsUtf8-past_char _ _ c.in-Some.c c.loop-c.invariant.utf8 parts;
      made = white_step _ _ _ _ c.in-Some.c _ c.loop-c.pending c.loop-c.invariant.utf8 parts (sym c.is_white_space.ensures ∙ c.if-is_white_space.true) c.loop-c.invariant.made;
    }

pub loop-c-preserved : goal.loop-c-preserved
loop-c-preserved c =
    let parts = c.in-Some.ensures.steps.0 in
    let space : c.if-started.push_behind ≡ (c.loop-c.started && c.loop-c.pending) =
    elim c.if-started.branch [ then-started w ↦ w.push_behind-is ∙ sym (ap (λ b. b && c.loop-c.pending) w.if-started.true) | else-started w ↦ w.push_behind-is ∙ w.if-started.false ∙ sym (ap (λ b. b && c.loop-c.pending) w.if-started.false) ] in
    record {
      utf8 = IsUtf8-past_char _ _ c.in-Some.c c.loop-c.invariant.utf8 parts;
      made = other_step _ _ _ _ _ c.in-Some.c c.loop-c.started c.loop-c.pending _ c.loop-c.invariant.utf8 parts (sym c.is_white_space.ensures ∙ c.if-is_white_space.false) space c.in_ok-push_behind.ensures c.loop-c.invariant.made;
    }

pub returns : goal.returns
returns c = spaced_end _ _ _ c.loop-c.started c.loop-c.pending c.in-None.ensures.steps.0.0 c.loop-c.invariant.made
