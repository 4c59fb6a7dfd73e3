use Rattle.std.proofs.Common.{◌≡◌, take, drop, map, length}
use Rattle.grammar_model.specs.Values.{told_all}
use Rattle.grammar_core.specs.Steps.{step_of}
use Rattle.value_text.specs.Meaning.{meaning_of}
use Rattle.valuator.specs.Told.{states, advanced}
use Rattle.valuator.specs.Play.{tokens_of, EachCanTellAll}
use Rattle.valuator.proofs.playing.tell_steps.Given as goal

abbrev pub invariant-loop-step : goal.invariant-loop-step
invariant-loop-step g l = record {
  told : states l.tellers.items (λ t. (goal.Teller-dyn g (t.vtable, t.value)).shows t.value) (λ t. (goal.Teller-dyn g (t.vtable, t.value)).held t.value)
      ≡ advanced (λ show values. told_all show l.fn.p.w.now (meaning_of l.fn.p.meaning.now) (tokens_of l.fn.p.chars.now l.fn.p.spans.now) values (map step_of (take l.step-index l.list)))
      (states l.fn.tellers.items (λ t. (goal.Teller-dyn g (t.vtable, t.value)).shows t.value) (λ t. (goal.Teller-dyn g (t.vtable, t.value)).held t.value));
  can : EachCanTellAll l.fn.p.w.now (length l.fn.p.spans.now)
      (states l.tellers.items (λ t. (goal.Teller-dyn g (t.vtable, t.value)).shows t.value) (λ t. (goal.Teller-dyn g (t.vtable, t.value)).held t.value)) (map step_of (drop l.step-index l.list));
}
