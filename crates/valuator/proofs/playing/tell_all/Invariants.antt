use Rattle.std.proofs.Common.{◌≡◌, take, drop}
use Rattle.grammar_model.specs.Values.{told}
use Rattle.grammar_core.specs.Steps.{step_of}
use Rattle.value_text.specs.Meaning.{meaning_of}
use Rattle.valuator.specs.Told.{states, advanced}
use Rattle.valuator.specs.Play.{tokens_of}
use Rattle.valuator.proofs.playing.tell_all.Given as goal

abbrev pub invariant-loop-teller : goal.invariant-loop-teller
invariant-loop-teller g l = record {
  told : take l.teller-index (states l.teller-items (λ t. (goal.Teller-dyn g (t.vtable, t.value)).shows t.value) (λ t. (goal.Teller-dyn g (t.vtable, t.value)).held t.value))
      ≡ take l.teller-index (advanced (λ show values. told show l.fn.p.w.now (meaning_of l.fn.p.meaning.now) (tokens_of l.fn.p.chars.now l.fn.p.spans.now) values (step_of l.fn.step))
      (states l.fn.tellers.items (λ t. (goal.Teller-dyn g (t.vtable, t.value)).shows t.value) (λ t. (goal.Teller-dyn g (t.vtable, t.value)).held t.value)));
  rest : drop l.teller-index l.teller-items ≡ drop l.teller-index l.fn.tellers.items;
}
