use Rattle.std.proofs.Common.{◌≡◌, map, refl, sym, ap, subst, ◌∙◌, rules, arith}
use Rattle.std.specs.Prelude.{IfSome}
use Rattle.std.proofs.lemmas.List.{map_push}
use Rattle.grammar_core.specs.Steps.{step_of}
use Rattle.scanning_calls.proofs.Gathering.{ended, no_more, one_kept}
use Rattle.scanning_calls.proofs.kept.gather.Goals as goal

pub kept-preserved : goal.kept-preserved
kept-preserved g c = record {
  kept = λ given are.
      one_kept given c.kept.iter c.next.new.self c.kept.counter _ _ (map step_of c.in_ok-copied.field-0.items) (c.kept.invariant.kept given are) c.in_ok-next.field-0 c.if-not-branch.false c.in_ok-next.ensures.answer
      (subst (λ steps. IfSome c.next.new.self.current (λ current. map step_of steps ≡ current)) (sym c.in_ok-copied.ensures) c.current_steps.ensures)
      (ap (map (λ steps. map step_of steps.items)) c.in_ok-push.ensures.items ∙ map_push (λ steps. map step_of steps.items) c.kept.kept.items c.in_ok-copied.field-0);
  forest = search rules;
}

pub returns : goal.returns
returns g c = λ given are.
    ended c.args.iter.now.forest c.next-2.new.self (c.in_ok-more.ensures.forest ∙ c.kept.invariant.forest) given c.args.most _ c.kept.iter c.kept.counter (c.kept.invariant.kept given are)
    (omega (arith, c.kept-test.false, c.kept.auto.counter-end)) c.in_ok-more.more refl c.in_ok-more.ensures.answer
