use Rattle.std.proofs.Common.{◌∷◌, [], ◌++◌, ◌+◌, length, map, refl, sym, ap, subst, arith}
use Rattle.std.specs.Prelude.{◌≡◌, Err}
use Rattle.grammar_core.specs.Steps.{step_of}
use Rattle.valuator.specs.Play.{CanTellAll, tokens_of}
use Rattle.tree_fold.specs.Values.{Gives, Fails, IsAsked}
use Rattle.tree_fold.proofs.Holding.{failure_weaker, can_begin, can_next, can_go_on, holds_none, holds_more, folded, some_held, failed, asked, no_memory}
use Rattle.tree_fold.proofs.fold.fold_steps.Goals as goal

pub loop-step-init : goal.loop-step-init
loop-step-init g c = record {
  holds = holds_none g.S.Semantics.token_gives g.S.Semantics.nulled_gives g.S.Semantics.rule_gives c.args.w.now (tokens_of c.args.chars.now c.args.spans.now) c.args.steps.now c.args.semantics.now c.new-held.result.items c.new-held.ensures.items;
  can = subst (λ n. CanTellAll c.args.w.now (length c.args.spans.now) n (map step_of c.args.steps.now)) (ap length (sym c.new-held.ensures.items))
      (can_begin c.args.w.now (length c.args.spans.now) c.known.ensures (map step_of c.args.steps.now) c.requires.steps);
}

pub make-requires-clause-step : goal.make-requires-clause-step
make-requires-clause-step g c =
    can_next c.args.w.now (length c.args.spans.now) (length c.loop-step.held.items) c.args.steps.now c.loop-step.step-index c.step-item.result (omega arith) c.step-item.is c.loop-step.invariant.can

pub returns-in-Err-clause-failure : goal.returns-in-Err-clause-failure
returns-in-Err-clause-failure g c =
    let start = c.args.semantics.now in
    let before = c.loop-step.semantics in
    let after = c.make.new.semantics in
    let held = c.loop-step.held.items in
    let steps = c.args.steps.now in
    failure_weaker
    (λ e. Gives g.S.Semantics.token_gives g.S.Semantics.nulled_gives g.S.Semantics.rule_gives c.args.w.now (tokens_of c.args.chars.now c.args.spans.now) before held (step_of c.step-item.result) (Err e) after)
    (λ e. Fails g.S.Semantics.token_gives g.S.Semantics.nulled_gives g.S.Semantics.rule_gives c.args.w.now (tokens_of c.args.chars.now c.args.spans.now) (map step_of steps) start e after)
    (after ≡ before)
    (IsAsked g.S.Semantics.token_gives g.S.Semantics.nulled_gives g.S.Semantics.rule_gives c.args.w.now (tokens_of c.args.chars.now c.args.spans.now) (map step_of steps) start after)
    (failed g.S.Semantics.token_gives g.S.Semantics.nulled_gives g.S.Semantics.rule_gives c.args.w.now (tokens_of c.args.chars.now c.args.spans.now) steps c.loop-step.step-index c.step-item.result start before held after (omega arith) c.step-item.is c.loop-step.invariant.holds)
    (λ same. subst (λ z. IsAsked g.S.Semantics.token_gives g.S.Semantics.nulled_gives g.S.Semantics.rule_gives c.args.w.now (tokens_of c.args.chars.now c.args.spans.now) (map step_of steps) start z) (sym same) (asked g.S.Semantics.token_gives g.S.Semantics.nulled_gives g.S.Semantics.rule_gives c.args.w.now (tokens_of c.args.chars.now c.args.spans.now) steps c.loop-step.step-index start held before c.loop-step.invariant.holds))
    c.in-Err.error c.in-Err.ensures.failure

pub loop-step-preserved : goal.loop-step-preserved
loop-step-preserved g c = record {
  holds = holds_more g.S.Semantics.token_gives g.S.Semantics.nulled_gives g.S.Semantics.rule_gives c.args.w.now (tokens_of c.args.chars.now c.args.spans.now) (length c.args.spans.now) c.args.steps.now c.loop-step.step-index c.step-item.result c.args.semantics.now c.loop-step.semantics
      c.loop-step.held.items c.make.new.held.items c.push.new.self.items c.in-Ok.value c.make.new.semantics (omega arith) c.step-item.is c.loop-step.invariant.can c.loop-step.invariant.holds c.in-Ok.ensures.value c.in-Ok.ensures.left c.in_ok-push.ensures.items;
  can = can_go_on c.args.w.now (length c.args.spans.now) c.loop-step.held.items c.make.new.held.items c.push.new.self.items c.in-Ok.value c.args.steps.now c.loop-step.step-index c.step-item.result (omega arith) c.step-item.is
      c.loop-step.invariant.can c.in-Ok.ensures.left c.in_ok-push.ensures.items;
}

pub returns-in_err-push-clause-failure : goal.returns-in_err-push-clause-failure
returns-in_err-push-clause-failure g c =
    let start = c.args.semantics.now in
    let after = c.make.new.semantics in
    let steps = c.args.steps.now in
    no_memory c.from_residual.result (λ e. Fails g.S.Semantics.token_gives g.S.Semantics.nulled_gives g.S.Semantics.rule_gives c.args.w.now (tokens_of c.args.chars.now c.args.spans.now) (map step_of steps) start e after) (IsAsked g.S.Semantics.token_gives g.S.Semantics.nulled_gives g.S.Semantics.rule_gives c.args.w.now (tokens_of c.args.chars.now c.args.spans.now) (map step_of steps) start after) c.from_residual.ensures.1
    (asked g.S.Semantics.token_gives g.S.Semantics.nulled_gives g.S.Semantics.rule_gives c.args.w.now (tokens_of c.args.chars.now c.args.spans.now) steps (c.loop-step.step-index + 1) start (c.make.new.held.items ++ c.in-Ok.value ∷ []) after
    (holds_more g.S.Semantics.token_gives g.S.Semantics.nulled_gives g.S.Semantics.rule_gives c.args.w.now (tokens_of c.args.chars.now c.args.spans.now) (length c.args.spans.now) steps c.loop-step.step-index c.step-item.result start c.loop-step.semantics
    c.loop-step.held.items c.make.new.held.items (c.make.new.held.items ++ c.in-Ok.value ∷ []) c.in-Ok.value after (omega arith) c.step-item.is c.loop-step.invariant.can c.loop-step.invariant.holds c.in-Ok.ensures.value c.in-Ok.ensures.left refl))

pub unreachable-requires : goal.unreachable-requires
unreachable-requires g c =
    let some = some_held g.S.Semantics.token_gives g.S.Semantics.nulled_gives g.S.Semantics.rule_gives c.args.w.now (tokens_of c.args.chars.now c.args.spans.now) (length c.args.spans.now) c.args.steps.now c.loop-step.step-index c.args.semantics.now
    c.loop-step.held.items c.loop-step.semantics (omega arith) c.loop-step.invariant.holds c.requires.steps in
    let none = c.in-None.ensures.cases.0 in
    absurd (omega (arith, some, none))

pub returns-clause-value : goal.returns-clause-value
returns-clause-value g c =
    folded g.S.Semantics.token_gives g.S.Semantics.nulled_gives g.S.Semantics.rule_gives c.args.w.now (tokens_of c.args.chars.now c.args.spans.now) c.args.steps.now c.loop-step.step-index c.args.semantics.now c.loop-step.held.items c.pop.new.self.items
    c.in-Some.value c.loop-step.semantics (omega arith) c.loop-step.invariant.holds c.in-Some.ensures.items
