use Rattle.std.proofs.Common.{arith, sym, ◌∙◌, ap, slice_get, length, true≢false}
use Rattle.grammar_model.specs.Grammar.{Grammar}
use Rattle.grammar_model.specs.Checked.{IsLeft}
use Rattle.grammar_check.proofs.Faults.{starts_more, starts_all}
use Rattle.grammar_check.proofs.refusals.start_without_rule.Goals as goal

pub returns-then-not-is_left-clause-some : goal.returns-then-not-is_left-clause-some
returns-then-not-is_left-clause-some c = (
  c.loop-k.k,
  (ap (λ (g : Grammar). slice_get g.starts c.loop-k.k) (sym c.written-w.ensures) ∙ c.start_at-s.ensures.value),
  (λ p. true≢false (sym (c.is_left.ensures.1 p) ∙ c.if-not-is_left.true)),
  (λ j s lt e none. none (c.loop-k.invariant j s lt e)),
)

pub loop-k-preserved : goal.loop-k-preserved
loop-k-preserved c = starts_more (λ s. IsLeft c.args.analysis.now s) c.args.analysis.now.starts c.loop-k.k c.start_at-s.result
    (ap (λ (g : Grammar). slice_get g.starts c.loop-k.k) (sym c.written-w.ensures) ∙ c.start_at-s.ensures.value) (c.is_left.ensures.0 c.if-not-is_left.false) c.loop-k.invariant

pub returns-clause-none : goal.returns-clause-none
returns-clause-none c = λ _. starts_all (λ s. IsLeft c.args.analysis.now s) c.args.analysis.now.starts c.loop-k.k
    (let e = ap (λ (g : Grammar). length g.starts) c.written-w.ensures in omega (arith, e, c.start_count-k-end.ensures.count, c.loop-k-test.false)) c.loop-k.invariant
