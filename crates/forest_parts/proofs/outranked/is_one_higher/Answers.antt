use Rattle.std.proofs.Common.{rules, ◌≡◌, inl, inr, refl, sym, subst, true≢false, arith}
use Rattle.std.proofs.lemmas.Bool.{cases_lt}
use Rattle.forest_parts.specs.Unasked.{IsHigher}
use Rattle.forest_parts.proofs.outranked.is_one_higher.Goals as goal

pub loop-rule-init : goal.loop-rule-init
loop-rule-init c = record { low = omega arith; none = λ r le lt h. absurd (omega arith) }

pub is_higher-requires-clause-rule : goal.is_higher-requires-clause-rule
is_higher-requires-clause-rule c = c.requires.rules c.loop-rule.rule c.loop-rule.invariant.low c.loop-rule-test.true

pub loop-rule-preserved : goal.loop-rule-preserved
loop-rule-preserved c = record {
  low = (let l = c.loop-rule.invariant.low in omega arith);
  none = λ r le lt h. elim (cases_lt r c.loop-rule.rule) [
    | inl less ↦ c.loop-rule.invariant.none r le less h
    | inr ge ↦
        let same : r ≡ c.loop-rule.rule = omega arith in
        let t = c.is_higher.ensures.1 (subst (λ z. IsHigher c.args.w.now c.args.recce.now c.args.end c.args.item z) same h) in
        absurd (search rules)
  ];
}

pub returns-then-is_higher : goal.returns-then-is_higher
returns-then-is_higher c = (λ t. (c.loop-rule.rule, (c.loop-rule.invariant.low, c.loop-rule-test.true), c.is_higher.ensures.0 c.if-is_higher.true), λ h. refl)

pub returns : goal.returns
returns c = (λ t. absurd (true≢false (sym t)), λ (r, (le, lt), h). (let e = c.loop-rule-test.false in absurd (c.loop-rule.invariant.none r le (omega arith) h)))
