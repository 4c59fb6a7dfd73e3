use Rattle.std.proofs.Common.{arith, sym, ◌∙◌, ap, subst, length, true≢false, inl, inr}
use Rattle.grammar_model.specs.Grammar.{Grammar}
use Rattle.grammar_model.specs.Checked.{IsCountedNullable}
use Rattle.horn_clauses.proofs.Search.{same_or_below}
use Rattle.grammar_check.proofs.refusals.counted_nullable.Goals as goal

pub loop-i-preserved : goal.loop-i-preserved
loop-i-preserved c = λ j lt h. elim (same_or_below j c.loop-i.i lt) [
  | inl before ↦ c.loop-i.invariant j before h
  | inr same ↦ true≢false (sym (c.counts_nullable.ensures.1 (subst (IsCountedNullable c.args.analysis.now) same h)) ∙ c.if-counts_nullable.false)
]

pub returns-clause-none : goal.returns-clause-none
returns-clause-none c = λ _ i lt h. c.loop-i.invariant i (let e = ap (λ (g : Grammar). length g.rules) c.written.ensures in omega (arith, e, lt, c.loop-i-test.false, c.rule_count-count.ensures.count)) h
