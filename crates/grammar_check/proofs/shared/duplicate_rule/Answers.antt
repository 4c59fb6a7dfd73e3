use Rattle.std.proofs.Common.{arith, inl, inr, sym, ◌∙◌, subst, true≢false, add-one}
use Rattle.grammar_model.specs.Checked.{IsDuplicate}
use Rattle.grammar_check.specs.Shared.{rows_of}
use Rattle.grammar_check.specs.Shared.{HasTexts}
use Rattle.horn_clauses.proofs.Search.{same_or_below}
use Rattle.grammar_check.proofs.shared.duplicate_rule.Goals as goal

pub loop-i-preserved : goal.loop-i-preserved
loop-i-preserved c = record {
  none = λ j lt d. elim (same_or_below j c.loop-i.i lt) [
    | inl low ↦ c.loop-i.invariant.none j low d
    | inr same ↦ true≢false (sym (c.in_ok-repeated.ensures.repeated.1 (subst (IsDuplicate c.args.w.now) same d)) ∙ c.if-repeated.false)
  ];
  texts = subst (λ n. HasTexts c.args.w.now n (rows_of c.is_repeated.new.texts.keys)) (sym (add-one c.loop-i.i)) c.in_ok-repeated.ensures.texts;
}

pub returns-clause-none : goal.returns-clause-none
returns-clause-none c = λ _ i lt d. c.loop-i.invariant.none i (omega (arith, lt, c.loop-i-test.false, c.rule_count-i-end.ensures.count)) d
