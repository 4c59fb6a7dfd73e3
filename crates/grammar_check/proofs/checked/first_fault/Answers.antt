use Rattle.std.proofs.Common.{arith, ◌<◌, ap, subst, refl, length}
use Rattle.finite_sets.proofs.Clauses.{at_some}
use Rattle.grammar_model.specs.Grammar.{Grammar}
use Rattle.grammar_model.specs.Cycles.{HasHeights, IsLeastCycle}
use Rattle.grammar_model.specs.Checked.{SequenceLhs, Duplicate, IsFault, SequencesAreAlone, RulesDiffer}
use Rattle.grammar_model.proofs.Cycles.{no_cycle}
use Rattle.grammar_check.specs.Told.{slots_with}
use Rattle.grammar_check.proofs.Clearing.{clear, none_told}
use Rattle.grammar_check.proofs.checked.first_fault.Goals as goal

pub returns-in-Some-2-clause-err : goal.returns-in-Some-2-clause-err
returns-in-Some-2-clause-err c =
    let e = c.written-w.ensures in
    let rules : 0 < length c.args.analysis.now.rules = omega (arith, c.if-rule_count-eq0.false, c.rule_count.ensures.count, ap (λ (g : Grammar). length g.rules) e) in
    let starts : 0 < length c.args.analysis.now.starts = omega (arith, c.if-start_count-eq0.false, c.start_count.ensures.count, ap (λ (g : Grammar). length g.starts) e) in
    record {
      fault = subst (λ g. IsFault g (SequenceLhs c.in-Some-2.symbol)) e (at_some (λ s. IsFault c.written-w.result.now (SequenceLhs s)) c.in_ok-symbol.field-0 c.in-Some-2.symbol c.in-Some-2.is c.in_ok-symbol.ensures.some);
      first = clear c.args.analysis.now 4 (omega arith) (λ _. rules) (λ _. starts) (λ _. c.in_default.ensures.none refl) (λ lt. absurd (omega (arith, lt))) (λ lt. absurd (omega (arith, lt))) (λ lt. absurd (omega (arith, lt))) (λ lt. absurd (omega (arith, lt)));
    }

pub returns-in-Some-3-clause-err : goal.returns-in-Some-3-clause-err
returns-in-Some-3-clause-err c =
    let e = c.written-w.ensures in
    let rules : 0 < length c.args.analysis.now.rules = omega (arith, c.if-rule_count-eq0.false, c.rule_count.ensures.count, ap (λ (g : Grammar). length g.rules) e) in
    let starts : 0 < length c.args.analysis.now.starts = omega (arith, c.if-start_count-eq0.false, c.start_count.ensures.count, ap (λ (g : Grammar). length g.starts) e) in
    let alone = subst SequencesAreAlone e (none_told c.in_ok-symbol.field-0 (SequencesAreAlone c.written-w.result.now) c.in_default-2.is c.in_ok-symbol.ensures.none) in
    record {
      fault = subst (λ g. IsFault g (Duplicate c.in-Some-3.rule)) e (at_some (λ s. IsFault c.written-w.result.now (Duplicate s)) c.in_ok-rule.field-0 c.in-Some-3.rule c.in-Some-3.is c.in_ok-rule.ensures.some);
      first = clear c.args.analysis.now 5 (omega arith) (λ _. rules) (λ _. starts) (λ _. c.in_default.ensures.none refl) (λ _. alone) (λ lt. absurd (omega (arith, lt))) (λ lt. absurd (omega (arith, lt))) (λ lt. absurd (omega (arith, lt)));
    }

pub returns-in-Some-counted_nullable-clause-err : goal.returns-in-Some-counted_nullable-clause-err
returns-in-Some-counted_nullable-clause-err c =
    let e = c.written-w.ensures in
    let rules : 0 < length c.args.analysis.now.rules = omega (arith, c.if-rule_count-eq0.false, c.rule_count.ensures.count, ap (λ (g : Grammar). length g.rules) e) in
    let starts : 0 < length c.args.analysis.now.starts = omega (arith, c.if-start_count-eq0.false, c.start_count.ensures.count, ap (λ (g : Grammar). length g.starts) e) in
    let alone = subst SequencesAreAlone e (none_told c.in_ok-symbol.field-0 (SequencesAreAlone c.written-w.result.now) c.in_default-2.is c.in_ok-symbol.ensures.none) in
    let differ = subst RulesDiffer e (none_told c.in_ok-rule.field-0 (RulesDiffer c.written-w.result.now) c.in_default-3.is c.in_ok-rule.ensures.none) in
    record {
      fault = c.in-Some-counted_nullable.ensures.some;
      first = clear c.args.analysis.now 6 (omega arith) (λ _. rules) (λ _. starts) (λ _. c.in_default.ensures.none refl) (λ _. alone) (λ _. differ) (λ lt. absurd (omega (arith, lt))) (λ lt. absurd (omega (arith, lt)));
    }

pub returns-in-Some-unproductive_start-clause-err : goal.returns-in-Some-unproductive_start-clause-err
returns-in-Some-unproductive_start-clause-err c =
    let e = c.written-w.ensures in
    let rules : 0 < length c.args.analysis.now.rules = omega (arith, c.if-rule_count-eq0.false, c.rule_count.ensures.count, ap (λ (g : Grammar). length g.rules) e) in
    let starts : 0 < length c.args.analysis.now.starts = omega (arith, c.if-start_count-eq0.false, c.start_count.ensures.count, ap (λ (g : Grammar). length g.starts) e) in
    let alone = subst SequencesAreAlone e (none_told c.in_ok-symbol.field-0 (SequencesAreAlone c.written-w.result.now) c.in_default-2.is c.in_ok-symbol.ensures.none) in
    let differ = subst RulesDiffer e (none_told c.in_ok-rule.field-0 (RulesDiffer c.written-w.result.now) c.in_default-3.is c.in_ok-rule.ensures.none) in
    record {
      fault = c.in-Some-unproductive_start.ensures.some;
      first = clear c.args.analysis.now 7 (omega arith) (λ _. rules) (λ _. starts) (λ _. c.in_default.ensures.none refl) (λ _. alone) (λ _. differ) (λ _. c.in_default-counted_nullable.ensures.none refl) (λ lt. absurd (omega (arith, lt)));
    }

pub returns-in-Some-4-clause-err : goal.returns-in-Some-4-clause-err
returns-in-Some-4-clause-err c =
    let e = c.written-w.ensures in
    let rules : 0 < length c.args.analysis.now.rules = omega (arith, c.if-rule_count-eq0.false, c.rule_count.ensures.count, ap (λ (g : Grammar). length g.rules) e) in
    let starts : 0 < length c.args.analysis.now.starts = omega (arith, c.if-start_count-eq0.false, c.start_count.ensures.count, ap (λ (g : Grammar). length g.starts) e) in
    let alone = subst SequencesAreAlone e (none_told c.in_ok-symbol.field-0 (SequencesAreAlone c.written-w.result.now) c.in_default-2.is c.in_ok-symbol.ensures.none) in
    let differ = subst RulesDiffer e (none_told c.in_ok-rule.field-0 (RulesDiffer c.written-w.result.now) c.in_default-3.is c.in_ok-rule.ensures.none) in
    record {
      fault = at_some (λ cycle. IsLeastCycle c.args.analysis.now (slots_with cycle.items)) c.in_ok-cycle.field-0 c.in-Some-4.cycle c.in-Some-4.is c.in_ok-cycle.ensures.some;
      first = clear c.args.analysis.now 8 (omega arith) (λ _. rules) (λ _. starts) (λ _. c.in_default.ensures.none refl) (λ _. alone) (λ _. differ) (λ _. c.in_default-counted_nullable.ensures.none refl) (λ _. c.in_default-unproductive_start.ensures.none refl);
    }

pub returns-clause-ok : goal.returns-clause-ok
returns-clause-ok c =
    let e = c.written-w.ensures in
    let high = none_told c.in_ok-cycle.field-0 (HasHeights c.args.analysis.now) c.in_default-4.is c.in_ok-cycle.ensures.none in
    record {
      some_rule = omega (arith, c.if-rule_count-eq0.false, c.rule_count.ensures.count, ap (λ (g : Grammar). length g.rules) e);
      some_start = omega (arith, c.if-start_count-eq0.false, c.start_count.ensures.count, ap (λ (g : Grammar). length g.starts) e);
      starts_left = c.in_default.ensures.none refl;
      sequences_alone = subst SequencesAreAlone e (none_told c.in_ok-symbol.field-0 (SequencesAreAlone c.written-w.result.now) c.in_default-2.is c.in_ok-symbol.ensures.none);
      rules_differ = subst RulesDiffer e (none_told c.in_ok-rule.field-0 (RulesDiffer c.written-w.result.now) c.in_default-3.is c.in_ok-rule.ensures.none);
      items_span = c.in_default-counted_nullable.ensures.none refl;
      starts_productive = c.in_default-unproductive_start.ensures.none refl;
      acyclic = no_cycle c.args.analysis.now high;
      heights = high;
    }
