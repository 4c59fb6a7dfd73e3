use Rattle.std.proofs.Common.{arith, ◌≡◌, Bool, false, ◌+◌, ◌<◌, ◌||◌, List, sym, ap, ◌∙◌, subst, length, slice_index_or, length-set}
use Rattle.grammar_model.specs.Grammar.{rule_at, lhs_of}
use Rattle.grammar_core.specs.Written.{rule_of}
use Rattle.grammar_check.specs.Shared.{HasSequence, IsSequenceAt, Marks}
use Rattle.grammar_check.proofs.Sharing.{mark_more, sequence_at, sequence_more}
use Rattle.grammar_check.proofs.shared.sequence_left.Goals as goal

pub loop-i-preserved : goal.loop-i-preserved
loop-i-preserved c =
    let g = c.args.w.now in
    let x = c.symbol.inside.0 in
    let is : x ≡ lhs_of (rule_at g c.loop-i.i) = c.symbol.view_is ∙ c.lhs.ensures.is in
    let known : x < length g.names = omega (arith, c.symbol.view_is, c.lhs.ensures.known) in
    let rule = rule_of c.rule.result.now in
    record {
      sized = ap length c.mark.ensures ∙ (length-set c.loop-i.marks.items x (slice_index_or c.loop-i.marks.items x false || c.is_sequence.result) ∙ c.loop-i.invariant.sized);
      marks = subst (λ (l : List Bool). Marks l (HasSequence c.args.w.now (c.loop-i.i + 1))) (sym c.mark.ensures)
          (mark_more c.loop-i.marks.items (HasSequence c.args.w.now c.loop-i.i) (HasSequence c.args.w.now (c.loop-i.i + 1)) x c.is_sequence.result (IsSequenceAt c.args.w.now c.loop-i.i) c.loop-i.invariant.marks (omega (arith, known, c.loop-i.invariant.sized))
          (sequence_at g c.loop-i.i rule c.is_sequence.result c.rule.ensures.is c.is_sequence.ensures) (sequence_more c.args.w.now c.loop-i.i x is));
    }

pub returns-clause-marks : goal.returns-clause-marks
returns-clause-marks c = subst (λ n. Marks c.loop-i.marks.items (HasSequence c.args.w.now n)) (let z : c.loop-i.i ≡ length c.args.w.now.rules = omega (arith, c.loop-i-test.false, c.loop-i.auto.i-end, c.rule_count-i-end.ensures.count) in z) c.loop-i.invariant.marks
