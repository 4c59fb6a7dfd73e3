use Rattle.std.proofs.Common.{arith, ◌≡◌, Bool, true, false, ◌+◌, ◌<◌, ◌||◌, List, sym, ap, ◌∙◌, subst, refl, length, slice_index_or, length-set}
use Rattle.std.proofs.lemmas.List.{get_or_default}
use Rattle.grammar_model.specs.Grammar.{rule_at, lhs_of}
use Rattle.grammar_check.specs.Shared.{HasTwo, Marks}
use Rattle.grammar_check.proofs.Sharing.{SeenIn, mark_more, seen_more, two_more}
use Rattle.grammar_check.proofs.shared.twice_left.Goals as goal

pub loop-i-preserved : goal.loop-i-preserved
loop-i-preserved c =
    let x = c.symbol.inside.0 in
    let is : x ≡ lhs_of (rule_at c.args.w.now c.loop-i.i) = c.symbol.view_is ∙ c.lhs.ensures.is in
    let known : x < length c.args.w.now.names = omega (arith, c.symbol.view_is, c.lhs.ensures.known) in
    let at : c.index.result.now ≡ slice_index_or c.loop-i.seen.items x false = c.index.ensures ∙ get_or_default c.loop-i.seen.items x c.index.result.now false (omega (arith, known, c.loop-i.invariant.seen_length)) in
    record {
      seen_length = ap length c.mark-in-loop-i.ensures ∙ (length-set c.loop-i.seen.items x (slice_index_or c.loop-i.seen.items x false || true) ∙ c.loop-i.invariant.seen_length);
      twice_length = ap length c.mark.ensures ∙ (length-set c.loop-i.twice.items x (slice_index_or c.loop-i.twice.items x false || c.index.result.now) ∙ c.loop-i.invariant.twice_length);
      seen = subst (λ (l : List Bool). Marks l (SeenIn c.args.w.now (c.loop-i.i + 1))) (sym c.mark-in-loop-i.ensures)
          (mark_more c.loop-i.seen.items (SeenIn c.args.w.now c.loop-i.i) (SeenIn c.args.w.now (c.loop-i.i + 1)) x true (Unit {0}) c.loop-i.invariant.seen (omega (arith, known, c.loop-i.invariant.seen_length)) (λ t. tt, λ u. refl)
          (seen_more c.args.w.now c.loop-i.i x is));
      twice = subst (λ (l : List Bool). Marks l (HasTwo c.args.w.now (c.loop-i.i + 1))) (sym c.mark.ensures)
          (mark_more c.loop-i.twice.items (HasTwo c.args.w.now c.loop-i.i) (HasTwo c.args.w.now (c.loop-i.i + 1)) x c.index.result.now (SeenIn c.args.w.now c.loop-i.i x) c.loop-i.invariant.twice (omega (arith, known, c.loop-i.invariant.twice_length))
          (λ t. (c.loop-i.invariant.seen x).0 (sym at ∙ t), λ s. at ∙ (c.loop-i.invariant.seen x).1 s)
          (two_more c.args.w.now c.loop-i.i x is));
    }

pub returns-clause-marks : goal.returns-clause-marks
returns-clause-marks c = subst (λ n. Marks c.loop-i.twice.items (HasTwo c.args.w.now n)) (let z : c.loop-i.i ≡ length c.args.w.now.rules = omega (arith, c.loop-i-test.false, c.loop-i.auto.i-end, c.rule_count-i-end.ensures.count) in z) c.loop-i.invariant.twice
