use Rattle.std.proofs.Common.{◌↔◌, ◌+◌, ◌<◌, ◌^◌, ℕ, Bool, false, true, List, length, slice_index, slice_index_or, IsTrue, sym, subst}
use Rattle.grammar_model.specs.Checked.{IsLeft}
use Rattle.slot_analysis.specs.Slots.{IsNumbering}
use Rattle.slot_analysis.specs.Clauses.{IsAnalysis}
use Rattle.slot_analysis.specs.Steps.{IsReach}
use Rattle.slot_analysis.proofs.analysis.tables_of.Goals as goal

pub analysis_of-requires-clause-left : goal.analysis_of-requires-clause-left
analysis_of-requires-clause-left c = subst (λ (l : List Bool). (s : ℕ) → IsTrue (slice_index_or l s false) ↔ IsLeft c.args.w.now s) (sym c.deref-2.ensures.value) c.in_ok-lefts.ensures.left

pub analysis_of-requires-2-clause-left : goal.analysis_of-requires-2-clause-left
analysis_of-requires-2-clause-left c = subst (λ (l : List Bool). (s : ℕ) → IsTrue (slice_index_or l s false) ↔ IsLeft c.args.w.now s) (sym c.deref-4.ensures.value) c.in_ok-lefts.ensures.left

pub reach_of-requires-clause-productive : goal.reach_of-requires-clause-productive
reach_of-requires-clause-productive c =
    subst (λ (b : List ℕ). IsAnalysis false c.args.w.now b c.in_ok-productive.productive) (sym c.deref-5.ensures.value) (subst (λ (b : List ℕ). IsAnalysis false c.args.w.now b c.in_ok-productive.productive) c.deref-3.ensures.value c.in_ok-productive.ensures)

pub returns : goal.returns
returns c = record {
  written = c.known.ensures;
  numbering = c.in_ok-bases.ensures;
  sized = c.in_ok-lefts.ensures.length;
  left = c.in_ok-lefts.ensures.left;
  nullable = subst (λ (b : List ℕ). IsAnalysis true c.args.w.now b c.in_ok-nullable.nullable) c.deref.ensures.value c.in_ok-nullable.ensures;
  productive = subst (λ (b : List ℕ). IsAnalysis false c.args.w.now b c.in_ok-productive.productive) c.deref-3.ensures.value c.in_ok-productive.ensures;
  reached = subst (λ (b : List ℕ). IsReach c.args.w.now b c.in_ok-reach.reach) c.deref-5.ensures.value c.in_ok-reach.ensures.reach;
  small = subst (λ (b : List ℕ). slice_index b (length c.args.w.now.names) + slice_index b (length c.args.w.now.names) < 2 ^ 32) c.deref-5.ensures.value c.in_ok-reach.ensures.small;
}
