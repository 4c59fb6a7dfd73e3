use Rattle.std.proofs.Common.{arith, ◌≡◌, ◌∙◌, ℕ, ◌+◌, inl, inr, ap, subst, length, slice_index, Contains, List}
use Rattle.std.proofs.lemmas.Result.{IfOk-weaker}
use Rattle.finite_sets.proofs.Lists.{Contains-none}
use Rattle.grammar_model.specs.Grammar.{rule_at}
use Rattle.slot_analysis.specs.Slots.{needed_of}
use Rattle.grammar_check.specs.Linked.{HasPairs, IsLinkOf, IsLinkTo}
use Rattle.grammar_check.proofs.Linking.{pairs_both, links_more}
use Rattle.grammar_check.proofs.links.links_of.Goals as goal

pub loop-i-preserved : goal.loop-i-preserved
loop-i-preserved c = pairs_both c.new-links.result c.loop-i.links c.add_links.new.rows (IsLinkTo c.args.w.now c.args.slots.now.bases.now c.loop-i.i) (IsLinkOf c.args.w.now c.args.slots.now.bases.now c.loop-i.i (needed_of (rule_at c.args.w.now c.loop-i.i))) (IsLinkTo c.args.w.now c.args.slots.now.bases.now (c.loop-i.i + 1))
    (links_more c.args.w.now c.args.slots.now.bases.now c.loop-i.i) c.loop-i.invariant c.in_ok-add_links.ensures

pub returns-clause-length : goal.returns-clause-length
returns-clause-length c = IfOk-weaker c.rows.result _ _ (λ rows same. same.same_length ∙ (c.loop-i.invariant.same_length ∙ (c.new-links.ensures.length ∙ ap (slice_index c.args.slots.now.bases.now) c.symbol_count.ensures.count))) c.rows.ensures

pub returns-clause-links : goal.returns-clause-links
returns-clause-links c =
    let e : c.loop-i.i ≡ length c.args.w.now.rules = omega (arith, c.loop-i-test.false, c.loop-i.auto.i-end, c.rule_count-i-end.ensures.count) in
    let p = subst (λ n. HasPairs c.new-links.result c.loop-i.links (IsLinkTo c.args.w.now c.args.slots.now.bases.now n)) e c.loop-i.invariant in
    IfOk-weaker c.rows.result _ _ (λ rows same t h. (
      λ m. elim (p.only t h ((same.same t h).0 m)) [ inl old ↦ absurd (Contains-none h (subst (λ (l : List ℕ). Contains l h) (c.new-links.ensures.empty t) old)) | inr q ↦ q ],
      λ q. (same.same t h).1 (p.has t h q),
    )) c.rows.ensures
