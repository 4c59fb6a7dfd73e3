use Rattle.std.proofs.Common.{List, [], length, map, take, drop, suc, sym, ap, ◌∙◌, subst, add-one, arith}
use Rattle.std.proofs.lemmas.List.{take_all}
use Rattle.forest_laws.specs.Guide.{all_ends, ends_after, step_from, top_of}
use Rattle.grammar_core.specs.Steps.{step_of}
use Rattle.tree_iter.specs.Leads.{AreRows}
use Rattle.tree_iter.proofs.LeadRows.{rows_none, rows_read}
use Rattle.tree_iter.proofs.leads.leads_of.Goals as goal

pub loop-step-init : goal.loop-step-init
loop-step-init c = rows_none _ c.in_ok-rows.ensures.items

pub row_of-row-requires-clause-rows : goal.row_of-row-requires-clause-rows
row_of-row-requires-clause-rows c = (map step_of (take c.loop-step.step-index c.args.to.now), subst (λ r. AreRows r (map step_of (take c.loop-step.step-index c.args.to.now))) (sym c.deref.ensures.value) c.loop-step.invariant)

pub loop-step-preserved : goal.loop-step-preserved
loop-step-preserved c =
    let k = c.loop-step.step-index in
    let old = subst (λ r. AreRows r (map step_of (take k c.args.to.now))) (sym c.deref.ensures.value) c.loop-step.invariant in
    subst (λ n. AreRows c.push.new.self.items (map step_of (take n c.args.to.now))) (sym (add-one k))
    (subst (λ r. AreRows r (map step_of (take (suc k) c.args.to.now))) (sym c.in_ok-push.ensures.items)
    (rows_read step_of c.args.to.now k c.step-item.result c.loop-step.rows.items c.row_of-row.result (omega arith) c.loop-step.invariant (c.row_of-row.ensures.from ∙ ap (λ s. step_from (step_of s)) c.step-item.is)
    (c.row_of-row.ensures.below (map step_of (take k c.args.to.now)) old
    ∙ ap (λ s. top_of (drop 1 (ends_after (all_ends [] 0 (map step_of (take k c.args.to.now))) (length (map step_of (take k c.args.to.now))) (step_of s)))) c.step-item.is)))

pub returns-clause-rows : goal.returns-clause-rows
returns-clause-rows c = subst (λ (l : List _). AreRows c.loop-step.rows.items (map step_of l)) (take_all c.loop-step.step-index c.args.to.now (omega arith)) c.loop-step.invariant
