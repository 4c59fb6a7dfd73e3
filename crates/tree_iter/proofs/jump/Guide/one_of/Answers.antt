use Rattle.std.proofs.Common.{◌≡◌, cond, List, length, Some, None, refl, sym, ap, ◌∙◌, subst}
use Rattle.std.specs.Prelude.{slice_index_or}
use Rattle.std.proofs.lemmas.Option.{slice_get-get_or}
use Rattle.finite_sets.proofs.Members.{contains_from}
use Rattle.finite_sets.proofs.Lists.{get_among}
use Rattle.grammar_core.specs.declared.steps.TreeStep.{TreeStep}
use Rattle.grammar_core.specs.Steps.{step_of}
use Rattle.forest_laws.specs.Written.{is_list_rule}
use Rattle.bocage.specs.Readers.{node_at}
use Rattle.tree_iter.specs.Leads.{IsToldAt}
use Rattle.flat_steps.proofs.Linked.{index_is}
use Rattle.tree_iter.proofs.LedWalk.{some_same}
use Rattle.tree_iter.proofs.jump.Guide.one_of.Goals as goal

never : {X : Type 0} (x : X) → None ≡ Some x → ⊥
never x e = cc

pub node_for-requires : goal.node_for-requires
node_for-requires c = c.requires.1

pub returns-in_err-at-clause-leads : goal.returns-in_err-at-clause-leads
returns-in_err-at-clause-leads c = λ step row last at n place aim told. absurd (never at (sym c.in_err-at.was ∙ c.node_for.ensures.told step row last at n (subst (λ (l : List TreeStep). IsToldAt c.args.walk.now.forest.now c.args.nodes.now (step_of step) row.below (length l) at n) (sym c.as_slice.ensures.value) told)))

pub is_list_node-is_list-requires : goal.is_list_node-is_list-requires
is_list_node-is_list-requires c =
    let xs = c.args.nodes.now in
    let k = c.in_ok-at.at in
    let n = slice_index_or c.args.nodes.now c.in_ok-at.at 0 in
    c.requires.1 n (contains_from xs n (get_among xs k n (slice_get-get_or xs k 0 c.in_ok-at.ensures.within)))

pub returns-clause-leads : goal.returns-clause-leads
returns-clause-leads c = λ step row last at n place aim told.
    let same : c.in_ok-at.at ≡ at = some_same c.in_ok-at.at at (sym c.in_ok-at.was ∙ c.node_for.ensures.told step row last at n (subst (λ (l : List TreeStep). IsToldAt c.args.walk.now.forest.now c.args.nodes.now (step_of step) row.below (length l) at n) (sym c.as_slice.ensures.value) told)) in
    let node : slice_index_or c.args.nodes.now c.in_ok-at.at 0 ≡ n = ap (λ k. slice_index_or c.args.nodes.now k 0) same ∙ index_is c.args.nodes.now at n 0 told.there in
    record {
      led = _;
      is = refl;
      at_is = same;
      aim_is = refl;
      upper_is = ap Some (c.upper_aim.ensures place aim ∙ ap (λ b. cond b c.args.aim place) (c.is_list_node-is_list.ensures ∙ ap (λ k. is_list_rule c.args.walk.now.forest.now.flat (node_at c.args.walk.now.forest.now k).key.rule) node));
    }
