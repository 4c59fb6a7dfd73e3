use Rattle.std.proofs.Common.{◌≡◌, ◌∙◌, ◌+◌, ◌<◌, ◌↔◌, ℕ, List, Some, Contains, length, slice_get, sym, ap, subst, arith}
use Rattle.std.proofs.lemmas.Result.{on_ok_weaker}
use Rattle.std.proofs.lemmas.List.{length_push}
use Rattle.recognizer_model.specs.declared.NodeKey.{NodeKey}
use Rattle.forest_parts.specs.Chains.{EndsAt}
use Rattle.forest_parts.proofs.Chained.{linked}
use Rattle.std.proofs.lemmas.Result.{IfOk-from_err}
use Rattle.forest_parts.proofs.chains.list_nodes.Goals as goal

pub loop-node-preserved : goal.loop-node-preserved
loop-node-preserved c =
    let i = c.loop-node.invariant in
    let at = subst (λ n. slice_get c.args.keys.now.keys n ≡ Some c.key_at.result) (sym i.long) (subst (λ (l : List NodeKey). slice_get l c.loop-node.node ≡ Some c.key_at.result) c.as_slice.ensures.keys c.key_at.ensures) in
    record {
      chained = linked c.args.keys.now.keys c.loop-node.chains.heads.items c.loop-node.chains.below.items c.link.new.chains.heads.items c.link.new.chains.below.items c.key_at.result i.chained at c.in_ok-link.ensures.below c.in_ok-link.ensures.sets c.in_ok-link.ensures.same;
      long = ap (λ (l : List ℕ). length l) c.in_ok-link.ensures.below ∙ length_push c.loop-node.chains.below.items _ ∙ ap (λ n. n + 1) i.long;
    }

pub list_chain-requires : goal.list_chain-requires
list_chain-requires c = let (ns, is, exact) = c.loop-node.invariant.chained.chain c.args.end in (ns, is)

pub returns-clause-listed : goal.returns-clause-listed
returns-clause-listed c =
    let (ns, is, exact) = c.loop-node.invariant.chained.chain c.args.end in
    let end = c.loop-node-test.false in
    let bound = c.requires.few in
    let counted = c.loop-node.auto in
    let long : length c.loop-node.chains.below.items ≡ c.args.first = (let l = c.loop-node.invariant.long in omega arith) in
    on_ok_weaker c.list_chain.result
    (λ same n. subst (λ m. Contains c.list_chain.new.nodes.items n ↔ ((n < m) × EndsAt c.args.keys.now.keys c.args.end n)) long (subst (λ (l : List ℕ). Contains l n ↔ ((n < length c.loop-node.chains.below.items) × EndsAt c.args.keys.now.keys c.args.end n)) (sym (same ns is)) (exact n)))
    c.list_chain.ensures

pub returns-in_err-link-clause-listed : goal.returns-in_err-link-clause-listed
returns-in_err-link-clause-listed c = IfOk-from_err _ _ c.from_residual.ensures.0

pub returns-in_err-link-clause-chained : goal.returns-in_err-link-clause-chained
returns-in_err-link-clause-chained c = IfOk-from_err _ _ c.from_residual.ensures.0
