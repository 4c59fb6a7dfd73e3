use Rattle.std.proofs.Common.{◌≡◌, ◌∙◌, ◌<◌, ℕ, List, Some, inl, inr, Contains, length, take, get_or, slice_get, refl, sym, ap, subst, arith}
use Rattle.std.proofs.lemmas.Bool.{cases_lt}
use Rattle.std.proofs.lemmas.List.Elements.{Contains-push_cases, Contains-get_or}
use Rattle.std.proofs.lemmas.List.{take_more, take_all}
use Rattle.finite_sets.proofs.Lists.{Contains-none}
use Rattle.recognizer_model.specs.declared.NodeKey.{NodeKey}
use Rattle.bocage.proofs.ends.least_origin.Goals as goal

pub loop-node-init : goal.loop-node-init
loop-node-init c = record { nodes = λ n key h e. absurd (Contains-none n h); bound = omega arith; met = inl refl }

pub key_at-requires : goal.key_at-requires
key_at-requires c =
    subst (λ (l : List NodeKey). get_or c.args.nodes.now c.loop-node.node-index 0 < length l) (sym c.as_slice.ensures.keys) (c.requires _ (Contains-get_or c.args.nodes.now c.loop-node.node-index 0 c.loop-node-test.true))

pub loop-node-preserved : goal.loop-node-preserved
loop-node-preserved c =
    let m = c.min-lowest.ensures in
    let i = c.loop-node.invariant in
    let b = i.bound in
    let at = subst (λ (l : List NodeKey). slice_get l (get_or c.args.nodes.now c.loop-node.node-index 0) ≡ Some c.key_at.result) c.as_slice.ensures.keys c.key_at.ensures in
    record {
      nodes = λ n key h e. elim (Contains-push_cases (take c.loop-node.node-index c.args.nodes.now) (get_or c.args.nodes.now c.loop-node.node-index 0) n (subst (λ (l : List ℕ). Contains l n) (take_more c.args.nodes.now c.loop-node.node-index 0 c.loop-node-test.true) h)) [
        | inl old ↦ let x = i.nodes n key old e in omega (arith, m)
        | inr same ↦
            let one : Some key ≡ Some c.key_at.result = sym e ∙ ap (slice_get c.args.keys.now.keys) (sym same) ∙ at in
            let q : key ≡ c.key_at.result = cc in
            let o = ap (λ (z : NodeKey). z.origin) q in
            omega (arith, m)
      ];
      bound = omega (arith, m);
      met = elim (cases_lt c.key_at.result.origin c.loop-node.lowest) [
        | inl lt ↦ inr (get_or c.args.nodes.now c.loop-node.node-index 0, c.key_at.result, Contains-get_or c.args.nodes.now c.loop-node.node-index 0 c.loop-node-test.true, at, omega (arith, m))
        | inr ge ↦ elim i.met [ inl e ↦ inl (omega (arith, m)) | inr (n, key, h, Contains-get_or, e) ↦ inr (n, key, h, Contains-get_or, omega (arith, m)) ]
      ];
    }

pub returns-clause-nodes : goal.returns-clause-nodes
returns-clause-nodes c n key h e = c.loop-node.invariant.nodes n key (subst (λ (l : List ℕ). Contains l n) (sym (take_all c.loop-node.node-index c.args.nodes.now c.loop-node-test.false)) h) e

pub returns-clause-met : goal.returns-clause-met
returns-clause-met c = c.loop-node.invariant.met
