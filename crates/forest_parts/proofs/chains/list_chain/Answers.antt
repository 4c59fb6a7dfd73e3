use Rattle.std.proofs.Common.{◌≡◌, ◌<◌, ◌-◌, ◌++◌, ℕ, List, length, slice_index_or, sym, ◌∙◌, ap, subst, arith}
use Rattle.std.proofs.lemmas.List.{append-nil}
use Rattle.forest_parts.specs.Chains.{IsChain}
use Rattle.forest_parts.proofs.Chained.{chain_first, chain_end, push_through}
use Rattle.forest_parts.proofs.chains.list_chain.Goals as goal

pub chain-init : goal.chain-init
chain-init c = λ ns is. (ns, subst (λ z. IsChain c.args.chains.now.below.items z ns) (sym c.head_at-head.ensures) (subst (λ l. IsChain c.args.chains.now.below.items (slice_index_or l c.args.end 0) ns) (sym c.deref.ensures.value) is), ap (λ l. l ++ ns) (sym c.clear.ensures.items))

pub link_at-head-requires : goal.link_at-head-requires
link_at-head-requires c =
    let (rest, is, e) = c.chain.invariant c.requires.0 c.requires.1 in
    let some = c.chain-test.true in
    let (lt, falls, more) = chain_first c.args.chains.now.below.items c.chain.head (c.chain.head - 1) rest is (omega arith) in
    subst (λ (l : List ℕ). c.chain.head - 1 < length l) (sym c.deref-in-chain.ensures.value) lt

pub chain-smaller : goal.chain-smaller
chain-smaller c =
    let (rest, is, e) = c.chain.invariant c.requires.0 c.requires.1 in
    let some = c.chain-test.true in
    let (lt, falls, more) = chain_first c.args.chains.now.below.items c.chain.head (c.chain.head - 1) rest is (omega arith) in
    let r = subst (λ (l : List ℕ). slice_index_or l (c.chain.head - 1) 0 ≡ c.link_at-head.result) c.deref-in-chain.ensures.value c.link_at-head.ensures in
    omega arith

pub chain-preserved : goal.chain-preserved
chain-preserved c = λ ns h.
    let (rest, is, e) = c.chain.invariant ns h in
    let some = c.chain-test.true in
    let (lt, falls, (more, q, is')) = chain_first c.args.chains.now.below.items c.chain.head (c.chain.head - 1) rest is (omega arith) in
    let r = subst (λ (l : List ℕ). slice_index_or l (c.chain.head - 1) 0 ≡ c.link_at-head.result) c.deref-in-chain.ensures.value c.link_at-head.ensures in
    (more, subst (λ z. IsChain c.args.chains.now.below.items z more) r is', e ∙ ap (λ l. c.chain.nodes.items ++ l) q ∙ push_through c.chain.nodes.items (c.chain.head - 1) more ∙ ap (λ l. l ++ more) (sym c.in_ok-push.ensures.items))

pub returns : goal.returns
returns c = λ ns h.
    let (rest, is, e) = c.chain.invariant ns h in
    let none = c.chain-test.false in
    sym (e ∙ ap (λ l. c.chain.nodes.items ++ l) (chain_end c.args.chains.now.below.items c.chain.head rest is (omega arith)) ∙ append-nil c.chain.nodes.items)
