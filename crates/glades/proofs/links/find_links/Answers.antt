use Rattle.std.proofs.Common.{◌≡◌, ◌<◌, ◌≤◌, ◌++◌, ◌∷◌, [], ◌∙◌, List, ℕ, length, Option, Some, None, refl, sym, ap, subst, arith}
use Rattle.std.proofs.lemmas.List.{take_all}
use Rattle.finite_sets.proofs.Lists.{get_index}
use Rattle.bocage.specs.Readers.{node_at}
use Rattle.forest_model.specs.Forest.{ForestNode}
use Rattle.glades.specs.Links.{Notes, link_of, all_noted, nodes_noted, AreNotes}
use Rattle.glades.proofs.Noting.{all_length, nodes_next, are_notes}
use Rattle.glades.proofs.Visiting.{links_next}
use Rattle.glades.proofs.links.find_links.Goals as goal

none_some : {x : Option ℕ} → None ≡ Some x → ⊥
none_some e = cc

pub loop-node-preserved : goal.loop-node-preserved
loop-node-preserved g c =
    let number : c.in_ok-number.field-0 ≡ c.loop-node.node = c.in_ok-number.ensures.ok in
    let below = c.loop-node-test.true in
    let count = c.node_count-count.ensures in
    let lt : c.loop-node.node < length c.args.forest.now.nodes = omega (arith, below, count) in
    let counted = c.in_ok-visit.ensures.counted in
    let before = c.loop-node.invariant.counted in
    record {
      links = c.in_ok-visit.ensures.links ∙ (λ i. c.loop-node.invariant.links i ++ link_of c.args.forest.now (node_at c.args.forest.now (number i)) ∷ []) ∙ sym (links_next c.args.forest.now c.loop-node.node lt);
      notes = c.in_ok-visit.ensures.notes ∙ (λ i. all_noted (node_at c.args.forest.now (number i)).alternatives (c.loop-node.invariant.notes i)) ∙ sym (nodes_next c.args.forest.now c.loop-node.node c.resize.new.self.items lt);
      long = ap (λ (s : Notes). length s) c.in_ok-visit.ensures.notes ∙ all_length (node_at c.args.forest.now c.in_ok-number.field-0).alternatives c.loop-node.found.notes.items ∙ c.loop-node.invariant.long;
      counted = omega (arith, counted, before);
    }

pub returns-clause-notes : goal.returns-clause-notes
returns-clause-notes g c =
    let end = c.loop-node-test.false in
    let count = c.node_count-count.ensures in
    let le : length c.args.forest.now.nodes ≤ c.loop-node.node = omega (arith, end, count) in
    subst (λ (s : Notes). AreNotes c.args.forest.now s)
    (sym (c.loop-node.invariant.notes ∙ ap (λ (l : List ForestNode). nodes_noted l c.resize.new.self.items) (take_all c.loop-node.node c.args.forest.now.nodes le)))
    (let h = c.in_ok-resize.ensures.by_index in are_notes c.args.forest.now c.known.ensures c.resize.new.self.items (let n = c.in_ok-resize.ensures.len in omega (arith, n, count))
    (λ n next e.
    (let (lt, is) = get_index c.resize.new.self.items n None (Some next) e in
    let long = c.in_ok-resize.ensures.len in
    let empty = c.new-notes.ensures.len in
    none_some (sym (h.1 n None refl (omega (arith, empty)) (omega (arith, lt, long))) ∙ is))))
