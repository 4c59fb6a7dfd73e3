use Rattle.std.proofs.Common.{◌≡◌, ◌++◌, ◌∷◌, ◌∙◌, [], ap, subst, append_assoc}
use Rattle.std.specs.Prelude.{reverse}
use Rattle.forest_model.specs.Forest.{ForestNode}
use Rattle.recognizer_model.specs.declared.NodeKey.{NodeKey}
use Rattle.bocage.specs.Readers.{node_at}
use Rattle.glade_laws.specs.Walks.{IsFirst}
use Rattle.glade_laws.specs.Walks.IsFirst.{FirstEnds, FirstGoes}
use Rattle.glades.specs.Shapes.{passed_here}
use Rattle.glades.proofs.Nodes.{node_there}
use Rattle.glades.proofs.Passing.{passed_back, first_items}
use Rattle.glades.proofs.Walking.{next_is, none_next, option_in, nearer, first_among}
use Rattle.glades.proofs.shapes.push_first.Goals as goal

pub pass-requires-clause-next : goal.pass-requires-clause-next
pass-requires-clause-next c =
    let (more, e) = next_is c.args.forest.now c.known.ensures c.args.links.now c.requires.links c.walk.at c.walk.invariant.within c.next_at.result c.in-Some.next c.next_at.ensures c.in-Some.is in
    option_in c.args.forest.now c.known.ensures c.args.links.now c.requires.links c.walk.at c.walk.invariant.within c.in-Some.next (first_among c.args.forest.now c.known.ensures c.args.links.now c.requires.links c.walk.at c.in-Some.next more e)

pub walk-smaller : goal.walk-smaller
walk-smaller c =
    let (more, e) = next_is c.args.forest.now c.known.ensures c.args.links.now c.requires.links c.walk.at c.walk.invariant.within c.next_at.result c.in-Some.next c.next_at.ensures c.in-Some.is in
    nearer c.args.forest.now c.known.ensures c.args.links.now c.requires.links c.walk.at c.walk.invariant.within c.in-Some.next (first_among c.args.forest.now c.known.ensures c.args.links.now c.requires.links c.walk.at c.in-Some.next more e)

pub walk-preserved : goal.walk-preserved
walk-preserved c =
    let (more, e) = next_is c.args.forest.now c.known.ensures c.args.links.now c.requires.links c.walk.at c.walk.invariant.within c.next_at.result c.in-Some.next c.next_at.ensures c.in-Some.is in
    let (w, items, walk) = c.walk.invariant.back in
    let node : ForestNode = node_at c.args.forest.now c.walk.at in
    record {
      within = option_in c.args.forest.now c.known.ensures c.args.links.now c.requires.links c.walk.at c.walk.invariant.within c.in-Some.next (first_among c.args.forest.now c.known.ensures c.args.links.now c.requires.links c.walk.at c.in-Some.next more e);
      back = (
        w ++ passed_here c.args.forest.now node c.in-Some.next,
        c.in_ok-pass.ensures ∙ ap (λ l. l ++ passed_here c.args.forest.now node c.in-Some.next) items ∙ append_assoc c.args.back.now.items w (passed_here c.args.forest.now node c.in-Some.next),
        λ s h. subst (IsFirst c.args.forest.now c.args.node) (passed_back c.args.forest.now node c.in-Some.next s w)
            (walk _ (FirstGoes node c.in-Some.next more s (node_there c.args.forest.now c.walk.at c.walk.invariant.within) e h)),
      );
    }

pub returns : goal.returns
returns c =
    let none = none_next c.args.forest.now c.known.ensures c.args.links.now c.requires.links c.walk.at c.walk.invariant.within c.next_at.result c.next_at.ensures c.in_default.is in
    let (w, items, walk) = c.walk.invariant.back in
    let node : ForestNode = node_at c.args.forest.now c.walk.at in
    let origin : c.key.result.origin ≡ node.key.origin = ap (λ (k : NodeKey). k.origin) c.key.ensures.value in (
      (node.key.origin ∷ []) ++ reverse w,
      walk (node.key.origin ∷ []) (FirstEnds node (node_there c.args.forest.now c.walk.at c.walk.invariant.within) none),
      c.in_ok-push.ensures.items ∙ (λ i. items i ++ origin i ∷ []) ∙ first_items c.args.back.now.items w node.key.origin,
    )
