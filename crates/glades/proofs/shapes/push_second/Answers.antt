use Rattle.std.proofs.Common.{◌++◌, ◌∙◌, [], sym, ap, subst, append_assoc}
use Rattle.std.specs.Prelude.{reverse}
use Rattle.std.proofs.lemmas.List.{append-nil}
use Rattle.std.proofs.lemmas.Result.{on_ok_weaker}
use Rattle.forest_model.specs.Forest.{ForestNode}
use Rattle.bocage.specs.Readers.{node_at}
use Rattle.glade_laws.specs.Walks.{passed, IsSecond}
use Rattle.glade_laws.specs.Walks.IsSecond.{Here, Below}
use Rattle.glades.specs.Shapes.{passed_here, IsCourse}
use Rattle.glades.proofs.Nodes.{node_there}
use Rattle.glades.proofs.Passing.{passed_back, over_items}
use Rattle.glades.proofs.Walking.{nearer, first_among}
use Rattle.glades.proofs.shapes.push_second.Goals as goal

pub walk-init : goal.walk-init
walk-init c = record {
  within = c.requires.node;
  known = c.requires.known;
  second = c.requires.second;
  back = ([], sym (append-nil c.args.back.now.items), λ s o h. (s, subst (IsSecond c.args.forest.now c.args.node s) (sym (append-nil o)) h));
}

pub walk-smaller : goal.walk-smaller
walk-smaller c =
    let (more, e, lt, second) = subst (IsCourse c.args.forest.now c.walk.at) c.in-On.is c.course_at.ensures.course in
    nearer c.args.forest.now c.known.ensures c.args.links.now c.requires.links c.walk.at c.walk.invariant.within c.in-On.next (first_among c.args.forest.now c.known.ensures c.args.links.now c.requires.links c.walk.at c.in-On.next more e)

pub walk-preserved : goal.walk-preserved
walk-preserved c =
    let (more, e, lt, second) = subst (IsCourse c.args.forest.now c.walk.at) c.in-On.is c.course_at.ensures.course in
    let (w, items, walk) = c.walk.invariant.back in
    let node : ForestNode = node_at c.args.forest.now c.walk.at in
    record {
      within = lt;
      known = c.course_at.ensures.known;
      second = second;
      back = (
        w ++ passed_here c.args.forest.now node c.in-On.next,
        c.in_ok-pass-in-On.ensures ∙ ap (λ l. l ++ passed_here c.args.forest.now node c.in-On.next) items ∙ append_assoc c.args.back.now.items w (passed_here c.args.forest.now node c.in-On.next),
        λ s o h. (let (t, k) = walk (passed c.args.forest.now node c.in-On.next s) (passed c.args.forest.now node c.in-On.next o)
            (Below node c.in-On.next more s o (node_there c.args.forest.now c.walk.at c.walk.invariant.within) e h) in
            (t, subst (IsSecond c.args.forest.now c.args.node t) (passed_back c.args.forest.now node c.in-On.next o w) k)),
      );
    }

pub returns-in-Over-clause-second : goal.returns-in-Over-clause-second
returns-in-Over-clause-second c =
    let (next, more, e, lt, (s, only)) = subst (IsCourse c.args.forest.now c.walk.at) c.in-Over.is c.course_at.ensures.course in
    let (w, items, walk) = c.walk.invariant.back in
    let node : ForestNode = node_at c.args.forest.now c.walk.at in
    on_ok_weaker c.go_over.result
    (λ (starts, first, pushed).
    (let (t, k) = walk (passed c.args.forest.now node next s) (passed c.args.forest.now node c.in-Over.fork starts)
    (Here node next c.in-Over.fork more s starts (node_there c.args.forest.now c.walk.at c.walk.invariant.within) e only first) in (
      t,
      passed c.args.forest.now node c.in-Over.fork starts ++ reverse w,
      k,
      pushed ∙ ap (λ l. (l ++ passed_here c.args.forest.now node c.in-Over.fork) ++ reverse starts) items ∙ over_items c.args.forest.now node c.in-Over.fork c.args.back.now.items w starts,
    ))) c.go_over.ensures
