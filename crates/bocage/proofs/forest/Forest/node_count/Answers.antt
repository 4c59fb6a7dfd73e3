use Rattle.std.proofs.Common.{◌∙◌, List, length, map, sym, ap}
use Rattle.recognizer_model.specs.declared.NodeKey.{NodeKey}
use Rattle.forest_model.specs.Forest.{Forest}
use Rattle.bocage.proofs.Telling.{nodes_long}
use Rattle.bocage.proofs.forest.Forest.node_count.Goals as goal

pub returns : goal.returns
returns c =
    ap (λ (l : List NodeKey). length l) c.as_slice.ensures.value
    ∙ sym (nodes_long c.self.inside.wholes.items c.self.inside.keys.items (map (λ r. r.now) c.self.inside.table.items) c.self.invariant.1.long)
    ∙ ap (λ (f : Forest). length f.nodes) c.self.view_is
