use Rattle.std.proofs.Common.{◌≡◌, ◌∙◌, List, Some, length, map, slice_get, sym, ap, subst, arith}
use Rattle.std.proofs.lemmas.Option.{slice_get-get_or}
use Rattle.recognizer_model.specs.declared.NodeKey.{NodeKey}
use Rattle.forest_model.specs.Forest.{Forest}
use Rattle.bocage.specs.Readers.{node_at}
use Rattle.bocage.proofs.Telling.{nodes_long, key_told}
use Rattle.bocage.proofs.forest.Forest.key.Goals as goal

pub key_at-requires : goal.key_at-requires
key_at-requires c =
    let l = nodes_long c.self.inside.wholes.items c.self.inside.keys.items (map (λ r. r.now) c.self.inside.table.items) c.self.invariant.1.long in
    let v = ap (λ (f : Forest). length f.nodes) c.self.view_is in
    let r = c.requires in
    let k = ap (λ (l : List NodeKey). length l) c.as_slice.ensures.value in
    omega arith

told : (c : goal.After-key_at) → (node_at c.args.self.now c.args.node).key ≡ c.key_at.result
told c =
    sym (ap (λ (f : Forest). (node_at f c.args.node).key) c.self.view_is)
    ∙ key_told c.self.inside.wholes.items c.self.inside.keys.items (map (λ r. r.now) c.self.inside.table.items) c.self.invariant.1 c.args.node c.key_at.result _
    (subst (λ (l : List NodeKey). slice_get l c.args.node ≡ Some c.key_at.result) c.as_slice.ensures.value c.key_at.ensures)

pub returns-clause-value : goal.returns-clause-value
returns-clause-value c = sym (told c)

pub returns-clause-node : goal.returns-clause-node
returns-clause-node c = (node_at c.args.self.now c.args.node, slice_get-get_or c.args.self.now.nodes c.args.node _ c.requires, told c)
