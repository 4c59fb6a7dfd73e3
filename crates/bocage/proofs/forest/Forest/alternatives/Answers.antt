use Rattle.std.proofs.Common.{◌≡◌, ◌∙◌, ◌<◌, List, ℕ, Some, length, map, slice_get, sym, ap, subst, arith}
use Rattle.std.proofs.lemmas.List.{length-map}
use Rattle.forest_model.specs.Forest.{Forest}
use Rattle.bocage.specs.Readers.{node_at}
use Rattle.bocage.specs.Rows.{alternative_of, IsCauseWithin}
use Rattle.bocage.proofs.Telling.{nodes_long, rows_told}
use Rattle.bocage.proofs.forest.Forest.alternatives.Goals as goal

pub rows_at-requires : goal.rows_at-requires
rows_at-requires g c =
    let l = nodes_long c.self.inside.wholes.items c.self.inside.keys.items (map (λ r. r.now) c.self.inside.table.items) c.self.invariant.1.long in
    let v = ap (λ (f : Forest). length f.nodes) c.self.view_is in
    let r = c.requires in
    let long = c.self.invariant.1.long in
    let m = length-map c.self.inside.table.items (λ r. r.now) in
    subst (λ l. c.args.node < length l) (sym c.deref.ensures.value) (omega arith)

pub invariant_of-result : goal.invariant_of-result
invariant_of-result g c a h =
    let l = nodes_long c.self.inside.wholes.items c.self.inside.keys.items (map (λ r. r.now) c.self.inside.table.items) c.self.invariant.1.long in
    let v = ap (λ (f : Forest). length f.nodes) c.self.view_is in
    let r = c.requires in
    let at = subst (λ l. slice_get (map (λ r. r.now) l) c.args.node ≡ Some c.rows_at.result.now) c.deref.ensures.value c.rows_at.ensures in
    subst (λ (l : List ℕ). IsCauseWithin l a.cause) (sym c.deref-2.ensures.value) (c.self.invariant.1.within c.args.node c.rows_at.result.now (omega arith) at a h)

pub returns-clause-value : goal.returns-clause-value
returns-clause-value g c =
    let l = nodes_long c.self.inside.wholes.items c.self.inside.keys.items (map (λ r. r.now) c.self.inside.table.items) c.self.invariant.1.long in
    let v = ap (λ (f : Forest). length f.nodes) c.self.view_is in
    let r = c.requires in
    let at = subst (λ l. slice_get (map (λ r. r.now) l) c.args.node ≡ Some c.rows_at.result.now) c.deref.ensures.value c.rows_at.ensures in
    ap (λ (l : List ℕ). map (alternative_of l) c.rows_at.result.now) c.deref-2.ensures.value
    ∙ sym (rows_told c.self.inside.wholes.items c.self.inside.keys.items (map (λ r. r.now) c.self.inside.table.items) c.self.invariant.1 c.args.node c.rows_at.result.now _ (omega arith) at)
    ∙ ap (λ (f : Forest). (node_at f c.args.node).alternatives) c.self.view_is
