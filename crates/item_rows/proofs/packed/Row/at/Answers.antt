use Rattle.std.proofs.Common.{◌-◌, ◌∙◌, sym, ap, List, Some, length, slice_get, arith}
use Rattle.std.specs.Prelude.{slice_index_or}
use Rattle.std.proofs.lemmas.List.{get_or-map}
use Rattle.recognizer_model.specs.declared.Item.{Item}
use Rattle.kernels.specs.Slots.{placed, placed_all}
use Rattle.kernels.proofs.Numbers.{map_length, index_any}
use Rattle.item_rows.specs.Dotted.{unpacked, begun_at}
use Rattle.item_rows.proofs.Joined.{row_length, at_first, at_second}
use Rattle.item_rows.proofs.Placing.{slotted_within}
use Rattle.item_rows.proofs.packed.Row.at.Goals as goal

pub unpack-requires-clause-number : goal.unpack-requires-clause-number
unpack-requires-clause-number c =
    let n = slice_index_or c.self.inside.kernel.slotted.now c.args.k 0 in
    slotted_within c.self.inside.rules.now c.self.inside.earleme c.self.inside.kernel.origins.now c.self.inside.kernel.slotted.now c.self.inside.begun.now c.self.invariant.0 c.self.invariant.1 n (c.args.k, omega arith, index_any c.self.inside.kernel.slotted.now c.args.k n 0 (omega arith))

pub unpack-requires-clause-slot : goal.unpack-requires-clause-slot
unpack-requires-clause-slot c =
    let n = slice_index_or c.self.inside.kernel.slotted.now c.args.k 0 in
    c.self.invariant.0.slots n (c.args.k, omega arith, index_any c.self.inside.kernel.slotted.now c.args.k n 0 (omega arith))

pub begin-requires : goal.begin-requires
begin-requires c =
    let all = row_length c.self.inside.rules.now c.self.inside.earleme (placed_all c.self.inside.kernel.origins.now c.self.inside.kernel.slotted.now) c.self.inside.begun.now in
    let own = map_length (placed c.self.inside.kernel.origins.now) c.self.inside.kernel.slotted.now in
    let seen = ap (λ (l : List Item). length l) c.self.view_is in
    let lt = c.requires in
    let k = c.args.k - length c.self.inside.kernel.slotted.now in
    c.self.invariant.1.second.within (slice_index_or c.self.inside.begun.now k 0) (k, omega arith, index_any c.self.inside.begun.now k (slice_index_or c.self.inside.begun.now k 0) 0 (omega arith))

pub returns-then-k-own : goal.returns-then-k-own
returns-then-k-own c =
    let own = map_length (placed c.self.inside.kernel.origins.now) c.self.inside.kernel.slotted.now in
    ap (λ (l : List Item). slice_get l c.args.k) (sym c.self.view_is)
    ∙ (at_first c.self.inside.rules.now c.self.inside.earleme (placed_all c.self.inside.kernel.origins.now c.self.inside.kernel.slotted.now) c.self.inside.begun.now c.args.k 0 (omega arith)
    ∙ (ap (λ n. Some (unpacked c.self.inside.rules.now n)) (get_or-map (placed c.self.inside.kernel.origins.now) c.self.inside.kernel.slotted.now c.args.k 0 0 (omega arith)) ∙ ap Some (sym c.unpack.ensures)))

pub returns-else-k-own : goal.returns-else-k-own
returns-else-k-own c =
    let own = map_length (placed c.self.inside.kernel.origins.now) c.self.inside.kernel.slotted.now in
    let seen = ap (λ (l : List Item). length l) c.self.view_is in
    let lt = c.requires in
    let same = ap (λ n. Some (begun_at c.self.inside.rules.now c.self.inside.earleme (slice_index_or c.self.inside.begun.now (c.args.k - n) 0))) own in
    ap (λ (l : List Item). slice_get l c.args.k) (sym c.self.view_is)
    ∙ (at_second c.self.inside.rules.now c.self.inside.earleme (placed_all c.self.inside.kernel.origins.now c.self.inside.kernel.slotted.now) c.self.inside.begun.now c.args.k 0 (omega arith) (omega arith) ∙ (same ∙ ap Some (sym c.begin.ensures)))
