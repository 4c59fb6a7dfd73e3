use Rattle.std.proofs.Common.{◌≡◌, ◌∙◌, ap, suc, subst, List, ℕ, ◌<◌, ◌+◌, length, slice_index}
use Rattle.slot_analysis.proofs.Known.{numbering}
use Rattle.slot_analysis.proofs.slots.bases_of.Goals as goal

pub returns : goal.returns
returns c =
    let e = c.deref.ensures.value in
    numbering c.args.w.now c.in_ok-rooms.rooms.items c.in_ok-sums.sums.items c.known.ensures c.in_ok-rooms.ensures.length c.in_ok-rooms.ensures.some c.in_ok-rooms.ensures.rules
    (c.in_ok-sums.ensures.length ∙ ap (λ (l : List ℕ). suc (length l)) e)
    c.in_ok-sums.ensures.begin
    (subst (λ (l : List ℕ). (s : ℕ) → s < length l → slice_index c.in_ok-sums.sums.items (suc s) ≡ slice_index c.in_ok-sums.sums.items s + slice_index l s) e c.in_ok-sums.ensures.steps)
