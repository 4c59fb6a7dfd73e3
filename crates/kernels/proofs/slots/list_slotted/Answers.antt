use Rattle.std.proofs.Common.{◌+◌, ◌*◌, ◌/◌, ◌%◌, ◌∙◌, inl, inr, ℕ, List, Contains, sym, subst, arith}
use Rattle.std.specs.Prelude.{slice_index_or}
use Rattle.std.proofs.lemmas.List.{take_all}
use Rattle.std.proofs.lemmas.List.Elements.{Contains-push_cases}
use Rattle.finite_sets.proofs.Lists.{get_index}
use Rattle.kernels.specs.Slots.{Rises}
use Rattle.kernels.proofs.Slotting.{slot_small, placed_rise, more_placed}
use Rattle.kernels.proofs.slots.list_slotted.Goals as goal

pub loop-n-preserved : goal.loop-n-preserved
loop-n-preserved c =
    let (lt, here) = get_index c.args.origins.now c.in-Some.slot 0 (slice_index_or c.args.packed.now c.loop-n.n-index 0 % 4294967296) c.in-Some.ensures.some in
    let small = slot_small c.args.origins.now c.requires.origins c.in-Some.slot lt in
    record {
      packed = more_placed c.args.origins.now c.args.packed.now c.loop-n.slotted.items c.push.new.self.items c.requires.origins c.loop-n.n-index c.in-Some.slot c.loop-n.invariant.packed c.loop-n-test.true c.in-Some.ensures.some c.in_ok-push-in-Some.ensures.items;
      slots = λ n h. elim (Contains-push_cases c.loop-n.slotted.items (slice_index_or c.args.packed.now c.loop-n.n-index 0 / 4294967296 * 4294967296 + c.in-Some.slot) n (subst (λ (l : List ℕ). Contains l n) c.in_ok-push-in-Some.ensures.items h)) [
        | inl o ↦ c.loop-n.invariant.slots n o
        | inr same ↦ omega arith
      ];
    }

pub returns-clause-slotted : goal.returns-clause-slotted
returns-clause-slotted c = record {
  origins_are = c.requires.origins;
  rises = placed_rise c.args.origins.now c.loop-n.slotted.items c.requires.origins c.loop-n.invariant.slots (subst Rises (sym (c.loop-n.invariant.packed ∙ take_all c.loop-n.n-index c.args.packed.now c.loop-n-test.false)) c.requires.row);
  slots = c.loop-n.invariant.slots;
}

pub returns-clause-packed : goal.returns-clause-packed
returns-clause-packed c = c.loop-n.invariant.packed ∙ take_all c.loop-n.n-index c.args.packed.now c.loop-n-test.false
