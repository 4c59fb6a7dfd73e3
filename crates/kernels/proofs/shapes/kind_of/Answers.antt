use Rattle.std.proofs.Common.{◌≡◌, ◌%◌, ℕ, List, Contains, refl, sym, subst}
use Rattle.kernels.specs.Slots.{placed_all, AreSlotted}
use Rattle.kernels.proofs.Guessing.{of_shape_there}
use Rattle.kernels.proofs.shapes.kind_of.Goals as goal

pub list_slotted-requires-clause-all : goal.list_slotted-requires-clause-all
list_slotted-requires-clause-all c n h = subst (λ (l : List ℕ). Contains l (n % 4294967296)) (sym c.deref.ensures.value) (c.in_ok-list_origins.ensures.all n h)

pub returns-clause-shape : goal.returns-clause-shape
returns-clause-shape c =
    of_shape_there _ _ c.args.begun c.args.packed.now c.list_origins.new.origins.items c.number_of.result c.number_of.ensures.number refl
    (subst (λ (l : List ℕ). AreSlotted l c.list_slotted.new.slotted.items) c.deref.ensures.value c.in_ok-list_slotted.ensures.slotted)
    (subst (λ (l : List ℕ). placed_all l c.list_slotted.new.slotted.items ≡ c.args.packed.now) c.deref.ensures.value c.in_ok-list_slotted.ensures.packed)
