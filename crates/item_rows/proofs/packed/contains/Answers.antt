use Rattle.std.proofs.Common.{refl, inl, inr, arith}
use Rattle.std.proofs.lemmas.Bool.{eqb-true}
use Rattle.kernels.specs.Slots.{placed_all}
use Rattle.item_rows.proofs.Joined.{contains_first, contains_second, contains_either, contains_none}
use Rattle.item_rows.proofs.packed.contains.Goals as goal

pub returns-then-has_own : goal.returns-then-has_own
returns-then-has_own c = (
  λ t. contains_first c.args.dotted.now.rules c.args.earleme (placed_all c.args.kernel.origins.now c.args.kernel.slotted.now) c.args.begun.now c.requires.row c.known.ensures.differ c.args.item c.in-Some.number c.in-Some.ensures.some (c.has_own.ensures.0 t),
  λ h. c.if-has_own.true,
)

pub returns-then-item-earleme : goal.returns-then-item-earleme
returns-then-item-earleme c = (
  λ t. contains_second c.args.dotted.now.rules c.args.earleme (placed_all c.args.kernel.origins.now c.args.kernel.slotted.now) c.args.begun.now c.requires.row c.known.ensures.differ c.args.item c.in-Some.number c.in-Some.ensures.some c.if-item-earleme.true (c.has_dotted.ensures.0 t),
  λ h. elim (contains_either c.args.dotted.now.rules c.args.earleme (placed_all c.args.kernel.origins.now c.args.kernel.slotted.now) c.args.begun.now c.requires.row c.known.ensures.differ c.args.item c.in-Some.number c.in-Some.ensures.some h) [
    | inl a ↦ let t = c.has_own.ensures.1 a in let f = c.if-has_own.false in absurd (cc)
    | inr (o, b) ↦ c.has_dotted.ensures.1 b
  ],
)

pub returns-else-item-earleme : goal.returns-else-item-earleme
returns-else-item-earleme c = (
  λ t. absurd (c.if-item-earleme.false (eqb-true _ _ t)),
  λ h. elim (contains_either c.args.dotted.now.rules c.args.earleme (placed_all c.args.kernel.origins.now c.args.kernel.slotted.now) c.args.begun.now c.requires.row c.known.ensures.differ c.args.item c.in-Some.number c.in-Some.ensures.some h) [
    | inl a ↦ let t = c.has_own.ensures.1 a in let f = c.if-has_own.false in absurd (cc)
    | inr (o, b) ↦ absurd (c.if-item-earleme.false o)
  ],
)

pub returns-in-None : goal.returns-in-None
returns-in-None c = (
  λ t. absurd (cc),
  λ h. absurd (contains_none c.args.dotted.now.rules c.args.earleme (placed_all c.args.kernel.origins.now c.args.kernel.slotted.now) c.args.begun.now c.requires.row (omega arith) c.args.item (c.in-None.ensures.none refl).1 h),
)
