use Rattle.std.proofs.Common.{refl, subst}
use Rattle.glades.specs.Heads.{IsSlotAt}
use Rattle.glades.proofs.Heading.{head_is, no_slot, no_second}
use Rattle.glades.proofs.heads.head_of.Goals as goal

pub returns-in_default-clause-head : goal.returns-in_default-clause-head
returns-in_default-clause-head c = no_slot c.args.forest.now c.known.ensures c.requires.links.by_rules c.args.node (subst (IsSlotAt c.args.forest.now c.args.node) c.in_default.is c.slot_at.ensures)

pub returns-then-not-has_two-clause-head : goal.returns-then-not-has_two-clause-head
returns-then-not-has_two-clause-head c =
    let (none, one) = c.has_two.ensures.one c.if-not-has_two.true in
    no_second c.args.forest.now c.known.ensures c.requires.links.by_rules c.args.node c.args.next c.requires.note none one

pub returns-clause-head : goal.returns-clause-head
returns-clause-head c = (
  head_is c.args.forest.now c.known.ensures c.requires.links.by_rules c.args.node c.args.next c.requires.note _ _ c.back_of.result
      (subst (IsSlotAt c.args.forest.now c.args.node) c.in-Some.is c.slot_at.ensures) c.key-key.result c.key-key.ensures.value c.back_of.ensures
      (c.has_two.ensures.two c.if-not-has_two.false),
  refl,
)
