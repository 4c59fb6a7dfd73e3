use Rattle.std.proofs.Common.{◌≡◌, suc, ◌∙◌, Some, None, sym, subst, arith}
use Rattle.std.proofs.lemmas.Option.{slice_get_within}
use Rattle.finite_sets.proofs.Lists.{get_end, none_at_end}
use Rattle.recognizer_model.specs.declared.Item.{Item}
use Rattle.recognizer_model.specs.Flat.{rhs_of}
use Rattle.recognizer_model.specs.Items.{after, advanced}
use Rattle.item_rows.proofs.Listed.{part_of_rule}
use Rattle.leo_items.proofs.step_of.Goals as goal

pub advanced-step-requires : goal.advanced-step-requires
advanced-step-requires c =
    let (x, e) = c.requires in
    let lt = slice_get_within (rhs_of c.args.flat.now c.args.item.rule) c.args.item.dot x e in
    let short = c.known.ensures.flat.in_range.short c.args.item.rule (part_of_rule c.args.flat.now c.args.item x e) in
    omega arith

pub returns-in-None-clause-some : goal.returns-in-None-clause-some
returns-in-None-clause-some c =
    let (x, e) = c.requires in
    let lt = slice_get_within (rhs_of c.args.flat.now c.args.item.rule) c.args.item.dot x e in
    let at : after c.args.flat.now c.advanced-step.result ≡ None = sym c.in-None.ensures in
    (get_end (rhs_of c.args.flat.now c.args.item.rule) (suc c.args.item.dot) (omega arith) (subst (λ (i : Item). after c.args.flat.now i ≡ None) c.advanced-step.ensures at), c.advanced-step.ensures)

pub returns-in-Some-clause-none : goal.returns-in-Some-clause-none
returns-in-Some-clause-none c none whole =
    let at : after c.args.flat.now c.advanced-step.result ≡ Some c.in-Some.field-0 = sym c.part.ensures ∙ c.in-Some.is in
    let e : after c.args.flat.now (advanced c.args.item) ≡ Some c.in-Some.field-0 = subst (λ (i : Item). after c.args.flat.now i ≡ Some c.in-Some.field-0) c.advanced-step.ensures at in
    let n = none_at_end (rhs_of c.args.flat.now c.args.item.rule) (suc c.args.item.dot) whole in
    cc
