use Rattle.std.proofs.Common.{◌≡◌, ◌∙◌, ◌≤◌, List, Contains, length, refl, sym, ap, subst}
use Rattle.earley_sets.proofs.Membership.{Contains-map_from}
use Rattle.recognizer_model.specs.declared.Item.{Item}
use Rattle.forest_parts.specs.Lists.{between}
use Rattle.forest_parts.specs.declared.given.GivenRow.{GivenRow}
use Rattle.forest_parts.specs.Given.{GivenAt, given_at}
use Rattle.forest_parts.proofs.Rows.{told_one}
use Rattle.forest_parts.proofs.given.Given.at.Goals as goal

pub returns-in_err-row-clause-none : goal.returns-in_err-row-clause-none
returns-in_err-row-clause-none c none e h same =
    let (row, held, is) = Contains-map_from (given_at c.self.inside.tops.items c.self.inside.items.items) c.self.inside.rows.items e (subst (λ (l : List GivenAt). Contains l e) (sym c.self.view_is) h) in
    c.in_err-row.ensures.none refl row (subst (λ (l : List GivenRow). Contains l row) (sym c.deref.ensures.value) held) (sym (ap (λ (z : GivenAt). z.place) is) ∙ same)

pub items_between-requires-clause-order : goal.items_between-requires-clause-order
items_between-requires-clause-order c = (c.self.invariant.are c.in_ok-row.row (subst (λ (l : List GivenRow). Contains l c.in_ok-row.row) c.deref.ensures.value c.in_ok-row.ensures.some.0)).tops_order

pub items_between-requires-clause-bound : goal.items_between-requires-clause-bound
items_between-requires-clause-bound c = subst (λ (l : List Item). c.in_ok-row.row.past_top ≤ length l) (sym c.deref-2.ensures.value) (c.self.invariant.are c.in_ok-row.row (subst (λ (l : List GivenRow). Contains l c.in_ok-row.row) c.deref.ensures.value c.in_ok-row.ensures.some.0)).tops_bound

pub items_between-requires-2-clause-order : goal.items_between-requires-2-clause-order
items_between-requires-2-clause-order c = (c.self.invariant.are c.in_ok-row.row (subst (λ (l : List GivenRow). Contains l c.in_ok-row.row) c.deref.ensures.value c.in_ok-row.ensures.some.0)).items_order

pub items_between-requires-2-clause-bound : goal.items_between-requires-2-clause-bound
items_between-requires-2-clause-bound c = subst (λ (l : List Item). c.in_ok-row.row.past_item ≤ length l) (sym c.deref-3.ensures.value) (c.self.invariant.are c.in_ok-row.row (subst (λ (l : List GivenRow). Contains l c.in_ok-row.row) c.deref.ensures.value c.in_ok-row.ensures.some.0)).items_bound

pub returns-clause-some : goal.returns-clause-some
returns-clause-some c e =
    let one = told_one c.self.inside.rows.items c.self.invariant.falls c.self.inside.tops.items c.self.inside.items.items c.in_ok-row.row (subst (λ (l : List GivenRow). Contains l c.in_ok-row.row) c.deref.ensures.value c.in_ok-row.ensures.some.0) e in
    let same : given_at c.self.inside.tops.items c.self.inside.items.items c.in_ok-row.row ≡ record { place = c.args.place; tops = c.items_between.result.now; items = c.items_between-2.result.now } = λ j. record {
      place = c.in_ok-row.ensures.some.1 j;
      tops = (ap (λ (l : List Item). between c.in_ok-row.row.first_top c.in_ok-row.row.past_top l) (sym c.deref-2.ensures.value) ∙ sym c.items_between.ensures) j;
      items = (ap (λ (l : List Item). between c.in_ok-row.row.first_item c.in_ok-row.row.past_item l) (sym c.deref-3.ensures.value) ∙ sym c.items_between-2.ensures) j;
    } in (
      λ (h, at). one.0 (subst (λ (l : List GivenAt). Contains l e) (sym c.self.view_is) h, at ∙ sym c.in_ok-row.ensures.some.1) ∙ same,
      λ is. (let (h, at) = one.1 (is ∙ sym same) in (subst (λ (l : List GivenAt). Contains l e) c.self.view_is h, at ∙ c.in_ok-row.ensures.some.1)),
    )
