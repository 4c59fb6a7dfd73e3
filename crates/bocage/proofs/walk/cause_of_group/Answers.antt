use Rattle.std.proofs.Common.{◌≡◌, ◌<◌, List, Option, Some, Contains, length, slice_get, refl, sym, ap, subst, arith}
use Rattle.finite_sets.proofs.Lists.{got_item, got_at}
use Rattle.recognizer_model.specs.declared.NodeKey.{NodeKey}
use Rattle.recognizer_model.specs.Flat.{FlatGrammar}
use Rattle.forest_parts.specs.declared.parts.Part.{Part}
use Rattle.bocage.specs.declared.rows.CauseRow.{CauseRow}
use Rattle.bocage.specs.Walk.{FitsPart, whole_keys, GrowsBy, IsCauseFound}
use Rattle.bocage.proofs.Joining.{group_span}
use Rattle.bocage.proofs.Wholes.{fits_part}
use Rattle.bocage.proofs.Noting.{was_noted, is_noted}
use Rattle.bocage.proofs.walk.cause_of_group.Goals as goal

pub noted_cause-requires : goal.noted_cause-requires
noted_cause-requires c =
    let l = c.requires.noted.long in
    let (lt, e) = got_at c.args.known.now.groups.now c.args.at c.args.group c.args.group (sym c.requires.group) in
    let v = ap (λ (l : List (Option CauseRow)). length l) c.deref.ensures.value in
    omega arith

pub returns-in-Some : goal.returns-in-Some
returns-in-Some c =
    was_noted c.args.known.now c.args.group c.args.at c.args.found.now c.requires.group c.requires.noted c.in-Some.cause
    (subst (λ (l : List (Option CauseRow)). slice_get l c.args.at ≡ Some (Some c.in-Some.cause)) c.deref.ensures.value c.in-Some.ensures)

pub parts_between-parts-requires-clause-order : goal.parts_between-parts-requires-clause-order
parts_between-parts-requires-clause-order c = let s = (c.requires.knows.gathered.groups.are c.args.group (got_item c.args.known.now.groups.now c.args.at c.args.group (sym c.requires.group))).some in omega arith

pub parts_between-parts-requires-clause-bound : goal.parts_between-parts-requires-clause-bound
parts_between-parts-requires-clause-bound c = (c.requires.knows.gathered.groups.are c.args.group (got_item c.args.known.now.groups.now c.args.at c.args.group (sym c.requires.group))).within

pub cause_of-requires-clause-some : goal.cause_of-requires-clause-some
cause_of-requires-clause-some c = subst (λ (l : List Part). 0 < length l) (sym c.parts_between-parts.ensures) (group_span c.args.known.now c.requires.knows c.args.group (got_item c.args.known.now.groups.now c.args.at c.args.group (sym c.requires.group))).some

pub cause_of-requires-clause-fits : goal.cause_of-requires-clause-fits
cause_of-requires-clause-fits c p h =
    let span = group_span c.args.known.now c.requires.knows c.args.group (got_item c.args.known.now.groups.now c.args.at c.args.group (sym c.requires.group)) in
    subst (λ (g : FlatGrammar). FitsPart g p) (sym c.flat.ensures) (fits_part c.args.known.now c.requires.knows p ((span.exact p).0 (subst (λ (l : List Part). Contains l p) c.parts_between-parts.ensures h)).0)

pub note_cause-requires : goal.note_cause-requires
note_cause-requires c =
    let l = c.requires.noted.long in
    let (lt, e) = got_at c.args.known.now.groups.now c.args.at c.args.group c.args.group (sym c.requires.group) in
    omega arith

pub returns : goal.returns
returns c =
    is_noted c.args.known.now c.args.group c.args.at c.args.found.now c.requires.group c.requires.noted c.in_ok-cause.cause
    (record { keys = c.cause_of.new.keys; alternatives = c.args.found.now.alternatives; wholes = c.cause_of.new.wholes; causes = c.note_cause.new.causes }) refl
    (subst (λ (l : List Part). GrowsBy (λ (z : NodeKey). Contains (whole_keys c.args.known.now.recce.now.flat l) z) c.args.found.now.keys.keys c.cause_of.new.keys.keys) c.parts_between-parts.ensures
    (subst (λ (g : FlatGrammar). GrowsBy (λ (z : NodeKey). Contains (whole_keys g c.parts_between-parts.result.now) z) c.args.found.now.keys.keys c.cause_of.new.keys.keys) c.flat.ensures c.in_ok-cause.ensures.grows))
    (subst (λ (l : List Part). IsCauseFound c.args.known.now.recce.now.flat l c.cause_of.new.keys.keys c.args.found.now.wholes.items c.cause_of.new.wholes.items c.in_ok-cause.cause) c.parts_between-parts.ensures
    (subst (λ (g : FlatGrammar). IsCauseFound g c.parts_between-parts.result.now c.cause_of.new.keys.keys c.args.found.now.wholes.items c.cause_of.new.wholes.items c.in_ok-cause.cause) c.flat.ensures c.in_ok-cause.ensures.cause))
    c.note_cause.ensures.long c.note_cause.ensures.each
