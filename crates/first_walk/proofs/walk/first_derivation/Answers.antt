use Rattle.std.proofs.Common.{None, List, Option, Contains, sym, ◌∙◌, ap, subst, arith}
use Rattle.std.proofs.lemmas.Bool.{false≢true}
use Rattle.finite_sets.proofs.Lists.{Contains-none}
use Rattle.recognizer_model.specs.declared.NodeKey.{NodeKey}
use Rattle.forest_parts.specs.Given.{GivenAt, items_in}
use Rattle.forest_parts.specs.Hidden.{RisesWithin}
use Rattle.forest_parts.proofs.Counting.{rises_none}
use Rattle.bocage.specs.Expanded.{IsGivenIn}
use Rattle.first_walk.specs.Place.{IsListedIn}
use Rattle.first_walk.specs.Going.{AreAhead, IsGivenTo, AreTo}
use Rattle.first_walk.proofs.walk.first_derivation.Goals as goal

pub begin-requires-clause-read : goal.begin-requires-clause-read
begin-requires-clause-read g c = record { checked = c.requires.checked; flat_of = c.requires.flat; is = c.place-end.ensures.is }

pub go_on-requires-clause-read : goal.go_on-requires-clause-read
go_on-requires-clause-read g c = record { checked = c.requires.checked; flat_of = c.requires.flat; is = c.place-end.ensures.is }

pub told-requires-clause-read : goal.told-requires-clause-read
told-requires-clause-read g c = record { checked = c.requires.checked; flat_of = c.requires.flat; is = c.place-end.ensures.is }

pub go_on-requires-clause-walking : goal.go_on-requires-clause-walking
go_on-requires-clause-walking g c = c.in_ok-walk.ensures.walking

pub go_on-requires-clause-ahead : goal.go_on-requires-clause-ahead
go_on-requires-clause-ahead g c = subst (λ (o : Option NodeKey). AreAhead c.args.w.now c.args.ranking c.args.recce.now o c.in_ok-walk.walk.goals.items) (sym c.new_place-place.ensures.first) c.in_ok-walk.ensures.ahead

pub go_on-requires-clause-listed : goal.go_on-requires-clause-listed
go_on-requires-clause-listed g c = subst (λ (o : Option NodeKey). IsListedIn c.args.w.now c.args.ranking c.args.recce.now o c.new_place-place.result.parts.items) (sym c.new_place-place.ensures.first) tt

pub go_on-requires-clause-joined : goal.go_on-requires-clause-joined
go_on-requires-clause-joined g c t = absurd (false≢true (sym c.new_place-place.ensures.joined ∙ t))

pub go_on-requires-clause-given : goal.go_on-requires-clause-given
go_on-requires-clause-given g c e h = absurd (Contains-none e (subst (λ (l : List GivenAt). Contains l e) c.requires.empty h))

pub go_on-requires-clause-to : goal.go_on-requires-clause-to
go_on-requires-clause-to g c = subst (λ (o : Option NodeKey). AreTo o c.args.given.now) (sym c.new_place-place.ensures.first) c.requires.empty

pub go_on-requires-clause-begun : goal.go_on-requires-clause-begun
go_on-requires-clause-begun g c = c.in_ok-walk.ensures.begun

pub returns-in_err-walk-clause-counted : goal.returns-in_err-walk-clause-counted
returns-in_err-walk-clause-counted g c = rises_none (IsGivenIn c.args.w.now c.args.ranking c.args.recce.now) c.args.steps.now

pub returns-in_err-go_on-clause-counted : goal.returns-in_err-go_on-clause-counted
returns-in_err-go_on-clause-counted g c =
    c.in_err-go_on.ensures.within c.args.steps.now
    (subst (λ (o : Option NodeKey). RisesWithin (IsGivenTo c.args.w.now c.args.ranking c.args.recce.now o) c.args.steps.now c.args.steps.now) (sym c.new_place-place.ensures.first) (rises_none (IsGivenTo c.args.w.now c.args.ranking c.args.recce.now None) c.args.steps.now))

pub returns-then-not-branch-clause-counted : goal.returns-then-not-branch-clause-counted
returns-then-not-branch-clause-counted g c =
    c.in_ok-go_on.ensures.within c.args.steps.now
    (subst (λ (o : Option NodeKey). RisesWithin (IsGivenTo c.args.w.now c.args.ranking c.args.recce.now o) c.args.steps.now c.args.steps.now) (sym c.new_place-place.ensures.first) (rises_none (IsGivenTo c.args.w.now c.args.ranking c.args.recce.now None) c.args.steps.now))

pub returns-in_err-told-clause-counted : goal.returns-in_err-told-clause-counted
returns-in_err-told-clause-counted g c =
    c.in_ok-go_on.ensures.within c.args.steps.now
    (subst (λ (o : Option NodeKey). RisesWithin (IsGivenTo c.args.w.now c.args.ranking c.args.recce.now o) c.args.steps.now c.args.steps.now) (sym c.new_place-place.ensures.first) (rises_none (IsGivenTo c.args.w.now c.args.ranking c.args.recce.now None) c.args.steps.now))

pub returns-clause-counted : goal.returns-clause-counted
returns-clause-counted g c =
    c.in_ok-go_on.ensures.within c.args.steps.now
    (subst (λ (o : Option NodeKey). RisesWithin (IsGivenTo c.args.w.now c.args.ranking c.args.recce.now o) c.args.steps.now c.args.steps.now) (sym c.new_place-place.ensures.first) (rises_none (IsGivenTo c.args.w.now c.args.ranking c.args.recce.now None) c.args.steps.now))

pub returns-then-not-branch-clause-all : goal.returns-then-not-branch-clause-all
returns-then-not-branch-clause-all g c =
    let none = ap items_in c.requires.empty in
    let all = c.in_ok-go_on.ensures.all in
    omega arith

pub returns-clause-all : goal.returns-clause-all
returns-clause-all g c =
    let none = ap items_in c.requires.empty in
    let all = c.in_ok-go_on.ensures.all in
    omega arith
