use Rattle.std.proofs.Common.{Option, sym, ◌∙◌, subst}
use Rattle.std.proofs.lemmas.Bool.{true≢false, false≢true}
use Rattle.recognizer_model.specs.declared.NodeKey.{NodeKey}
use Rattle.first_walk.specs.Place.{IsListedIn}
use Rattle.first_walk.proofs.Coming.{comes_earlier, first_under, later_under}
use Rattle.first_walk.proofs.Counts.{more_given, to_from, to_later, to_same}
use Rattle.first_walk.proofs.walk.come_to.Goals as goal

pub returns-then-is_listed-clause-here : goal.returns-then-is_listed-clause-here
returns-then-is_listed-clause-here g c = later_under c.args.w.now c.args.ranking c.args.recce.now c.requires.read c.args.key c.args.place.now.first c.requires.ahead c.requires.spans (c.is_listed.ensures.0 c.if-is_listed.true)

pub returns-then-is_listed-clause-from : goal.returns-then-is_listed-clause-from
returns-then-is_listed-clause-from g c =
    let (first, e, same) = c.is_listed.ensures.0 c.if-is_listed.true in
    to_same c.args.place.now.first first c.args.given.now c.args.key.end e same c.requires.to

pub returns-then-is_listed-clause-counted : goal.returns-then-is_listed-clause-counted
returns-then-is_listed-clause-counted g c start h =
    let (first, e, same) = c.is_listed.ensures.0 c.if-is_listed.true in
    to_from c.args.w.now c.args.ranking c.args.recce.now c.args.place.now.first first c.args.key.end e same start c.args.steps.now h

pub list_place-requires-clause-later : goal.list_place-requires-clause-later
list_place-requires-clause-later g c =
    to_later c.args.place.now.first c.args.given.now c.args.key.end c.requires.to
    (comes_earlier c.args.w.now c.args.ranking c.args.recce.now c.requires.read c.args.key c.args.place.now.first c.requires.ahead (λ h. true≢false (sym (c.is_listed.ensures.1 h) ∙ c.if-is_listed.false)))

pub returns-in_err-list_place-clause-counted : goal.returns-in_err-list_place-clause-counted
returns-in_err-list_place-clause-counted g c start h =
    more_given c.args.w.now c.args.ranking c.args.recce.now c.args.place.now.first c.args.key.end
    (comes_earlier c.args.w.now c.args.ranking c.args.recce.now c.requires.read c.args.key c.args.place.now.first c.requires.ahead (λ h. true≢false (sym (c.is_listed.ensures.1 h) ∙ c.if-is_listed.false)))
    start c.args.steps.now c.list_place.new.steps h c.in_err-list_place.ensures.counted

pub returns-clause-counted : goal.returns-clause-counted
returns-clause-counted g c start h =
    more_given c.args.w.now c.args.ranking c.args.recce.now c.args.place.now.first c.args.key.end
    (comes_earlier c.args.w.now c.args.ranking c.args.recce.now c.requires.read c.args.key c.args.place.now.first c.requires.ahead (λ h. true≢false (sym (c.is_listed.ensures.1 h) ∙ c.if-is_listed.false)))
    start c.args.steps.now c.list_place.new.steps h c.in_ok-list_place.ensures.counted

pub returns-clause-here : goal.returns-clause-here
returns-clause-here g c = (
  c.args.key,
  c.in_ok-list_place.ensures.first,
  first_under c.args.w.now c.args.ranking c.args.recce.now c.requires.read c.args.key c.args.place.now.first c.requires.ahead
      (comes_earlier c.args.w.now c.args.ranking c.args.recce.now c.requires.read c.args.key c.args.place.now.first c.requires.ahead (λ h. true≢false (sym (c.is_listed.ensures.1 h) ∙ c.if-is_listed.false))),
)

pub returns-clause-listed : goal.returns-clause-listed
returns-clause-listed g c =
    subst (λ (o : Option NodeKey). IsListedIn c.args.w.now c.args.ranking c.args.recce.now o c.list_place.new.place.parts.items) (sym c.in_ok-list_place.ensures.first) c.in_ok-list_place.ensures.listed

pub returns-clause-joined : goal.returns-clause-joined
returns-clause-joined g c t = absurd (false≢true (sym c.in_ok-list_place.ensures.joined ∙ t))
