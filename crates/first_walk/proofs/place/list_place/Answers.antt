use Rattle.std.proofs.Common.{◌↔◌, ◌≡◌, Contains, List, [], ◌∷◌, length, sym, ap, subst, arith}
use Rattle.recognizer_model.specs.declared.Item.{Item}
use Rattle.recognizer_model.specs.Counts.{IsListOf}
use Rattle.earley_sets.specs.Below.{StandsBelowOf}
use Rattle.forest_parts.specs.Needed.{IsBelowAsked}
use Rattle.forest_parts.specs.Parts.{IsPartBy}
use Rattle.forest_parts.proofs.Counting.{rises_of}
use Rattle.bocage.specs.Expanded.{IsGivenAt}
use Rattle.bocage.proofs.Splits.{used_within}
use Rattle.first_walk.proofs.Giving.{asked_given, noted_given, noted_from, noted_total}
use Rattle.first_walk.proofs.Listing.{are_hidden, listed_by}
use Rattle.first_walk.proofs.place.list_place.Goals as goal

pub ask-requires-clause-end : goal.ask-requires-clause-end
ask-requires-clause-end g c = (used_within c.args.w.now c.args.ranking c.args.recce.now c.requires.read c.args.first c.requires.used).inside

pub list_parts-requires-clause-end : goal.list_parts-requires-clause-end
list_parts-requires-clause-end g c = (used_within c.args.w.now c.args.ranking c.args.recce.now c.requires.read c.args.first c.requires.used).inside

pub list_parts-requires-clause-hidden : goal.list_parts-requires-clause-hidden
list_parts-requires-clause-hidden g c item h =
    are_hidden c.args.w.now c.args.ranking c.args.recce.now c.requires.read.is c.args.first (used_within c.args.w.now c.args.ranking c.args.recce.now c.requires.read c.args.first c.requires.used).inside
    c.in_ok-items.items.items c.in_ok-items.ensures.exact item (subst (λ (l : List Item). Contains l item) c.deref-3.ensures.value h)

pub returns-in_err-items-clause-counted : goal.returns-in_err-items-clause-counted
returns-in_err-items-clause-counted g c =
    rises_of (IsBelowAsked c.args.w.now c.args.ranking c.args.recce.now (c.args.first ∷ []) c.args.first.end c.args.first.origin) (IsGivenAt c.args.w.now c.args.ranking c.args.recce.now c.args.first.end) c.args.steps.now c.ask.new.steps
    (asked_given c.args.w.now c.args.ranking c.args.recce.now c.requires.read c.args.first c.requires.used) c.in_err-items.ensures.counted

pub returns-in_err-note-clause-counted : goal.returns-in_err-note-clause-counted
returns-in_err-note-clause-counted g c =
    rises_of (IsBelowAsked c.args.w.now c.args.ranking c.args.recce.now (c.args.first ∷ []) c.args.first.end c.args.first.origin) (IsGivenAt c.args.w.now c.args.ranking c.args.recce.now c.args.first.end) c.args.steps.now c.ask.new.steps
    (asked_given c.args.w.now c.args.ranking c.args.recce.now c.requires.read c.args.first c.requires.used) c.in_ok-items.ensures.counted

pub returns-in_err-list_parts-clause-counted : goal.returns-in_err-list_parts-clause-counted
returns-in_err-list_parts-clause-counted g c =
    rises_of (IsBelowAsked c.args.w.now c.args.ranking c.args.recce.now (c.args.first ∷ []) c.args.first.end c.args.first.origin) (IsGivenAt c.args.w.now c.args.ranking c.args.recce.now c.args.first.end) c.args.steps.now c.ask.new.steps
    (asked_given c.args.w.now c.args.ranking c.args.recce.now c.requires.read c.args.first c.requires.used) c.in_ok-items.ensures.counted

pub returns-clause-counted : goal.returns-clause-counted
returns-clause-counted g c =
    rises_of (IsBelowAsked c.args.w.now c.args.ranking c.args.recce.now (c.args.first ∷ []) c.args.first.end c.args.first.origin) (IsGivenAt c.args.w.now c.args.ranking c.args.recce.now c.args.first.end) c.args.steps.now c.ask.new.steps
    (asked_given c.args.w.now c.args.ranking c.args.recce.now c.requires.read c.args.first c.requires.used) c.in_ok-items.ensures.counted

pub returns-clause-listed : goal.returns-clause-listed
returns-clause-listed g c =
    listed_by c.args.w.now c.args.ranking c.args.recce.now c.requires.read.is c.args.first (used_within c.args.w.now c.args.ranking c.args.recce.now c.requires.read c.args.first c.requires.used).inside
    c.in_ok-items.items.items c.in_ok-items.ensures.exact c.list_parts.new.parts.items c.in_ok-list_parts.ensures.sorted
    (λ p. subst (λ (l : List Item). Contains c.list_parts.new.parts.items p ↔ IsPartBy c.args.w.now c.args.ranking c.args.recce.now c.args.first.end c.args.first.origin l p) c.deref-3.ensures.value (c.in_ok-list_parts.ensures.exact p))

pub returns-clause-given : goal.returns-clause-given
returns-clause-given g c =
    noted_given c.args.w.now c.args.ranking c.args.recce.now c.requires.read c.args.first c.requires.used c.deref.result.now c.deref-2.result.now
    (subst (λ (l : List Item). IsListOf (IsBelowAsked c.args.w.now c.args.ranking c.args.recce.now (c.args.first ∷ []) c.args.first.end c.args.first.origin) l) (sym c.deref-2.ensures.value) c.in_ok-items.ensures.exact)
    (subst (λ (l : List Item). IsListOf (StandsBelowOf c.args.recce.now c.args.first.end c.deref.result.now) l) (sym c.deref-2.ensures.value)
    (subst (λ (l : List Item). IsListOf (StandsBelowOf c.args.recce.now c.args.first.end l) c.in_ok-items.items.items) (sym c.deref.ensures.value) c.in_ok-items.ensures.tops))
    c.args.given.now c.note.new.given c.in_ok-note.ensures c.requires.given

pub returns-clause-from : goal.returns-clause-from
returns-clause-from g c = noted_from c.args.first.end c.deref.result.now c.deref-2.result.now c.args.given.now c.note.new.given c.in_ok-note.ensures c.requires.later

pub returns-clause-all : goal.returns-clause-all
returns-clause-all g c =
    let total = noted_total c.args.first.end c.deref.result.now c.deref-2.result.now c.args.given.now c.note.new.given c.in_ok-note.ensures in
    let same : length c.deref-2.result.now ≡ length c.in_ok-items.items.items = ap length c.deref-2.ensures.value in
    let rises = c.in_ok-items.ensures.all in
    omega arith
