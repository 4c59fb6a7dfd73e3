use Rattle.std.proofs.Common.{◌<◌, ◌≤◌, ◌∷◌, [], length, sym, subst}
use Rattle.std.specs.Prelude.{IfSome}
use Rattle.std.proofs.lemmas.List.Elements.{Contains-append_right}
use Rattle.recognizer_model.specs.Flat.{FlatGrammar, rhs_of}
use Rattle.earley_sets.proofs.Membership.{Contains-first}
use Rattle.bocage.proofs.Splits.{used_within}
use Rattle.first_walk.specs.Place.{Fits}
use Rattle.first_walk.specs.Going.{backwards}
use Rattle.first_walk.proofs.Counts.{from_all, from_to, from_same}
use Rattle.first_walk.proofs.Goings.{walks_on, placed_on}
use Rattle.first_walk.proofs.walk.go_spanning.Goals as goal

pub choose_in-requires-clause-used : goal.choose_in-requires-clause-used
choose_in-requires-clause-used g c = c.requires.walking.used c.args.key (Contains-append_right c.args.walk.now.goals.items (c.args.key ∷ []) c.args.key (Contains-first c.args.key []))

pub choose_in-requires-clause-ahead : goal.choose_in-requires-clause-ahead
choose_in-requires-clause-ahead g c = c.requires.ahead c.args.key (Contains-append_right c.args.walk.now.goals.items (c.args.key ∷ []) c.args.key (Contains-first c.args.key []))

pub put_chosen-requires-clause-some : goal.put_chosen-requires-clause-some
put_chosen-requires-clause-some g c =
    (used_within c.args.w.now c.args.ranking c.args.recce.now c.requires.read c.args.key (c.requires.walking.used c.args.key (Contains-append_right c.args.walk.now.goals.items (c.args.key ∷ []) c.args.key (Contains-first c.args.key [])))).some

pub put_chosen-requires-clause-rule : goal.put_chosen-requires-clause-rule
put_chosen-requires-clause-rule g c =
    subst (λ (f : FlatGrammar). c.args.key.rule < length f.rules) (sym c.flat.ensures)
    (used_within c.args.w.now c.args.ranking c.args.recce.now c.requires.read c.args.key (c.requires.walking.used c.args.key (Contains-append_right c.args.walk.now.goals.items (c.args.key ∷ []) c.args.key (Contains-first c.args.key [])))).is_rule

pub put_chosen-requires-clause-dot : goal.put_chosen-requires-clause-dot
put_chosen-requires-clause-dot g c =
    subst (λ (f : FlatGrammar). c.args.key.dot ≤ length (rhs_of f c.args.key.rule)) (sym c.flat.ensures)
    (used_within c.args.w.now c.args.ranking c.args.recce.now c.requires.read c.args.key (c.requires.walking.used c.args.key (Contains-append_right c.args.walk.now.goals.items (c.args.key ∷ []) c.args.key (Contains-first c.args.key [])))).parts

pub put_chosen-requires-clause-fits : goal.put_chosen-requires-clause-fits
put_chosen-requires-clause-fits g c = subst (λ (f : FlatGrammar). IfSome c.in_ok-chosen.chosen.part (λ p. Fits f c.args.key p)) (sym c.flat.ensures) c.in_ok-chosen.ensures.fits

pub returns-clause-walking : goal.returns-clause-walking
returns-clause-walking g c =
    walks_on c.args.w.now c.args.ranking c.args.recce.now c.requires.read c.requires.tree c.args.walk.now.goals.items c.args.key (backwards c.args.walk.now.steps.items) c.args.walk.now.alone c.requires.walking
    c.in_ok-chosen.chosen c.in_ok-chosen.ensures.chosen c.flat.result.now c.flat.ensures c.put_chosen.new.walk.goals.items (backwards c.put_chosen.new.walk.steps.items) c.put_chosen.new.walk.alone
    c.in_ok-put_chosen.ensures.goals c.in_ok-put_chosen.ensures.steps c.in_ok-put_chosen.ensures.alone

pub returns-clause-ahead : goal.returns-clause-ahead
returns-clause-ahead g c =
    let (first, e, under) = c.in_ok-chosen.ensures.here in
    placed_on c.args.w.now c.args.ranking c.args.recce.now c.requires.read c.requires.tree c.args.walk.now.goals.items c.args.key (backwards c.args.walk.now.steps.items) c.args.walk.now.alone c.requires.walking
    c.in_ok-chosen.chosen c.in_ok-chosen.ensures.chosen c.flat.result.now c.flat.ensures c.put_chosen.new.walk.goals.items c.in_ok-put_chosen.ensures.goals
    c.args.place.now.first c.requires.ahead c.choose_in.new.place.first first e under c.requires.spans

pub returns-clause-to : goal.returns-clause-to
returns-clause-to g c =
    let (first, e, under) = c.in_ok-chosen.ensures.here in
    from_same c.choose_in.new.place.first first c.choose_in.new.given c.args.key.end e under.end c.in_ok-chosen.ensures.from

pub returns-clause-counted : goal.returns-clause-counted
returns-clause-counted g c start h =
    let (first, e, under) = c.in_ok-chosen.ensures.here in
    from_to c.args.w.now c.args.ranking c.args.recce.now c.choose_in.new.place.first first c.args.key.end e under.end start c.choose_in.new.steps (c.in_ok-chosen.ensures.counted start h)

pub returns-clause-within : goal.returns-clause-within
returns-clause-within g c start h = from_all c.args.w.now c.args.ranking c.args.recce.now c.args.key.end start c.choose_in.new.steps (c.in_ok-chosen.ensures.counted start h)

pub returns-in_err-chosen-clause-within : goal.returns-in_err-chosen-clause-within
returns-in_err-chosen-clause-within g c start h = from_all c.args.w.now c.args.ranking c.args.recce.now c.args.key.end start c.choose_in.new.steps (c.in_err-chosen.ensures.counted start h)

pub returns-in_err-put_chosen-clause-within : goal.returns-in_err-put_chosen-clause-within
returns-in_err-put_chosen-clause-within g c start h = from_all c.args.w.now c.args.ranking c.args.recce.now c.args.key.end start c.choose_in.new.steps (c.in_ok-chosen.ensures.counted start h)
