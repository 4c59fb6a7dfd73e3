use Rattle.std.proofs.Common.{◌∷◌, [], arith}
use Rattle.std.proofs.lemmas.List.Elements.{Contains-append_right}
use Rattle.earley_sets.proofs.Membership.{Contains-first}
use Rattle.bocage.proofs.Splits.{used_within}
use Rattle.first_walk.proofs.Counts.{all_given}
use Rattle.first_walk.proofs.walk.go_from.Goals as goal

pub go_spanning-requires-clause-spans : goal.go_spanning-requires-clause-spans
go_spanning-requires-clause-spans g c =
    let le = (used_within c.args.w.now c.args.ranking c.args.recce.now c.requires.read c.args.key (c.requires.walking.used c.args.key (Contains-append_right c.args.walk.now.goals.items (c.args.key ∷ []) c.args.key (Contains-first c.args.key [])))).forward in
    omega arith

pub returns-in_err-go_empty-clause-within : goal.returns-in_err-go_empty-clause-within
returns-in_err-go_empty-clause-within g c start h = all_given c.args.w.now c.args.ranking c.args.recce.now c.args.place.now.first start c.args.steps.now h

pub returns-then-key-clause-ahead : goal.returns-then-key-clause-ahead
returns-then-key-clause-ahead g c = c.in_ok-go_empty.ensures.ahead c.args.place.now.first c.requires.ahead

pub returns-then-key-clause-within : goal.returns-then-key-clause-within
returns-then-key-clause-within g c start h = all_given c.args.w.now c.args.ranking c.args.recce.now c.args.place.now.first start c.args.steps.now h
