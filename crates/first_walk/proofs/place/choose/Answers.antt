use Rattle.std.proofs.Common.{◌-◌, refl}
use Rattle.first_walk.specs.Place.{null_high}
use Rattle.first_walk.proofs.Choices.{dot_more}
use Rattle.first_walk.proofs.Only.{only_chosen, only_fits, none_found, some_found, found_fits}
use Rattle.first_walk.proofs.place.choose.Goals as goal

pub returns-then-is_only-clause-chosen : goal.returns-then-is_only-clause-chosen
returns-then-is_only-clause-chosen c =
    only_chosen c.args.w.now c.args.ranking c.args.recce.now c.requires.read c.args.key c.requires.used (c.args.key.dot - 1) c.args.symbol (dot_more c.args.w.now c.args.ranking c.args.recce.now c.requires.read c.args.key c.requires.used _ refl) c.requires.symbol
    c.args.parts.now c.requires.listed c.count_before-from.result c.count_before-from.ensures (c.is_only.ensures c.if-is_only.true)

pub returns-then-is_only-clause-fits : goal.returns-then-is_only-clause-fits
returns-then-is_only-clause-fits c =
    only_fits c.args.w.now c.args.ranking c.args.recce.now c.requires.read c.args.key c.requires.used (c.args.key.dot - 1) c.args.symbol (dot_more c.args.w.now c.args.ranking c.args.recce.now c.requires.read c.args.key c.requires.used _ refl) c.requires.symbol
    c.args.parts.now c.requires.listed c.count_before-from.result c.count_before-from.ensures (c.is_only.ensures c.if-is_only.true)

pub returns-in-None-clause-chosen : goal.returns-in-None-clause-chosen
returns-in-None-clause-chosen c =
    none_found c.args.w.now c.args.ranking c.args.recce.now c.requires.read c.args.key c.requires.used (c.args.key.dot - 1) c.args.symbol (dot_more c.args.w.now c.args.ranking c.args.recce.now c.requires.read c.args.key c.requires.used _ refl) c.requires.symbol
    c.args.parts.now c.requires.listed (c.in-None.ensures.none refl)

pub returns-in-Some-clause-chosen : goal.returns-in-Some-clause-chosen
returns-in-Some-clause-chosen c =
    some_found c.args.w.now c.args.ranking c.args.recce.now c.requires.read c.args.key c.requires.used (c.args.key.dot - 1) c.args.symbol (dot_more c.args.w.now c.args.ranking c.args.recce.now c.requires.read c.args.key c.requires.used _ refl) c.requires.symbol
    c.args.parts.now c.requires.listed c.in-Some.found.first c.in-Some.ensures.some.0 c.may_be_nothing-nothing.result c.may_be_nothing-nothing.ensures c.choose_at.result c.choose_at.ensures

pub returns-in-Some-clause-fits : goal.returns-in-Some-clause-fits
returns-in-Some-clause-fits c =
    found_fits c.args.w.now c.args.ranking c.args.recce.now c.requires.read c.args.key c.requires.used (c.args.key.dot - 1) c.args.symbol (dot_more c.args.w.now c.args.ranking c.args.recce.now c.requires.read c.args.key c.requires.used _ refl) c.requires.symbol
    c.args.parts.now c.requires.listed c.in-Some.found.first c.in-Some.ensures.some.0 (null_high c.args.w.now c.args.ranking c.args.recce.now c.args.key.rule) c.may_be_nothing-nothing.result c.choose_at.result c.choose_at.ensures
