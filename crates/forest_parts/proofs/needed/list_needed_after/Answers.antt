use Rattle.std.proofs.Common.{refl}
use Rattle.std.proofs.lemmas.Result.{IfOk-weaker}
use Rattle.forest_parts.proofs.Tops.{below_hidden}
use Rattle.forest_parts.proofs.Rest.{none_before, some_before}
use Rattle.forest_parts.proofs.needed.list_needed_after.Goals as goal

pub list_rest-requires-clause-here : goal.list_rest-requires-clause-here
list_rest-requires-clause-here g c =
    (c.requires.given (record { place = c.args.end; tops = c.in-Some.here.tops.now; items = c.in-Some.here.items.now }) ((c.in-Some.ensures.some (record { place = c.args.end; tops = c.in-Some.here.tops.now; items = c.in-Some.here.items.now })).1 refl).0).items

pub returns-in-Some-clause-counted : goal.returns-in-Some-clause-counted
returns-in-Some-clause-counted g c =
    some_before c.args.w.now c.args.ranking c.args.recce.now c.args.keys.now.keys c.args.given.now c.args.end c.args.least c.args.steps.now c.list_rest.new.steps c.in-Some.here.tops.now c.in-Some.here.items.now c.in-Some.ensures.some c.list_rest.ensures.counted

pub returns-in-None-clause-counted : goal.returns-in-None-clause-counted
returns-in-None-clause-counted g c =
    none_before c.args.w.now c.args.ranking c.args.recce.now c.args.keys.now.keys c.args.given.now c.args.end c.args.least c.args.steps.now c.list_needed.new.steps (c.in-None.ensures.none refl) c.list_needed.ensures.counted

pub returns-in-None-clause-hidden : goal.returns-in-None-clause-hidden
returns-in-None-clause-hidden g c =
    IfOk-weaker c.list_needed.result _ _ (λ items lists item h. below_hidden c.args.w.now c.args.ranking c.args.recce.now c.requires.is c.args.keys.now.keys c.args.end c.args.least item ((lists.exact item).0 h)) c.list_needed.ensures.exact

pub returns-in-None-clause-all : goal.returns-in-None-clause-all
returns-in-None-clause-all g c = IfOk-weaker c.list_needed.result _ _ (λ items lists item below. (lists.exact item).1 below) c.list_needed.ensures.exact
