use Rattle.std.proofs.Common.{◌≤◌, get_or}
use Rattle.std.proofs.lemmas.List.Elements.{Contains-get_or}
use Rattle.std.proofs.lemmas.Option.{slice_get-get_or}
use Rattle.recognizer_model.specs.declared.Item.{Item}
use Rattle.forest_parts.specs.declared.parts.Part.{Part}
use Rattle.forest_parts.specs.Parts.{IsWholeOf}
use Rattle.forest_parts.proofs.Gathering.{no_item, first_none, first_more, first_all}
use Rattle.forest_parts.proofs.gather.put_given.Goals as goal

pub loop-item-init : goal.loop-item-init
loop-item-init c = first_none (λ (item : Item) (p : Part). (c.args.least ≤ item.origin) × IsWholeOf c.args.w.now c.args.ranking c.args.recce.now.flat c.args.end item p) c.args.given.now c.args.parts.now.items

pub put_whole-requires-clause-item : goal.put_whole-requires-clause-item
put_whole-requires-clause-item c = c.requires.items _ (Contains-get_or c.args.given.now c.loop-item.item-index no_item c.loop-item-test.true)

pub loop-item-preserved : goal.loop-item-preserved
loop-item-preserved c =
    first_more (λ (item : Item) (p : Part). (c.args.least ≤ item.origin) × IsWholeOf c.args.w.now c.args.ranking c.args.recce.now.flat c.args.end item p) c.args.given.now c.loop-item.item-index c.args.parts.now.items c.loop-item.parts.items c.put_whole.new.parts.items
    (get_or c.args.given.now c.loop-item.item-index no_item) c.loop-item.invariant (slice_get-get_or c.args.given.now c.loop-item.item-index no_item c.loop-item-test.true) c.in_ok-put_whole.ensures

pub returns : goal.returns
returns c = first_all (λ (item : Item) (p : Part). (c.args.least ≤ item.origin) × IsWholeOf c.args.w.now c.args.ranking c.args.recce.now.flat c.args.end item p) c.args.given.now c.loop-item.item-index c.args.parts.now.items c.loop-item.parts.items c.loop-item.invariant c.loop-item-test.false
