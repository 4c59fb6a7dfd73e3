use Rattle.std.proofs.Common.{◌≤◌, ◌⊎◌, inl, inr, Contains}
use Rattle.std.proofs.lemmas.Result.{on_ok_weaker}
use Rattle.recognizer_model.specs.declared.Item.{Item}
use Rattle.earley_sets.specs.Recognizer.{set_at}
use Rattle.forest_parts.specs.declared.parts.Part.{Part}
use Rattle.forest_parts.specs.Parts.{IsWholeOf}
use Rattle.forest_parts.proofs.Sets.{hidden_inside, found_item}
use Rattle.forest_parts.proofs.Gathering.{gains_then}
use Rattle.forest_parts.proofs.gather.put_wholes.Goals as goal

pub put_given-requires-clause-items : goal.put_given-requires-clause-items
put_given-requires-clause-items c item h =
    found_item c.args.recce.now c.requires.is c.args.end item (hidden_inside c.args.recce.now c.requires.is c.args.end item (c.requires.hidden item h))

pub returns : goal.returns
returns c =
    on_ok_weaker c.put_given.result
    (λ last. gains_then (λ (p : Part). (item : Item) × Contains (set_at c.args.recce.now c.args.end) item × ((c.args.least ≤ item.origin) × IsWholeOf c.args.w.now c.args.ranking c.args.recce.now.flat c.args.end item p))
    (λ (p : Part). (item : Item) × Contains c.args.hidden.now item × ((c.args.least ≤ item.origin) × IsWholeOf c.args.w.now c.args.ranking c.args.recce.now.flat c.args.end item p))
    (λ (p : Part). (item : Item) × (Contains (set_at c.args.recce.now c.args.end) item ⊎ Contains c.args.hidden.now item) × ((c.args.least ≤ item.origin) × IsWholeOf c.args.w.now c.args.ranking c.args.recce.now.flat c.args.end item p))
    c.args.parts.now.items c.put_kept.new.parts.items c.put_given.new.parts.items c.in_ok-put_kept.ensures last
    (λ p. (
      λ (item, h, is). elim h [ inl a ↦ inl (item, a, is) | inr b ↦ inr (item, b, is) ],
      λ h. elim h [ inl (item, a, is) ↦ (item, inl a, is) | inr (item, b, is) ↦ (item, inr b, is) ],
    )))
    c.put_given.ensures
