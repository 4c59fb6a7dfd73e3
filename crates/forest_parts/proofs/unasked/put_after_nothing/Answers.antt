use Rattle.std.proofs.Common.{refl, subst, arith}
use Rattle.std.proofs.lemmas.Option.{slice_get_within}
use Rattle.recognizer_model.specs.Flat.{FlatGrammar, rhs_of, IsNullable}
use Rattle.recognizer_model.specs.Items.{advanced}
use Rattle.recognizer_model.specs.declared.Item.{Item}
use Rattle.leo_items.specs.Closed.{Adds}
use Rattle.leo_items.proofs.Adding.{adds_key}
use Rattle.forest_parts.specs.Unasked.{IsAfterNothing}
use Rattle.forest_parts.proofs.Taking.{takes_one}
use Rattle.forest_parts.proofs.unasked.put_after_nothing.Goals as goal

pub returns-in_ok-insert : goal.returns-in_ok-insert
returns-in_ok-insert c =
    takes_one c.args.recce.now (IsAfterNothing c.args.recce.now c.args.item) c.args.items.now.keys c.insert.new.self.keys (advanced c.args.item)
    (subst (λ (z : Item). Adds c.args.items.now.keys c.insert.new.self.keys z) c.advanced.ensures (adds_key c.args.items.now.keys c.insert.new.self.keys _ c.in_ok-insert.ensures.keys))
    ((c.args.symbol, c.requires.part, subst (λ (g : FlatGrammar). IsNullable g c.args.symbol) c.flat-flat.ensures (c.nullable.ensures.0 c.if-nullable.true)), refl) (λ x p. p.1)
    (record { is_rule = c.requires.rule; within = (let lt = slice_get_within (rhs_of c.args.recce.now.flat c.args.item.rule) c.args.item.dot c.args.symbol c.requires.part in omega arith) }, c.requires.origin)
