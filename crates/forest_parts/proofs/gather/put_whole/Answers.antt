use Rattle.std.proofs.Common.{◌-◌, ◌∙◌, ℕ, List, Some, length, refl, ap, arith}
use Rattle.recognizer_model.specs.Flat.{FlatGrammar, lhs_of, rhs_of}
use Rattle.forest_parts.specs.Parts.{rule_key_of}
use Rattle.forest_parts.proofs.Gathering.{gains_whole}
use Rattle.forest_parts.proofs.gather.put_whole.Goals as goal

pub returns-in_ok-push : goal.returns-in_ok-push
returns-in_ok-push c =
    let spans = c.if-item-end.true in
    gains_whole c.args.w.now c.args.ranking c.args.recce.now.flat c.args.end c.args.least c.args.item
    (record { end = c.args.end; symbol = c.lhs.result; length = c.args.end - c.args.item.origin; whole = Some c.rule_key.result }) c.args.parts.now.items c.push.new.self.items c.if-least-item.true (record {
      dot = c.if-whole.true ∙ ap (λ (l : List ℕ). length l) (c.rhs.ensures ∙ ap (λ (g : FlatGrammar). rhs_of g c.args.item.rule) c.flat-flat.ensures);
      end = refl;
      spans = spans;
      start = omega arith;
      symbol = c.lhs.ensures ∙ ap (λ (g : FlatGrammar). lhs_of g c.args.item.rule) c.flat-flat.ensures;
      whole = ap Some (c.rule_key.ensures ∙ ap (λ (g : FlatGrammar). rule_key_of c.args.w.now c.args.ranking g c.args.item.rule) c.flat-flat.ensures);
    }) c.in_ok-push.ensures.items
