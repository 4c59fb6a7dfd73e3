use Rattle.std.proofs.Common.{◌∙◌, Some, refl, sym, ap}
use Rattle.finite_sets.proofs.Lists.{got_item}
use Rattle.recognizer_model.specs.Flat.{FlatGrammar, lhs_of}
use Rattle.recognizer_model.specs.Items.{advanced}
use Rattle.first_walk.proofs.near.is_waited_for.Goals as goal

pub returns-then-is_next_of : goal.returns-then-is_next_of
returns-then-is_next_of c _ =
    let (kept, waits) = (c.waiting-waiting.ensures.exact c.at.result).0 (got_item c.waiting-waiting.result c.loop-k.k c.at.result (sym c.at.ensures)) in
    (advanced c.at.result, (c.at.result, kept, waits ∙ ap Some (c.lhs.ensures ∙ ap (λ (g : FlatGrammar). lhs_of g c.args.item.rule) c.flat.ensures), refl), c.is_next_of.ensures c.if-is_next_of.true)
