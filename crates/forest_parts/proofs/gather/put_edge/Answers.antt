use Rattle.std.proofs.Common.{◌-◌, None, subst, refl, arith}
use Rattle.recognizer_model.specs.Flat.{FlatGrammar}
use Rattle.recognizer_model.specs.Invariant.{IsFlat}
use Rattle.forest_parts.proofs.Gathering.{gains_edge}
use Rattle.forest_parts.proofs.gather.put_edge.Goals as goal

pub returns-in_ok-push : goal.returns-in_ok-push
returns-in_ok-push c =
    let b = c.requires in
    gains_edge c.args.recce.now.flat c.args.least c.in-Some.symbol c.args.edge
    (record { end = c.args.edge.to; symbol = c.in-Some.symbol; length = c.args.edge.to - c.args.edge.from; whole = None }) c.args.parts.now.items c.push.new.self.items
    (subst (λ (g : FlatGrammar). IsFlat g) c.flat.ensures c.known.ensures.flat) c.if-least-edge.true c.in-Some.ensures.some refl refl (omega arith) refl c.in_ok-push.ensures.items
