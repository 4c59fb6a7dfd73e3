use Rattle.std.proofs.Common.{◌≡◌, ap, subst}
use Rattle.recognizer_model.specs.Flat.{FlatGrammar}
use Rattle.earley_sets.specs.Recognizer.{Recognizer}
use Rattle.earley_sets.specs.Unbound.{IsUnboundOf}
use Rattle.earley_sets.specs.declared.recce.UnboundRecce.{UnboundRecce}
use Rattle.earley_sets.proofs.Unbinding.{unbound}
use Rattle.earley_sets.proofs.recce.Recce.unbind.Goals as goal

pub returns-clause-of : goal.returns-clause-of
returns-clause-of c =
    let i = c.self.inside in let (kept, heads, same, lists, expected, hiding) = c.self.invariant in
    let r : UnboundRecce = record { heads = i.heads; start = i.start; top = i.top; edges = i.edges; rows = c.unbind.result; lists = i.lists; memo = i.memo; expected = i.expected; hiding = i.hiding; work = i.work } in
    subst (λ (g : FlatGrammar). IsUnboundOf g r) (ap (λ (it : Recognizer). it.flat) c.self.view_is)
    (unbound i.flat.now r i.rows kept heads same lists expected hiding c.unbind.ensures.rows c.unbind.ensures.is)
