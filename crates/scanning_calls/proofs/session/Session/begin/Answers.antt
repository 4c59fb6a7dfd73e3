use Rattle.std.proofs.Common.{subst}
use Rattle.recognizer_model.specs.Flat.{FlatGrammar}
use Rattle.earley_sets.specs.Unbound.{IsUnboundOf}
use Rattle.scanning_calls.proofs.session.Session.begin.Goals as goal

pub invariant_of-result : goal.invariant_of-result
invariant_of-result c = subst (λ (g : FlatGrammar). IsUnboundOf g c.unbind-recce.result) c.in_ok-new.ensures.0 c.unbind-recce.ensures.of
