use Rattle.grammar_model.proofs.Lister.{a_list}
use Rattle.grammar_model.proofs.list_exists.Goals as goal
use Rattle.finite_sets.proofs.Members.{among_from, contains_from}

pub returns : goal.returns
returns c = λ g test order l slot p q.
    a_list g test l.null l.terminal l.rules_of l.forward l.nulls order l.order_laws l.plain l.terminals l.rules_sorted
    (λ s i. (λ m. (l.rules_are s i).0 (contains_from (l.rules_of s) i m), λ h. among_from (l.rules_of s) i ((l.rules_are s i).1 h)))
    l.height l.top l.capped l.falls slot p q
