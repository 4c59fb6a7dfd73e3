use Rattle.std.proofs.Common.{inl, inr, subst, Contains}
use Rattle.std.proofs.lemmas.Result.{on_ok_weaker}
use Rattle.finite_sets.proofs.Lists.{Contains-none}
use Rattle.begun_lists.proofs.begun.list_unbegun.Goals as goal

pub returns-clause-only : goal.returns-clause-only
returns-clause-only c =
    on_ok_weaker c.list_rules.result
    (λ listed other n. elim ((listed other).0 n) [ inl o ↦ absurd (Contains-none other (subst (λ l. Contains l other) c.requires.empty o)) | inr p ↦ p ])
    c.list_rules.ensures.listed

pub returns-clause-all : goal.returns-clause-all
returns-clause-all c = on_ok_weaker c.list_rules.result (λ listed other p. inr ((listed other).1 (inr p))) c.list_rules.ensures.listed
