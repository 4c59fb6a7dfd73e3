use Rattle.std.proofs.Common.{arith, ◌≡◌, inl, inr, List, [], Contains, subst}
use Rattle.horn_clauses.specs.Least.{Clause}
use Rattle.grammar_check.proofs.cycles.settling.Goals as goal

none : (old : List Clause) (d : Clause) → old ≡ [] → Contains old d → ⊥
none old d e h = let (j, jl, is) = subst (λ l. Contains l d) e h in omega (arith, jl)

pub returns : goal.returns
returns c = λ d. (
  λ h. elim (c.in_ok-push_ties.ensures.only d h) [
    | inl before ↦ elim (c.in_ok-push_nodes.ensures.only d before) [ inl old ↦ absurd (none c.new-clauses.result d c.new-clauses.ensures old) | inr q ↦ inl q ]
    | inr q ↦ inr q
  ],
  λ q. elim q [ inl a ↦ c.in_ok-push_ties.ensures.keeps d (c.in_ok-push_nodes.ensures.has d a) | inr b ↦ c.in_ok-push_ties.ensures.has d b ],
)
