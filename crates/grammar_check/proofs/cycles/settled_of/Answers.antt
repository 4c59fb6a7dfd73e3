use Rattle.std.proofs.Common.{◌≡◌, ◌⊎◌, ◌↔◌, ℕ, ◌+◌, List, Contains, subst, sym, length}
use Rattle.std.proofs.lemmas.Result.{IfOk-weaker}
use Rattle.horn_clauses.specs.Least.{Clause, AreBelow, IsLeastSet}
use Rattle.grammar_check.specs.Links.{AreRows}
use Rattle.grammar_check.specs.Settled.{IsOfNodes, IsOfUses, AreSettled}
use Rattle.grammar_check.proofs.Settling.{settling_below}
use Rattle.grammar_check.proofs.cycles.settled_of.Goals as goal

-- the clauses by how many rows there are
module _ (rows : List (List ℕ)) (floors : List ℕ) (cs : List Clause) where
  abbrev AreSettling : ℕ → Type 0
  AreSettling n = (d : Clause) → Contains cs d ↔ (IsOfNodes rows n n d ⊎ IsOfUses floors n n d)

  settling_at : (n : ℕ) → n ≡ length rows → AreSettling n → AreSettling (length rows)
  settling_at n e h = subst AreSettling e h

pub settling-requires-clause-rows : goal.settling-requires-clause-rows
settling-requires-clause-rows c = subst (λ n. AreRows n c.args.rows.now) (sym c.requires.total) c.requires.rows

pub least_set-requires : goal.least_set-requires
least_set-requires c =
    let told = settling_at c.args.rows.now c.args.floors.now c.in_ok-clauses.clauses c.args.total c.requires.total c.in_ok-clauses.ensures in
    subst (λ n. AreBelow (n + n) c.in_ok-clauses.clauses) (sym c.requires.total) (settling_below c.args.rows.now c.args.floors.now c.in_ok-clauses.clauses c.requires.rows told)

pub returns : goal.returns
returns c =
    let told = settling_at c.args.rows.now c.args.floors.now c.in_ok-clauses.clauses c.args.total c.requires.total c.in_ok-clauses.ensures in
    IfOk-weaker c.least_set.result (IsLeastSet c.in_ok-clauses.clauses) (AreSettled c.args.rows.now c.args.floors.now) (λ keys least. (c.in_ok-clauses.clauses, told, least)) c.least_set.ensures
