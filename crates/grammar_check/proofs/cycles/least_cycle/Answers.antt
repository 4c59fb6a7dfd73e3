use Rattle.std.proofs.Common.{arith, ◌≡◌, ◌⊎◌, ◌↔◌, inl, inr, ℕ, suc, ◌+◌, List, Contains, Option, subst, sym, refl, length}
use Rattle.std.specs.Option.{IfSome, IsNone}
use Rattle.std.specs.declared.vec.Vec.{Vec}
use Rattle.std.specs.declared.alloc.Global.{Global}
use Rattle.grammar_check.specs.Links.{Walks, AreRows, IsLeastPath}
use Rattle.horn_clauses.proofs.Search.{same_or_below}
use Rattle.grammar_check.proofs.Settling.{settled_none, all_rise, all_settled}
use Rattle.grammar_check.proofs.cycles.least_cycle.Goals as goal
use Rattle.grammar_check.proofs.cycles.least_cycle.Goals.{then-not-has+in_ok-path+in_default, else-not-has}

pub cycle_through-requires-clause-rows : goal.cycle_through-requires-clause-rows
cycle_through-requires-clause-rows c = subst (λ n. AreRows n c.args.rows.now) c.requires.sized c.requires.rows

pub loop-x-preserved : goal.loop-x-preserved
loop-x-preserved c = λ x m lt walk. elim (same_or_below x c.loop-x.x lt) [
  | inl before ↦ c.loop-x.invariant x m before walk
  | inr same ↦ through m (subst (λ x. Walks c.args.rows.now c.args.floors.now x (suc m) x) same walk)
]
  where
    through : (m : ℕ) → Walks c.args.rows.now c.args.floors.now c.loop-x.x (suc m) c.loop-x.x → ⊥
    through m = elim c.if-not-has.branch [
      | then-not-has+in_ok-path+in_default w ↦ subst (λ r. IsNone r → (m : ℕ) → Walks c.args.rows.now c.args.floors.now c.loop-x.x (suc m) c.loop-x.x → ⊥) w.in_default.is w.in_ok-path.ensures.none refl m
      | else-not-has w ↦ settled_none c.args.rows.now c.args.floors.now c.in_ok-settled.ensures.0 c.in_ok-settled.settled c.requires.sized c.requires.rows c.requires.floors
          c.in_ok-settled.ensures.1 c.in_ok-settled.ensures.2
          c.loop-x.x (omega (arith, c.loop-x-test.true, c.len-total.ensures)) (c.has.ensures.0 w.if-not-has.false) m
    ]

pub returns-in-Some-clause-some : goal.returns-in-Some-clause-some
returns-in-Some-clause-some c =
    let (n, least) = subst (λ (r : Option (Vec ℕ Global)). IfSome r (λ path. (n : ℕ) × IsLeastPath c.args.rows.now c.args.floors.now c.loop-x.x n path.items)) c.in-Some.is c.in_ok-path.ensures.some in
    (c.loop-x.x, n, least, c.loop-x.invariant)

pub returns-clause-none : goal.returns-clause-none
returns-clause-none c = λ _.
    let rows = c.args.rows.now in
    let floors = c.args.floors.now in
    let (clauses, told, least) = c.in_ok-settled.ensures in
    all_rise rows floors clauses c.in_ok-settled.settled c.requires.sized c.requires.rows c.requires.floors told least
    (all_settled rows floors clauses c.in_ok-settled.settled c.requires.sized c.requires.rows c.requires.floors told least
    (λ x m lt. c.loop-x.invariant x m (omega (arith, lt, c.loop-x-test.false, c.len-total.ensures))))
