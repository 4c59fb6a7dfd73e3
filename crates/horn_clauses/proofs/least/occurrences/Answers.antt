use Rattle.std.proofs.Common.{arith, ◌≡◌, ◌∙◌, ap, subst, sym, ℕ, List, length, All, ◌<◌}
use Rattle.std.proofs.lemmas.Result.{IfOk-weaker}
use Rattle.horn_clauses.specs.Rows.{HasAddedAll, HasPlacesTo, HasPlaces}
use Rattle.horn_clauses.proofs.RowLemmas.{places_none, places_more}
use Rattle.horn_clauses.proofs.least.occurrences.Goals as goal

pub loop-i-init : goal.loop-i-init
loop-i-init c = (c.new-gathered.ensures.length, places_none c.args.clauses.now c.new-gathered.result c.new-gathered.ensures.empty)

pub add_clause-requires : goal.add_clause-requires
add_clause-requires c = λ k d lt.
    let below = subst (λ body. All (λ x. x < c.args.bound) body) (sym c.body.ensures) (c.requires.below c.loop-i.i (omega arith)).1 in
    omega (arith, below k d lt, c.loop-i.invariant.0)

pub loop-i-preserved : goal.loop-i-preserved
loop-i-preserved c =
    let a = subst (λ body. HasAddedAll c.loop-i.gathered c.add_clause.new.rows body c.loop-i.i) c.body.ensures c.in_ok-add_clause.ensures in (
      omega (arith, a.same_length, c.loop-i.invariant.0),
      places_more c.args.clauses.now c.loop-i.gathered c.add_clause.new.rows c.loop-i.i (omega arith) c.loop-i.invariant.1 a,
    )

pub returns-clause-length : goal.returns-clause-length
returns-clause-length c = IfOk-weaker c.linked.result _ _ (λ rows is. ap (λ (l : List (List ℕ)). length l) is ∙ c.loop-i.invariant.0) c.linked.ensures

pub returns-clause-places : goal.returns-clause-places
returns-clause-places c =
    let end : c.loop-i.i ≡ length c.args.clauses.now = omega (arith, c.loop-i-test.false, c.loop-i.auto.i-end, c.len-i-end.ensures) in
    let all : HasPlacesTo c.args.clauses.now c.loop-i.gathered (length c.args.clauses.now) = subst (HasPlacesTo c.args.clauses.now c.loop-i.gathered) end c.loop-i.invariant.1 in
    IfOk-weaker c.linked.result _ _ (λ (rows : List (List ℕ)) is. subst (HasPlaces c.args.clauses.now) (sym is) (record { within = all.within; all = all.all })) c.linked.ensures
