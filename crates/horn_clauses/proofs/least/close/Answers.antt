use Rattle.std.proofs.Common.{arith, sym, ◌∙◌, ap, subst, length, Contains, length-append, add-one}
use Rattle.std.proofs.lemmas.List.Elements.{Contains-get_or}
use Rattle.horn_clauses.specs.Least.{HasVisited, Waits}
use Rattle.jagged.specs.Rows.{row_at}
use Rattle.horn_clauses.proofs.Search.{visit_done, visit_same, closed_all, found_below, got_at, got_none}
use Rattle.horn_clauses.proofs.least.close.Goals as goal

pub returns-in_default : goal.returns-in_default
returns-in_default c = closed_all c.args.clauses.now c.loop-k.found c.loop-k.places c.loop-k.k c.loop-k.invariant.0 c.loop-k.invariant.1 (got_none c.loop-k.found c.loop-k.k c.in_default.ensures)

pub list-requires : goal.list-requires
list-requires c =
    let (lt, e) = got_at c.loop-k.found c.loop-k.k c.in-Some.x c.in-Some.ensures in
    found_below c.args.clauses.now (length c.args.rows.now) (length c.loop-k.found) c.in-Some.x c.requires.below
    (c.loop-k.invariant.0.derived c.in-Some.x (subst (Contains c.loop-k.found) e (Contains-get_or c.loop-k.found c.loop-k.k 0 lt)))

pub visit-requires-clause-row : goal.visit-requires-clause-row
visit-requires-clause-row c = λ i h. c.requires.rows.within c.in-Some.x i ((c.in_ok-list.ensures i).0 (subst (λ l. Contains l i) c.deref.ensures.value h))

pub loop-k-preserved : goal.loop-k-preserved
loop-k-preserved c =
    let (lt, e) = got_at c.loop-k.found c.loop-k.k c.in-Some.x c.in-Some.ensures in
    let listed = subst (λ l. HasVisited c.args.clauses.now c.loop-k.found l c.loop-k.k c.visit.new.found c.visit.new.places) c.deref.ensures.value c.in_ok-visit.ensures in
    let v = visit_same c.args.clauses.now c.loop-k.found c.loop-k.places c.list.new.row.items (row_at c.args.rows.now c.in-Some.x) c.loop-k.k c.visit.new.found c.visit.new.places c.in_ok-list.ensures listed in
    let (more, grown) = v.extends in
    let long = ap length grown ∙ length-append c.loop-k.found more in (
      v.search,
      (λ i il. subst (λ n. Waits c.args.clauses.now c.visit.new.found c.visit.new.places n i) (sym (add-one c.loop-k.k))
          (visit_done c.args.clauses.now c.loop-k.found c.loop-k.places c.args.rows.now c.loop-k.k c.in-Some.x c.visit.new.found c.visit.new.places c.requires.rows lt e v i il)),
      (omega (arith, long, lt)),
    )

pub returns : goal.returns
returns c = closed_all c.args.clauses.now c.loop-k.found c.loop-k.places c.loop-k.k c.loop-k.invariant.0 c.loop-k.invariant.1 (omega (arith, c.loop-k-test.false, c.loop-k.auto.k-end, c.len-len.ensures, c.loop-k.invariant.2))
