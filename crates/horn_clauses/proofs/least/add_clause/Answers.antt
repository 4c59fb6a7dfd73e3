use Rattle.std.proofs.Common.{arith}
use Rattle.horn_clauses.proofs.RowLemmas.{add_none, add_more}
use Rattle.horn_clauses.proofs.least.add_clause.Goals as goal

pub loop-x-init : goal.loop-x-init
loop-x-init c = add_none c.args.rows.now c.args.body.now c.args.clause

pub add-requires : goal.add-requires
add-requires c =
    let lt = c.requires c.loop-x.x-index 0 (omega arith) in
    let e = c.loop-x.invariant.same_length in
    omega (arith, lt, e)

pub loop-x-preserved : goal.loop-x-preserved
loop-x-preserved c = add_more c.args.rows.now c.loop-x.rows c.add.new.self c.args.body.now c.loop-x.x-index c.args.clause (omega arith) c.loop-x.invariant c.in_ok-add.ensures.ok
