use Rattle.std.proofs.Common.{arith, ◌<◌, map, subst, sym, Contains, Some}
use Rattle.std.specs.Prelude.{IsTrue}
use Rattle.std.proofs.lemmas.List.Elements.{All-contains, Contains-get_or}
use Rattle.language_model.specs.Building.{LexemeRow}
use Rattle.dsl_build.specs.Tables.{row_of}
use Rattle.prepared_grammars.proofs.Finding.{starts_more, sets_long, row_there}
use Rattle.prepared_grammars.proofs.lookups.list_starts.Goals as goal

pub note_start-requires : goal.note_start-requires
note_start-requires c =
    let (lt, is) = row_there c.args.rows.now c.loop-row.row-index c.row-item.result (omega arith) c.row-item.is in
    let there = Contains-get_or (map row_of c.args.rows.now) c.loop-row.row-index (row_of c.row-item.result) lt in
    let known = All-contains (λ (l : LexemeRow). l.symbol < c.args.count) (map row_of c.args.rows.now) (row_of c.row-item.result) c.requires.known (subst (Contains (map row_of c.args.rows.now)) (sym is) there) in
    let long = c.loop-row.invariant.1 in
    omega (arith, known, long)

pub loop-row-preserved : goal.loop-row-preserved
loop-row-preserved c =
    let (lt, is) = row_there c.args.rows.now c.loop-row.row-index c.row-item.result (omega arith) c.row-item.is in
    let there = Contains-get_or (map row_of c.args.rows.now) c.loop-row.row-index (row_of c.row-item.result) lt in
    let known = All-contains (λ (l : LexemeRow). l.symbol < c.args.count) (map row_of c.args.rows.now) (row_of c.row-item.result) c.requires.known (subst (Contains (map row_of c.args.rows.now)) (sym is) there) in
    let long = c.loop-row.invariant.1 in
    let same = sets_long (IsTrue c.row-item.result.latm) c.row-item.result.symbol (Some c.row-item.result.start) c.loop-row.starts.items c.note_start.new.starts.items c.note_start.ensures in (
      starts_more (map row_of c.args.rows.now) c.requires.order c.loop-row.row-index (row_of c.row-item.result) lt is c.loop-row.starts.items (omega (arith, known, long)) c.loop-row.invariant.0 c.note_start.new.starts.items c.note_start.ensures,
      omega (arith, same, long),
    )
