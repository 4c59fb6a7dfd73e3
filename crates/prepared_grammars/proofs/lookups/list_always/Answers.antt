use Rattle.std.proofs.Common.{arith, [], map, subst, sym}
use Rattle.std.specs.Prelude.{IsFalse}
use Rattle.std.proofs.lemmas.List.{length-map}
use Rattle.language_model.specs.Building.{LexemeRow}
use Rattle.dsl_build.specs.Tables.{row_of}
use Rattle.prepared_grammars.specs.Gathered.{Gathers}
use Rattle.prepared_grammars.proofs.Gathering.{gathers_none, gathers_more, gathers_all}
use Rattle.prepared_grammars.proofs.Finding.{row_there}
use Rattle.prepared_grammars.proofs.lookups.list_always.Goals as goal

pub loop-row-init : goal.loop-row-init
loop-row-init c = subst (Gathers (λ (l : LexemeRow). IsFalse l.latm) (λ (l : LexemeRow). l.start) []) (sym c.new-always.ensures.items) (gathers_none (λ (l : LexemeRow). IsFalse l.latm) (λ (l : LexemeRow). l.start))

pub loop-row-preserved : goal.loop-row-preserved
loop-row-preserved c =
    let (lt, is) = row_there c.args.rows.now c.loop-row.row-index c.row-item.result (omega arith) c.row-item.is in
    gathers_more (λ (l : LexemeRow). IsFalse l.latm) (λ (l : LexemeRow). l.start) (map row_of c.args.rows.now) c.loop-row.row-index (row_of c.row-item.result) c.loop-row.always.items c.add_always.new.always.items lt is c.loop-row.invariant c.in_ok-add_always.ensures

pub returns : goal.returns
returns c =
    let long = length-map c.args.rows.now row_of in
    let end = c.loop-row-test.false in
    gathers_all (λ (l : LexemeRow). IsFalse l.latm) (λ (l : LexemeRow). l.start) (map row_of c.args.rows.now) c.loop-row.row-index c.loop-row.always.items (omega arith) c.loop-row.invariant
