use Rattle.std.proofs.Common.{ℕ, List, length, sym, subst}
use Rattle.recognizer_model.specs.declared.thread.Thread.{Thread}
use Rattle.threads.specs.Lists.{list_at, AreThreads}
use Rattle.threads.specs.Steps.{IsNext, IsReadBy}
use Rattle.lexer.proofs.Machines.{made_parts, made_rows, made_step, made_next}
use Rattle.lexer.proofs.machine.make.Goals as goal

pub next_row-requires-clause-row : goal.next_row-requires-clause-row
next_row-requires-clause-row c = subst (AreThreads c.args.machine.now.flat.now (length c.args.machine.now.parts)) (sym c.list.ensures) (c.requires.is.rows c.args.state)

pub add_row-requires-clause-row : goal.add_row-requires-clause-row
add_row-requires-clause-row c = λ th h. (c.in_ok-next_row.ensures.threads th h).is_rule

pub returns-in_err-next_row-clause-goes : goal.returns-in_err-next_row-clause-goes
returns-in_err-next_row-clause-goes c = made_parts c.args.machine.now c.requires.is c.next_row.new.parts c.in_err-next_row.ensures.grown c.in_err-next_row.ensures.parts

pub returns-in_err-to-clause-goes : goal.returns-in_err-to-clause-goes
returns-in_err-to-clause-goes c =
    made_rows c.args.machine.now c.requires.is c.next_row.new.parts c.in_ok-next_row.ensures.grown c.in_ok-next_row.ensures.parts c.add_row.new.rows c.add_row.new.kinds c.next_row.new.new.items
    c.in_ok-next_row.ensures.threads c.in_err-to.ensures.added c.in_err-to.ensures.kinds

pub returns-in_err-note-clause-goes : goal.returns-in_err-note-clause-goes
returns-in_err-note-clause-goes c =
    let m = c.args.machine.now in
    let row = c.next_row.new.new.items in
    let step = subst (λ (ts : List ℕ). (set : List Thread) × IsNext m.flat.now c.next_row.new.parts (IsReadBy m.flat.now ts) (list_at m.rows c.args.state) set row) c.terminals.ensures
    (subst (λ (r : List Thread). (set : List Thread) × IsNext m.flat.now c.next_row.new.parts (IsReadBy m.flat.now c.terminals.result.now) r set row) c.list.ensures c.in_ok-next_row.ensures.steps) in
    made_next m c.requires.is c.next_row.new.parts c.in_ok-next_row.ensures.grown c.in_ok-next_row.ensures.parts c.add_row.new.rows c.add_row.new.kinds row
    c.in_ok-next_row.ensures.threads c.in_ok-to.ensures.added c.in_ok-to.ensures.kinds c.args.state c.args.class c.in_ok-to.to c.requires.state c.requires.class c.in_ok-to.ensures.found c.in_ok-to.ensures.list step c.note.new.next c.in_err-note.ensures

pub returns-clause-goes : goal.returns-clause-goes
returns-clause-goes c =
    let m = c.args.machine.now in
    let row = c.next_row.new.new.items in
    let step = subst (λ (ts : List ℕ). (set : List Thread) × IsNext m.flat.now c.next_row.new.parts (IsReadBy m.flat.now ts) (list_at m.rows c.args.state) set row) c.terminals.ensures
    (subst (λ (r : List Thread). (set : List Thread) × IsNext m.flat.now c.next_row.new.parts (IsReadBy m.flat.now c.terminals.result.now) r set row) c.list.ensures c.in_ok-next_row.ensures.steps) in
    made_next m c.requires.is c.next_row.new.parts c.in_ok-next_row.ensures.grown c.in_ok-next_row.ensures.parts c.add_row.new.rows c.add_row.new.kinds row
    c.in_ok-next_row.ensures.threads c.in_ok-to.ensures.added c.in_ok-to.ensures.kinds c.args.state c.args.class c.in_ok-to.to c.requires.state c.requires.class c.in_ok-to.ensures.found c.in_ok-to.ensures.list step c.note.new.next c.in_ok-note.ensures

pub returns-clause-steps : goal.returns-clause-steps
returns-clause-steps c =
    let m = c.args.machine.now in
    let row = c.next_row.new.new.items in
    let step = subst (λ (ts : List ℕ). (set : List Thread) × IsNext m.flat.now c.next_row.new.parts (IsReadBy m.flat.now ts) (list_at m.rows c.args.state) set row) c.terminals.ensures
    (subst (λ (r : List Thread). (set : List Thread) × IsNext m.flat.now c.next_row.new.parts (IsReadBy m.flat.now c.terminals.result.now) r set row) c.list.ensures c.in_ok-next_row.ensures.steps) in
    made_step m c.requires.is c.next_row.new.parts c.in_ok-next_row.ensures.grown c.in_ok-next_row.ensures.parts c.add_row.new.rows c.add_row.new.kinds row
    c.in_ok-next_row.ensures.threads c.in_ok-to.ensures.added c.in_ok-to.ensures.kinds c.args.state c.args.class c.in_ok-to.to c.requires.state c.requires.class c.in_ok-to.ensures.found c.in_ok-to.ensures.list step
