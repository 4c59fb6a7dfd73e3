use Rattle.std.proofs.Common.{refl}
use Rattle.threads.proofs.Parts.{grown_same, grown_added}
use Rattle.lexer.proofs.Machines.{with_rows, made_same, begun_rows, begun_at, begun_begins}
use Rattle.lexer.proofs.machine.begin.Goals as goal

pub returns-in-Some-clause-goes : goal.returns-in-Some-clause-goes
returns-in-Some-clause-goes c = made_same c.args.machine.now c.requires.is

pub returns-in-Some-clause-there : goal.returns-in-Some-clause-there
returns-in-Some-clause-there c = (c.requires.is.begins c.args.starts.now c.in-Some.state c.in-Some.ensures).0

pub returns-in-Some-clause-begins : goal.returns-in-Some-clause-begins
returns-in-Some-clause-begins c = (c.requires.is.begins c.args.starts.now c.in-Some.state c.in-Some.ensures).1

pub add_row-requires-clause-row : goal.add_row-requires-clause-row
add_row-requires-clause-row c = λ th h. (c.in_ok-first_row.ensures.threads th h).is_rule

pub returns-in_err-first_row-clause-goes : goal.returns-in_err-first_row-clause-goes
returns-in_err-first_row-clause-goes c = made_same c.args.machine.now c.requires.is

pub returns-in_err-state-clause-goes : goal.returns-in_err-state-clause-goes
returns-in_err-state-clause-goes c =
    begun_rows c.args.machine.now c.requires.is c.add_row.new.rows c.add_row.new.kinds c.first_row.new.row.items c.in_ok-first_row.ensures.threads c.in_err-state.ensures.added c.in_err-state.ensures.kinds

pub returns-in_err-note-clause-goes : goal.returns-in_err-note-clause-goes
returns-in_err-note-clause-goes c =
    let m = c.args.machine.now in
    let is = c.requires.is in
    let row = c.first_row.new.row.items in
    let threads = c.in_ok-first_row.ensures.threads in
    let of = c.in_ok-state.ensures.kinds in
    let w = with_rows m is c.add_row.new.rows c.add_row.new.kinds row threads c.in_ok-state.ensures.added of in
    record {
      is = record {
        parts = w.parts;
        rows = w.rows;
        kinds = w.kinds;
        next = λ s k t lt h. (let n = w.next s k t lt h in record { from = n.from; by_class = n.by_class; to = n.to; steps = n.steps });
        begins = begun_begins m is c.add_row.new.rows c.add_row.new.kinds row threads c.in_ok-state.ensures.added of c.args.starts.now c.in_ok-state.state c.in_ok-state.ensures.found c.in_ok-state.ensures.list c.in_ok-first_row.ensures.begins c.note.new.self c.in_err-note.ensures;
      };
      form = refl;
      parts = grown_same m.parts;
      rows = grown_added m.rows c.add_row.new.rows row c.in_ok-state.ensures.added;
    }

pub returns-clause-goes : goal.returns-clause-goes
returns-clause-goes c =
    let m = c.args.machine.now in
    let is = c.requires.is in
    let row = c.first_row.new.row.items in
    let threads = c.in_ok-first_row.ensures.threads in
    let of = c.in_ok-state.ensures.kinds in
    let w = with_rows m is c.add_row.new.rows c.add_row.new.kinds row threads c.in_ok-state.ensures.added of in
    record {
      is = record {
        parts = w.parts;
        rows = w.rows;
        kinds = w.kinds;
        next = λ s k t lt h. (let n = w.next s k t lt h in record { from = n.from; by_class = n.by_class; to = n.to; steps = n.steps });
        begins = begun_begins m is c.add_row.new.rows c.add_row.new.kinds row threads c.in_ok-state.ensures.added of c.args.starts.now c.in_ok-state.state c.in_ok-state.ensures.found c.in_ok-state.ensures.list c.in_ok-first_row.ensures.begins c.note.new.self c.in_ok-note.ensures;
      };
      form = refl;
      parts = grown_same m.parts;
      rows = grown_added m.rows c.add_row.new.rows row c.in_ok-state.ensures.added;
    }

pub returns-clause-begins : goal.returns-clause-begins
returns-clause-begins c =
    begun_at c.args.machine.now c.requires.is c.add_row.new.rows c.add_row.new.kinds c.first_row.new.row.items c.in_ok-first_row.ensures.threads c.in_ok-state.ensures.added c.in_ok-state.ensures.kinds
    c.args.starts.now c.in_ok-state.state c.in_ok-state.ensures.found c.in_ok-state.ensures.list c.in_ok-first_row.ensures.begins
