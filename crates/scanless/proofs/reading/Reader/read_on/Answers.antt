use Rattle.std.proofs.Common.{◌≡◌, ◌≤◌, ◌+◌, arith, length, List, Some, sym, subst, ◌∙◌}
use Rattle.finite_sets.proofs.Clauses.{at_some}
use Rattle.reading_model.specs.Reading.{Piece}
use Rattle.earley_sets.specs.Recognizer.{earleme_of}
use Rattle.scanless.specs.Reading.{ReadSoFar, HoldsPieces, IsReader, StopsWith, ComesToRest}
use Rattle.scanless.proofs.Results.{is_none}
use Rattle.scanless.proofs.Steps.{goes_through, comes_to_end, comes_to_stop}
use Rattle.scanless.proofs.reading.Reader.read_on.Goals as goal

pub returns-in-Some-clause-rests : goal.returns-in-Some-clause-rests
returns-in-Some-clause-rests g c = λ given pieces read.
    let old = c.loop-self.self in
    let goes = c.loop-self.invariant.moves given pieces read in
    let stops = at_some (λ f. (c.step.new.self ≡ old) × ((pieces : List Piece) → HoldsPieces old.grammar pieces old.recce → StopsWith old.grammar c.args.chars.now pieces old.at f.items)) c.in_ok-found.field-0 c.in-Some.found c.in-Some.is c.in_ok-found.ensures.stops in
    subst (λ r. ComesToRest given c.args.chars.now pieces c.args.self.now r (Some c.in-Some.found)) (sym stops.0)
    (comes_to_stop given c.args.chars.now pieces c.args.self.now old c.in-Some.found goes (stops.1 goes.pieces goes.has_read.holds))

pub loop-self-preserved : goal.loop-self-preserved
loop-self-preserved g c =
    let none = is_none c.in_ok-found.field-0 c.in_default.is in
    let i = c.loop-self.invariant in
    let moves = c.in_ok-found.ensures.moves none in
    let room = c.in_ok-found.ensures.room none in
    record {
      grammar = c.step.ensures.grammar ∙ i.grammar;
      reader = (
        i.reader.0,
        let goes = moves i.reader.0 i.reader.1.pieces i.reader.1.has_read in
            let reader : IsReader i.reader.0 c.args.chars.now c.step.new.self = record { pieces = goes.pieces; has_read = goes.has_read } in
            reader,
      );
      moves = λ given pieces read.
          let goes = i.moves given pieces read in goes_through given c.args.chars.now pieces c.args.self.now c.loop-self.self c.step.new.self goes (moves given goes.pieces goes.has_read);
      room = let before = i.room in let more = room.1 in let le : earleme_of c.step.new.self.recce + c.args.self.now.at ≤ earleme_of c.args.self.now.recce + c.step.new.self.at = omega (arith, before, more) in le;
      counted = λ before counts. c.in_ok-found.ensures.counted before (i.counted before counts);
    }

pub returns-clause-rests : goal.returns-clause-rests
returns-clause-rests g c = λ given pieces read.
    let all : length c.args.chars.now ≤ c.self.inside.at = omega (arith, c.len.ensures, c.loop-self-test.false) in
    comes_to_end given c.args.chars.now pieces c.args.self.now c.loop-self.self (c.loop-self.invariant.moves given pieces read) (subst (λ (r : ReadSoFar). length c.args.chars.now ≤ r.at) c.self.view_is all)
