use Rattle.std.proofs.Common.{◌≡◌, ℕ, ◌+◌, ◌-◌, ◌≤◌, List, length}
use Rattle.reading_model.specs.Reading.{Piece}
use Rattle.earley_sets.specs.Recognizer.{earleme_of}
use Rattle.earley_sets.specs.Counted.{CountsFrom}
use Rattle.scanless.specs.Reading.{HasRead, IsReader, GoesOn}
use Rattle.scanless.proofs.reading.Reader.read_on.Given as goal

abbrev pub invariant-loop-self : goal.invariant-loop-self
invariant-loop-self g l = record {
  grammar : l.self.grammar ≡ l.initial.self.grammar;
  reader : (given : List ℕ) × IsReader given l.chars l.self;
  moves : (given : List ℕ) (pieces : List Piece) → HasRead l.initial.self.grammar given l.chars pieces l.initial.self.at l.initial.self.recce l.initial.self.spans → GoesOn given l.chars pieces l.initial.self l.self;
  room : earleme_of l.self.recce + l.initial.self.at ≤ earleme_of l.initial.self.recce + l.self.at;
  counted : (before : ℕ) → CountsFrom l.initial.self.recce before l.initial.steps → CountsFrom l.self.recce before l.steps;
}

abbrev pub decreases-loop-self : goal.decreases-loop-self
decreases-loop-self g l = length l.chars - l.self.at
