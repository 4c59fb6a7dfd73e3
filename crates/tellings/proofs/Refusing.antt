-- How the work stops where an input is refused.
use Rattle.std.proofs.Common.{ℕ, List, Option}
use Rattle.slif_base.proofs.Bytes.{appends_none}
use Rattle.run_model.specs.Outcome.{Outcome, refused}
use Rattle.run_model.specs.Outside.{Stream}
use Rattle.text_reading.specs.declared.refusal.Place.{Place}
use Rattle.text_reading.specs.declared.refusal.Refusal.{Refusal}
use Rattle.text_reading.specs.declared.refusal.Refusal.TheVariants.{Grammar, Input, NoMemory}
use Rattle.text_reading.specs.Refusals.{TellsInput}
use Rattle.tellings.specs.Refusals.{stop_for}
use Rattle.tellings.specs.Stops.{WriteStops}
use Rattle.tellings.proofs.Stopping.{nothing_appended}

-- the input is refused, and nothing was written
pub input_stops_for : (P : List ℕ → Option Place → List ℕ → Type 0) (Q : Outcome → Type 0) → ((text : List ℕ) (place : Option Place) (expected : List ℕ) → P text place expected → Q (refused 1 text))
    → (out : Stream) (r : Refusal) → TellsInput P r → WriteStops Q out out (stop_for r)
input_stops_for P Q f out (Grammar text place) tells = absurd tells
input_stops_for P Q f out (Input text place expected) tells = (f text.items place expected.items tells, appends_none out.bytes)
input_stops_for P Q f out NoMemory tells = nothing_appended Q out.bytes
