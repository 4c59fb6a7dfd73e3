-- How the work stops where a grammar is refused.
use Rattle.std.proofs.Common.{◌≡◌, ℕ, ◌<◌, List, length, codes}
use Rattle.grammar_model.specs.declared.limits.TheConstants.{LONGEST_GRAMMAR}
use Rattle.outside_model.specs.Told.{ToldFile, MayHold, FileHolds}
use Rattle.run_model.specs.Texts.{TooLong}
use Rattle.run_model.specs.Refused.{IsRefused, ByText}
use Rattle.run_model.specs.Outcome.{refused}
use Rattle.text_reading.specs.declared.refusal.Refusal.{Refusal}
use Rattle.text_reading.specs.declared.refusal.Refusal.TheVariants.{Grammar, Input, NoMemory}
use Rattle.text_reading.specs.Refusals.{TellsGrammar, IsRefusedAt}
use Rattle.tellings.specs.Refusals.{stop_for}
use Rattle.slif_cli.specs.Stops.{LoadStops}

-- the bytes of the file are refused as a grammar
pub load_stops_for : (name : List ℕ) (told : ToldFile) (Files : Type 0) (bytes : List ℕ) → MayHold told bytes → (r : Refusal) → TellsGrammar (IsRefusedAt bytes) r → LoadStops name told Files (stop_for r)
load_stops_for name told Files bytes held (Grammar text place) tells = record { bytes = bytes; may_hold = held; holds = tells.refused }
load_stops_for name told Files bytes held (Input text place expected) tells = absurd tells
load_stops_for name told Files bytes held NoMemory tells = tt

pub too_long_text : (told : ToldFile) (text : List ℕ) → FileHolds told (λ bytes. LONGEST_GRAMMAR < length bytes) → text ≡ codes "grammar: longer than 1048576 bytes" → FileHolds told (λ bytes. IsRefused bytes text)
too_long_text told text held is = record { bytes = held.bytes; may_hold = held.may_hold; holds = ByText TooLong held.holds is }
