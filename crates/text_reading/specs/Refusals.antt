-- What is known of a refusal: it tells the definition's text, and the place of what it tells of. The cases are those of the run.
use Rattle.std.specs.Prelude.{◌≡◌, ℕ, List, [], Option, Some, None, ⊤, take, chars}
use Rattle.outside_model.specs.Places.{line_after, column_after}
use Rattle.grammar_model.specs.declared.Ranking.{Ranking}
use Rattle.language_model.specs.Building.{Built, BuildFault, BadAdverb, RepeatedAdverb, LexemeNotDefined, InBoth, NotALexeme, BadClass, TwoStarts, NumberRange, TooLong}
use Rattle.reading_model.specs.Reading.{Piece, End, IsReadingWith, AreExpected}
use Rattle.run_model.specs.Texts as texts
use Rattle.run_model.specs.Texts.{TextFault}
use Rattle.run_model.specs.Refused.{IsRefused, ByText, ByDescription, ByGrammars}
use Rattle.run_model.specs.Inputs.{IsInputRefused, TooLong as InputTooLong, NotUtf8, ReadingStops}
use Rattle.run_model.specs.Listing.{AreDerivations}
use Rattle.run_model.specs.Telling.{no_derivation_text}
use Rattle.text_reading.specs.declared.refusal.Place.{Place}
use Rattle.text_reading.specs.declared.refusal.Refusal.{Refusal}
use Rattle.text_reading.specs.declared.refusal.Refusal.TheVariants.{Grammar, Input, NoMemory}

-- the line and the column of a place among characters
abbrev pub place_in : List ℕ → ℕ → Place
place_in cs at = record { line = line_after (take at cs); column = column_after (take at cs) }

-- P holds of what is told of a grammar, or there is no memory
abbrev pub TellsGrammar : (List ℕ → Option Place → Type 0) → Refusal → Type 0
TellsGrammar P (Grammar text place) = P text.items place
TellsGrammar P (Input text place expected) = ⊥
TellsGrammar P NoMemory = ⊤

-- P holds of what is told of an input, or there is no memory
abbrev pub TellsInput : (List ℕ → Option Place → List ℕ → Type 0) → Refusal → Type 0
TellsInput P (Grammar text place) = ⊥
TellsInput P (Input text place expected) = P text.items place expected.items
TellsInput P NoMemory = ⊤

-- THE GRAMMAR

abbrev pub fault_at : BuildFault → ℕ
fault_at (BadAdverb f) = f.at
fault_at (RepeatedAdverb f) = f.at
fault_at (LexemeNotDefined f) = f.at
fault_at (InBoth f) = f.at
fault_at (NotALexeme f) = f.at
fault_at (BadClass f) = f.at
fault_at (TwoStarts f) = f.at
fault_at (NumberRange f) = f.at
fault_at (TooLong f) = f.at

-- where the characters are no grammar, if the fault has a place among them
abbrev pub text_place : List ℕ → TextFault → Option Place
text_place cs texts.TooLong = None
text_place cs (texts.NotUtf8 at) = None
text_place cs (texts.BadToken at) = Some (place_in cs at)
text_place cs (texts.BadStatement at) = Some (place_in cs at)

-- the place of the fault for which the bytes are refused
abbrev pub refused_place : {bytes text : List ℕ} → IsRefused bytes text → Option Place
refused_place {bytes} {text} (ByText fault has told) = text_place (chars bytes) fault
refused_place {bytes} {text} (ByDescription d has fault others faults told) = Some (place_in (chars bytes) (fault_at fault))
refused_place {bytes} {text} (ByGrammars d has b built fault of told) = None

-- the bytes are refused with this text, for a fault at this place
pub record IsRefusedAt (bytes text : List ℕ) (place : Option Place) : Type 0 where
  pub refused : IsRefused bytes text
  pub place_is : place ≡ refused_place refused

-- THE INPUT

-- where reading stops, if it does, and what could come there
abbrev pub stop_place : {b : Built} {given bytes text : List ℕ} → IsInputRefused b given bytes text → Option Place
stop_place {b} {given} {bytes} {text} (InputTooLong long told) = None
stop_place {b} {given} {bytes} {text} (NotUtf8 at broken told) = None
stop_place {b} {given} {bytes} {text} (ReadingStops pieces at found expected is reading told) = Some (place_in (chars bytes) at)

abbrev pub stop_expected : {b : Built} {given bytes text : List ℕ} → IsInputRefused b given bytes text → List ℕ
stop_expected {b} {given} {bytes} {text} (InputTooLong long told) = []
stop_expected {b} {given} {bytes} {text} (NotUtf8 at broken told) = []
stop_expected {b} {given} {bytes} {text} (ReadingStops pieces at found expected is reading told) = expected

-- the bytes are not read to their end, with these lexemes given, as this text tells
pub record IsInputRefusedAt (b : Built) (given bytes text : List ℕ) (place : Option Place) (expected : List ℕ) : Type 0 where
  pub refused : IsInputRefused b given bytes text
  pub place_is : place ≡ stop_place refused
  pub expected_is : expected ≡ stop_expected refused

-- the characters are read to their end, with these lexemes given, and have no derivation
pub record IsNoDerivation (b : Built) (given : List ℕ) (ranking : Ranking) (cs text : List ℕ) (place : Option Place) (expected : List ℕ) : Type 0 where
  pub pieces : List Piece
  pub reading : IsReadingWith b given cs pieces End
  pub none : AreDerivations b ranking pieces []
  pub are : AreExpected b pieces expected
  pub told : text ≡ no_derivation_text b.g1 expected
  pub place_is : place ≡ None
