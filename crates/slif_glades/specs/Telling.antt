-- What is written of an input by a grammar, and why the work stops.
use Rattle.std.specs.Prelude.{◌≡◌, ℕ, ◌⊎◌, Bool, true, false, List, [], Option}
use Rattle.std.specs.Io.KnownBytes.{Appends}
use Rattle.outside_model.specs.Causes.{Rose}
use Rattle.outside_model.specs.Told.{AppendsPrefix}
use Rattle.grammar_model.specs.Grammar.{Grammar}
use Rattle.grammar_model.specs.declared.Ranking.TheVariants.{Rule}
use Rattle.language_model.specs.Building.{Built}
use Rattle.glade_model.specs.Glades.{Glade}
use Rattle.glade_groups.specs.Groups.{AreMarks, AreSingle}
use Rattle.run_model.specs.Refused.{Accepted}
use Rattle.run_model.specs.Outside.{Stream}
use Rattle.text_reading.specs.Refusals.{IsRefusedAt, IsInputRefusedAt, IsNoDerivation}
use Rattle.slif_parser.specs.declared.error.ParseError.{ParseError}
use Rattle.slif_parser.specs.declared.error.ParseError.TheVariants.{Grammar as OfGrammar, Input as OfInput, NoMemory as NoRoomToTell}
use Rattle.slif_parser.specs.Errors.{TellsGrammar, TellsInput}
use Rattle.slif_parser.specs.Views.{Read, ForestOf}
use Rattle.slif_parser.specs.Readings.{IsReadAs, IsForestAs, AreGladesOf}
use Rattle.slif_glades.specs.declared.stop.Stop.{Stop}
use Rattle.slif_glades.specs.declared.stop.Stop.TheVariants.{Usage, Parse, OpenFault, ReadFault, WriteFault, NoMemory}
use Rattle.slif_glades.specs.Told.{told_text}

-- each glade has its mark, or one of each kind
abbrev pub AreMarked : (all : Bool) → List Glade → (marks : List (Option ℕ)) → Type 0
AreMarked true = AreSingle
AreMarked false = AreMarks

-- the text tells the glades of the report that have a mark
pub record IsTold (all : Bool) (g : Grammar) (r : Read) (text : List ℕ) : Type 0 where
  pub glades : List Glade
  pub report : AreGladesOf r glades
  pub marks : List (Option ℕ)
  pub marked : AreMarked all glades marks
  pub is : text ≡ told_text g r glades marks

-- of what is read, of which there is a derivation
abbrev pub IsToldOfReading : (all : Bool) → Grammar → Read → (text : List ℕ) → Type 0
IsToldOfReading all g r text = (f : ForestOf) × IsForestAs r Rule f × IsTold all g r text

abbrev pub IsToldOfInput : (all : Bool) → Built → (input text : List ℕ) → Type 0
IsToldOfInput all b input text = (r : Read) × IsReadAs b [] input r × IsToldOfReading all b.g1 r text

-- the one text that has P
pub record IsOnly (P : List ℕ → Type 0) (text : List ℕ) : Type 0 where
  pub has : P text
  pub only : (other : List ℕ) → P other → other ≡ text

-- the one text that tells the glades of an input that is read to its end, by a grammar that is accepted
abbrev pub IsToldOf : (all : Bool) (grammar input text : List ℕ) → Type 0
IsToldOf all grammar input text = (b : Built) × Accepted grammar b × IsOnly (IsToldOfInput all b input) text

-- REFUSALS

abbrev pub IsReadingRefused : Read → ParseError → Type 0
IsReadingRefused r = TellsInput (IsNoDerivation r.grammar r.lexemes Rule r.characters)

-- the error tells why the input is not read to its end, or that what is read has no derivation
abbrev pub IsInputRefused : Built → (input : List ℕ) → ParseError → Type 0
IsInputRefused b input error = TellsInput (IsInputRefusedAt b [] input) error ⊎ ((r : Read) × IsReadAs b [] input r × IsReadingRefused r error)

-- the error tells why the grammar is refused, or else the input
abbrev pub IsRefused : (grammar input : List ℕ) → ParseError → Type 0
IsRefused grammar input error = TellsGrammar (IsRefusedAt grammar) error ⊎ ((b : Built) × Accepted grammar b × IsInputRefused b input error)

-- WHAT IS WRITTEN

-- a text that has P was written
pub record Writes (P : List ℕ → Type 0) (before after : Option (List ℕ)) : Type 0 where
  pub text : List ℕ
  pub has : P text
  pub appends : Appends before after text

-- nothing was written, or a prefix of a text that has P
pub data WritesPart (P : List ℕ → Type 0) (before after : Option (List ℕ)) : Type 0 where
  Nothing : Appends before after [] → WritesPart P before after
  Part : (text : List ℕ) → P text → AppendsPrefix before after text → WritesPart P before after

-- the status that the program ends with
abbrev pub status_of : Stop → ℕ
status_of (Parse (OfInput message place expected)) = 1
status_of Usage = 2
status_of (Parse (OfGrammar message place)) = 3
status_of OpenFault = 4
status_of ReadFault = 4
status_of WriteFault = 4
status_of (Parse NoRoomToTell) = 5
status_of NoMemory = 5

-- what is so of a stop, by its kind: of an error, of a write that failed, and where there is no memory
abbrev pub StopsBy : (Refuses : ParseError → Type 0) (Unwritten NoRoom : Type 0) → Stop → Type 0
StopsBy Refuses Unwritten NoRoom Usage = ⊥
StopsBy Refuses Unwritten NoRoom (Parse error) = Refuses error
StopsBy Refuses Unwritten NoRoom OpenFault = ⊥
StopsBy Refuses Unwritten NoRoom ReadFault = ⊥
StopsBy Refuses Unwritten NoRoom WriteFault = Unwritten
StopsBy Refuses Unwritten NoRoom NoMemory = NoRoom

-- nothing was written where an error tells why; otherwise a part, where a write failed, which raised the count of faults, or memory ran out
abbrev pub Stops : (P : List ℕ → Type 0) (Refuses : ParseError → Type 0) → Stream → Stream → Stop → Type 0
Stops P Refuses before after =
    StopsBy (λ error. Refuses error × Appends before.bytes after.bytes []) (Rose before.faults after.faults × WritesPart P before.bytes after.bytes) (WritesPart P before.bytes after.bytes)

-- a text was not all written
abbrev pub TextStops : (text : List ℕ) → Stream → Stream → Stop → Type 0
TextStops text before after =
    StopsBy (λ error. ⊥) (Rose before.faults after.faults × AppendsPrefix before.bytes after.bytes text) (AppendsPrefix before.bytes after.bytes text)
