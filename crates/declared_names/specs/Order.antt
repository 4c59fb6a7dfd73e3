-- A text whose names are in order, and why one is not.
use Rattle.std.specs.Prelude.{◌≡◌, ℕ, List, [], ◌∷◌}
use Rattle.grammar_model.specs.Trees.{Tree}
use Rattle.grammar_model.specs.declared.Ranking.TheVariants.{Rule}
use Rattle.language_model.specs.Building.{Built}
use Rattle.valuator.specs.Play.{tokens_of}
use Rattle.text_reading.specs.Refusals.{IsInputRefusedAt, IsNoDerivation, place_in}
use Rattle.slif_parser.specs.declared.error.ParseError.{ParseError}
use Rattle.slif_parser.specs.Errors.{TellsInput}
use Rattle.slif_parser.specs.Views.{Read, DerivationsOf}
use Rattle.slif_parser.specs.Readings.{IsReadAs, AreAll}
use Rattle.declared_names.specs.declared.fault.Fault.{Fault}
use Rattle.declared_names.specs.declared.fault.Fault.TheVariants as fault
use Rattle.declared_names.specs.declared.stop.Stop.{Stop}
use Rattle.declared_names.specs.declared.stop.Stop.TheVariants.{Parse, NotDeclared, DeclaredTwice, NoMemory}
use Rattle.declared_names.specs.Names.{Mention, mentions_of, AreDeclaredFirst, AreDeclaredOnce}
use Rattle.declared_names.specs.Faults.{IsFaultOf}

-- P holds of what the first derivation's statements do with names
pub record HasFirst (read : Read) (P : List Mention → Type 0) : Type 0 where
  pub derivations : DerivationsOf
  pub of : derivations.read ≡ read
  pub ranked : derivations.iteration.forest.ranking ≡ Rule
  pub first : Tree
  pub others : List Tree
  pub all : AreAll derivations (first ∷ others)
  pub holds : P (mentions_of (tokens_of read.characters read.spans) first)

-- the names of the first derivation have this fault, or memory ran out
abbrev pub IsFaultIn : Read → Fault → Type 0
IsFaultIn read fault.NoMemory = Unit {0}
IsFaultIn read f = HasFirst read (λ mentions. IsFaultOf mentions f)

abbrev pub AreInOrder : List Mention → Type 0
AreInOrder mentions = AreDeclaredFirst mentions × AreDeclaredOnce mentions

-- the text is read, and its names are in order
abbrev pub IsInOrder : Built → (bytes : List ℕ) → Type 0
IsInOrder b bytes = (read : Read) × IsReadAs b [] bytes read × HasFirst read AreInOrder

-- the fault, with the line and the column of its places
abbrev pub IsPlaced : (characters : List ℕ) → Fault → Stop → Type 0
IsPlaced cs (fault.NotDeclared name start) stop = stop ≡ NotDeclared name (place_in cs start)
IsPlaced cs (fault.DeclaredTwice name start first) stop = stop ≡ DeclaredTwice name (place_in cs start) (place_in cs first)
IsPlaced cs fault.NoMemory stop = stop ≡ NoMemory

-- there is no derivation, or the names of the first have a fault
pub data IsStopOfReading (read : Read) (stop : Stop) : Type 0 where
  OfDerivations : (error : ParseError) → stop ≡ Parse error → TellsInput (IsNoDerivation read.grammar read.lexemes Rule read.characters) error → IsStopOfReading read stop
  OfNames : (f : Fault) → IsFaultIn read f → IsPlaced read.characters f stop → IsStopOfReading read stop

-- the text is not read, or what is read is not in order
pub data IsStopOf (b : Built) (bytes : List ℕ) (stop : Stop) : Type 0 where
  OfInput : (error : ParseError) → stop ≡ Parse error → TellsInput (IsInputRefusedAt b [] bytes) error → IsStopOf b bytes stop
  OfReading : (read : Read) → IsReadAs b [] bytes read → IsStopOfReading read stop → IsStopOf b bytes stop
