-- The JSON of a text: that of its first derivation. And why a text has none.
use Rattle.std.specs.Prelude.{◌≡◌, ℕ, List, [], ◌∷◌, String, string_bytes}
use Rattle.std.specs.declared.alloc.Global.{Global}
use Rattle.grammar_model.specs.Trees.{Tree}
use Rattle.grammar_model.specs.declared.Ranking.TheVariants.{Rule}
use Rattle.language_model.specs.Building.{Built}
use Rattle.reading_model.specs.Reading.{Piece, End, IsReadingWith}
use Rattle.run_model.specs.Listing.{AreDerivations}
use Rattle.valuator.specs.Play.{tokens_of}
use Rattle.text_reading.specs.Refusals.{IsInputRefusedAt, IsNoDerivation}
use Rattle.slif_parser.specs.declared.error.ParseError.{ParseError}
use Rattle.slif_parser.specs.Errors.{TellsInput}
use Rattle.slif_parser.specs.Views.{Read}
use Rattle.slif_parser.specs.Readings.{IsReadAs}
use Rattle.ini_json.specs.Settings.{groups_of, part_at}
use Rattle.ini_json.specs.Json.{file_json}

-- the JSON of what the first derivation sets
pub record IsFirstJson (read : Read) (json : String Global) : Type 0 where
  pub pieces : List Piece
  pub reading : IsReadingWith read.grammar read.lexemes read.characters pieces End
  pub first : Tree
  pub others : List Tree
  pub all : AreDerivations read.grammar Rule pieces (first ∷ others)
  pub is : string_bytes json ≡ file_json (groups_of (part_at (tokens_of read.characters read.spans) first))

-- there is no derivation
abbrev pub IsNotDerived : Read → ParseError → Type 0
IsNotDerived read = TellsInput (IsNoDerivation read.grammar read.lexemes Rule read.characters)

-- the text is read, and the JSON is of it
abbrev pub IsJsonOf : Built → (bytes : List ℕ) → (json : String Global) → Type 0
IsJsonOf b bytes json = (read : Read) × IsReadAs b [] bytes read × IsFirstJson read json

-- the text is not read, or what is read has no derivation
pub data IsRefusalOf (b : Built) (bytes : List ℕ) (e : ParseError) : Type 0 where
  OfInput : TellsInput (IsInputRefusedAt b [] bytes) e → IsRefusalOf b bytes e
  OfReading : (read : Read) → IsReadAs b [] bytes read → IsNotDerived read e → IsRefusalOf b bytes e
