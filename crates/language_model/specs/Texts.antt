-- What a grammar's bytes say: the characters, the tokens and the description of a text, and what is built of it.
use Rattle.std.specs.Prelude.{◌≡◌, ℕ, ◌≤◌, List, [], length, map, chars, IsUtf8}
use Rattle.grammar_model.specs.declared.limits.TheConstants.{LONGEST_GRAMMAR}
use Rattle.language_model.specs.declared.token.Token.{Token}
use Rattle.language_model.specs.Tokens.{Spelled, AreTokens, spelled_at}
use Rattle.language_model.specs.Description.{Statement, Describes}
use Rattle.language_model.specs.Building.{Built, faults_of, built_of}

-- the bytes are those of a text, and not too many
pub record IsText (bytes : List ℕ) : Type 0 where
  pub within : length bytes ≤ LONGEST_GRAMMAR
  pub utf8 : IsUtf8 bytes

-- the text has these tokens
pub record HasTokens (bytes : List ℕ) (tokens : List Token) : Type 0 where
  pub text : IsText bytes
  pub are : AreTokens (chars bytes) tokens

-- what the tokens say
abbrev pub spelled : List ℕ → List Token → List Spelled
spelled bytes tokens = map (spelled_at (chars bytes)) tokens

-- the text has this description
pub record HasDescription (bytes : List ℕ) (d : List Statement) : Type 0 where
  pub tokens : List Token
  pub has : HasTokens bytes tokens
  pub described : Describes d (spelled bytes tokens)

-- the statements are those of some text
abbrev pub IsDescription : List Statement → Type 0
IsDescription d = (bytes : List ℕ) × HasDescription bytes d

-- the grammars and tables of the statements, which have no fault
pub record IsBuiltOf (d : List Statement) (b : Built) : Type 0 where
  pub described : IsDescription d
  pub faultless : faults_of d ≡ []
  pub is : b ≡ built_of d

-- the grammars and tables of some text
abbrev pub IsBuilt : Built → Type 0
IsBuilt b = (d : List Statement) × IsBuiltOf d b
