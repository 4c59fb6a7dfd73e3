-- Why the bytes of a grammar say nothing: a fault, which is told in one line.
use Rattle.std.specs.Prelude.{ℕ, ◌≤◌, ◌<◌, ◌++◌, List, length, take, chars, codes, decimal, IsUtf8}
use Rattle.std.specs.Str.{IsValidUpTo}
use Rattle.grammar_model.specs.declared.limits.TheConstants.{LONGEST_GRAMMAR}
use Rattle.outside_model.specs.Places.{line_after, column_after}
use Rattle.language_model.specs.declared.token.Token.{Token}
use Rattle.language_model.specs.Tokens.{IsBadPlace}
use Rattle.language_model.specs.Description.{IsBadStatement}
use Rattle.language_model.specs.Texts.{IsText, HasTokens, spelled}

-- why there is none, with the place, in bytes or in characters
pub data TextFault : Type 0 where
  TooLong : TextFault
  NotUtf8 : (at : ℕ) → TextFault
  BadToken : (at : ℕ) → TextFault
  BadStatement : (at : ℕ) → TextFault

-- the first so many bytes are the longest prefix that is UTF-8
pub record IsBroken (bytes : List ℕ) (at : ℕ) : Type 0 where
  pub within : length bytes ≤ LONGEST_GRAMMAR
  pub broken : ¬ (IsUtf8 bytes)
  pub prefix : IsValidUpTo bytes at

pub record HasBadToken (bytes : List ℕ) (at : ℕ) : Type 0 where
  pub text : IsText bytes
  pub bad : IsBadPlace (chars bytes) at

pub record HasBadStatement (bytes : List ℕ) (at : ℕ) : Type 0 where
  pub tokens : List Token
  pub has : HasTokens bytes tokens
  pub bad : IsBadStatement (spelled bytes tokens) at

abbrev pub HasFault : List ℕ → TextFault → Type 0
HasFault bytes TooLong = LONGEST_GRAMMAR < length bytes
HasFault bytes (NotUtf8 at) = IsBroken bytes at
HasFault bytes (BadToken at) = HasBadToken bytes at
HasFault bytes (BadStatement at) = HasBadStatement bytes at

-- a place is told by its line and its column
abbrev pub place_text : List ℕ → ℕ → List ℕ
place_text cs at = codes "line " ++ decimal (line_after (take at cs)) ++ codes " column " ++ decimal (column_after (take at cs))

abbrev pub fault_text : List ℕ → TextFault → List ℕ
fault_text bytes TooLong = codes "grammar: longer than 1048576 bytes"
fault_text bytes (NotUtf8 at) = codes "grammar: not UTF-8 at byte " ++ decimal at
fault_text bytes (BadToken at) = codes "grammar: bad token at " ++ place_text (chars bytes) at
fault_text bytes (BadStatement at) = codes "grammar: bad statement at " ++ place_text (chars bytes) at
