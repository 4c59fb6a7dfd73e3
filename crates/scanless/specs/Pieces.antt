-- What can be taken at a place of a text, as a program looks for it.
use Rattle.std.specs.Prelude.{◌≡◌, ℕ, ◌+◌, ◌<◌, ◌≤◌, ◌≤ℤ◌, ◌↔◌, List, length, Option, Some, None, Contains, slice_get}
use Rattle.recognizer_model.specs.FlatForm.{IsFlatOf}
use Rattle.recognizer_model.specs.Invariant.{IsFlat}
use Rattle.language_model.specs.Building.{Built, LexemeRow}
use Rattle.reading_model.specs.Accepted.{IsLexical}
use Rattle.reading_model.specs.Matches.{Matches}
use Rattle.reading_model.specs.Reading.{Piece, IsCandidate, IsLongest}
use Rattle.dsl_build.specs.declared.built.LexemeRow.{LexemeRow as HeldRow}
use Rattle.earley_sets.specs.Recognizer.{Recognizer, IsExpected}
use Rattle.lexer.specs.Lexical.{LexicalForm}

-- the start of each row is its place
abbrev pub ArePlaced : List HeldRow → Type 0
ArePlaced rows = (k : ℕ) (r : HeldRow) → slice_get rows k ≡ Some r → r.start ≡ k

-- the only row of a start
abbrev pub IsRowAt : List HeldRow → ℕ → HeldRow → Type 0
IsRowAt rows start r = Contains rows r × (r.start ≡ start) × ((other : HeldRow) → Contains rows other → other.start ≡ start → other ≡ r)

-- a lexer for the lexical grammar, where there is a lexeme or a discard
abbrev pub IsLexerOf : Built → Option LexicalForm → Type 0
IsLexerOf b None = IsLexical b → ⊥
IsLexerOf b (Some l) = IsLexical b × IsFlat l.flat × IsFlatOf l.flat b.l0 × (l.sets ≡ b.sets)

abbrev pub AreCandidates : Built → List Piece → List ℕ → Type 0
AreCandidates b pieces starts = (start : ℕ) → Contains starts start ↔ IsCandidate b pieces start

-- the length of the longest match, and just the candidates that have it
pub record IsLongestBy (b : Built) (text : List ℕ) (pieces : List Piece) (at n : ℕ) (matched : List ℕ) : Type 0 where
  pub longest : IsLongest b text pieces at n
  pub exact : (start : ℕ) → Contains matched start ↔ (IsCandidate b pieces start × Matches b text start at (at + n))

-- each symbol is that of a lexeme
abbrev pub AreLexemes : Built → List ℕ → Type 0
AreLexemes b symbols = (s : ℕ) → Contains symbols s → (l : LexemeRow) × Contains b.lexemes l × (l.symbol ≡ s)

-- the greatest length that one of the starts matches, which is not nothing, and all of them that match it
pub record AreMatched (b : Built) (text : List ℕ) (at : ℕ) (starts : List ℕ) (n : ℕ) (matched : List ℕ) : Type 0 where
  pub some : 0 < n
  pub found : 0 < length matched
  pub exact : (k : ℕ) → Contains matched k ↔ (Contains starts k × Matches b text k at (at + n))
  pub longest : (k m : ℕ) → Contains starts k → Matches b text k at (at + m) → m ≤ n

-- a row of the highest priority of those that have P, if there are some
abbrev pub IsHighestOf : (HeldRow → Type 0) → List HeldRow → Option HeldRow → Type 0
IsHighestOf P rows None = (r : HeldRow) → Contains rows r → P r → ⊥
IsHighestOf P rows (Some h) = Contains rows h × P h × ((r : HeldRow) → Contains rows r → P r → r.priority ≤ℤ h.priority)

-- the row's start is one of these and its symbol expected
abbrev pub IsFit : Recognizer → List ℕ → HeldRow → Type 0
IsFit recce starts r = Contains starts r.start × IsExpected recce r.symbol

-- it also has the priority of the highest
abbrev pub IsBest : Recognizer → List ℕ → (highest : HeldRow) → HeldRow → Type 0
IsBest recce starts highest r = IsFit recce starts r × (r.priority ≡ highest.priority)
