-- How a text is read: it is cut into pieces from the left. A piece is a token, with one edge for each lexeme that is kept, or it
-- is skipped. Of what could come next the longest match decides, then the priority of acceptable lexemes.
-- Source: longest acceptable tokens matching of the Marpa::R2 SLIF DSL manual; the rule for lexemes that are looked for whether
-- acceptable or not is our own.
use Rattle.std.specs.Prelude.{◌≡◌, ℕ, zero, suc, ◌+◌, ◌<◌, ◌≤◌, ◌⊎◌, ◌↔◌, List, [], ◌∷◌, ◌++◌, length, map, IsFalse, Contains, ◌≤ℤ◌, slice_index}
use Rattle.std.specs.List.Sorted.{IsStrictlySortedBy}
use Rattle.std.specs.Ordering.{nat_cmp}
use Rattle.std.specs.Cmp.Lexicographic.{slice_cmp}
use Rattle.grammar_model.specs.declared.Edge.{Edge}
use Rattle.grammar_model.specs.Grammar.{slot_of}
use Rattle.grammar_model.specs.Trees.{Tree}
use Rattle.grammar_model.specs.Derives.{Held, Derives}
use Rattle.grammar_model.specs.Values.{name_of}
use Rattle.grammar_model.specs.Acceptable.{IsAcceptable}
use Rattle.language_model.specs.Building.{Built, LexemeRow}
use Rattle.reading_model.specs.Matches.{Matches}
use Rattle.reading_model.specs.First.{IsFirstWith, HasNone}

-- a piece of the text: a token, with the symbols of its edges, or skipped
pub data Piece : Type 0 where
  Token : (length : ℕ) (symbols : List ℕ) → Piece
  Skipped : (length : ℕ) → Piece

-- each token has one place more
abbrev pub earleme_after : List Piece → ℕ
earleme_after [] = 0
earleme_after (Token n symbols ∷ pieces) = suc (earleme_after pieces)
earleme_after (Skipped n ∷ pieces) = earleme_after pieces

-- the edges of the tokens, of which the first begins at the place
abbrev pub edges_from : ℕ → List Piece → List Edge
edges_from place [] = []
edges_from place (Token n symbols ∷ pieces) = map (λ s. record { symbol = s; from = place; to = suc place }) symbols ++ edges_from (suc place) pieces
edges_from place (Skipped n ∷ pieces) = edges_from place pieces

abbrev pub edges_of : List Piece → List Edge
edges_of pieces = edges_from 0 pieces

-- where each token begins, and its length, where the first piece begins at the character
abbrev pub spans_from : ℕ → List Piece → List (ℕ × ℕ)
spans_from at [] = []
spans_from at (Token n symbols ∷ pieces) = (at, n) ∷ spans_from (at + n) pieces
spans_from at (Skipped n ∷ pieces) = spans_from (at + n) pieces

-- a token that is supplied: it has no characters, and one edge
abbrev pub supplied : ℕ → Piece
supplied symbol = Token 0 (symbol ∷ [])

-- the symbols that are supplied after the last piece that has characters; `before` are those of the pieces before
abbrev pub supplied_from : (before : List ℕ) → List Piece → List ℕ
supplied_from before [] = before
supplied_from before (Token zero symbols ∷ pieces) = supplied_from (before ++ symbols) pieces
supplied_from before (Token (suc n) symbols ∷ pieces) = supplied_from [] pieces
supplied_from before (Skipped n ∷ pieces) = supplied_from [] pieces

abbrev pub supplied_behind : List Piece → List ℕ
supplied_behind pieces = supplied_from [] pieces

-- WHAT CAN COME NEXT

-- the symbol is acceptable after the pieces
abbrev pub IsNext : Built → List Piece → ℕ → Type 0
IsNext b pieces symbol = IsAcceptable b.g1 (Held (edges_of pieces)) (slice_index b.g1.starts 0) symbol (earleme_after pieces)

-- what is looked for, by its place among the starts: each discard, each lexeme that is always looked for, and the acceptable ones
pub data IsCandidate (b : Built) (pieces : List Piece) (start : ℕ) : Type 0 where
  ADiscard : Contains b.discards start → IsCandidate b pieces start
  ALexeme : (l : LexemeRow) → Contains b.lexemes l → l.start ≡ start → IsFalse l.latm ⊎ IsNext b pieces l.symbol → IsCandidate b pieces start

-- the greatest length of a candidate's match, which is not nothing
pub record IsLongest (b : Built) (text : List ℕ) (pieces : List Piece) (at n : ℕ) : Type 0 where
  pub some : 0 < n
  pub start : ℕ
  pub candidate : IsCandidate b pieces start
  pub matches : Matches b text start at (at + n)
  pub longest : (other m : ℕ) → IsCandidate b pieces other → Matches b text other at (at + m) → m ≤ n

-- an acceptable lexeme that matches so many characters
pub record IsFitting (b : Built) (text : List ℕ) (pieces : List Piece) (at n : ℕ) (l : LexemeRow) : Type 0 where
  pub lexeme : Contains b.lexemes l
  pub next : IsNext b pieces l.symbol
  pub matches : Matches b text l.start at (at + n)

-- and of these one of the highest priority
pub record IsKept (b : Built) (text : List ℕ) (pieces : List Piece) (at n symbol : ℕ) : Type 0 where
  pub row : LexemeRow
  pub symbol_is : row.symbol ≡ symbol
  pub fitting : IsFitting b text pieces at n row
  pub highest : (other : LexemeRow) → IsFitting b text pieces at n other → other.priority ≤ℤ row.priority

abbrev pub IsKeptNone : Built → List ℕ → List Piece → (at n : ℕ) → Type 0
IsKeptNone b text pieces at n = (symbol : ℕ) → IsKept b text pieces at n symbol → ⊥

-- some discard matches so many characters
abbrev pub IsSkipped : Built → List ℕ → List Piece → (at n : ℕ) → Type 0
IsSkipped b text pieces at n = (start : ℕ) × Contains b.discards start × Matches b text start at (at + n)

-- neither a token nor a skipped piece can be taken
abbrev pub TakesNothing : Built → List ℕ → List Piece → (at : ℕ) → Type 0
TakesNothing b text pieces at = (n : ℕ) → IsLongest b text pieces at n → IsKeptNone b text pieces at n × (IsSkipped b text pieces at n → ⊥)

-- a tree of the start spans the tokens
abbrev pub HasDerivation : Built → List Piece → Type 0
HasDerivation b pieces = (tree : Tree) × Derives b.g1 (Held (edges_of pieces)) (slot_of (slice_index b.g1.starts 0)) 0 (earleme_after pieces) tree

-- the text goes on, and nothing can be taken; or it ends, and its tokens have no derivation
pub data IsStuck (b : Built) (text : List ℕ) (pieces : List Piece) (at : ℕ) : Type 0 where
  Within : at < length text → TakesNothing b text pieces at → IsStuck b text pieces at
  Ended : at ≡ length text → (HasDerivation b pieces → ⊥) → IsStuck b text pieces at

-- the symbol is acceptable, and was not supplied at this character
pub record MaySupply (b : Built) (pieces : List Piece) (symbol : ℕ) : Type 0 where
  pub next : IsNext b pieces symbol
  pub once : Contains (supplied_behind pieces) symbol → ⊥

-- the pieces that reading takes, and the character before which it then is
pub data ReadsWith (b : Built) (given text : List ℕ) : (at : ℕ) → List Piece → Type 0 where
  Begin : ReadsWith b given text 0 []
  Take : {at n : ℕ} {pieces : List Piece} (first : ℕ) (others : List ℕ) → ReadsWith b given text at pieces → at < length text → IsLongest b text pieces at n →
      IsStrictlySortedBy nat_cmp (first ∷ others) → ((symbol : ℕ) → Contains (first ∷ others) symbol ↔ IsKept b text pieces at n symbol) →
      ReadsWith b given text (at + n) (pieces ++ Token n (first ∷ others) ∷ [])
  Skip : {at n : ℕ} {pieces : List Piece} → ReadsWith b given text at pieces → at < length text → IsLongest b text pieces at n →
      IsKeptNone b text pieces at n → IsSkipped b text pieces at n → ReadsWith b given text (at + n) (pieces ++ Skipped n ∷ [])
  Supply : {at : ℕ} {pieces : List Piece} (symbol : ℕ) → ReadsWith b given text at pieces → IsStuck b text pieces at →
      IsFirstWith (MaySupply b pieces) given symbol → ReadsWith b given text at (pieces ++ supplied symbol ∷ [])

-- with no lexeme given
abbrev pub Reads : Built → List ℕ → (at : ℕ) → List Piece → Type 0
Reads b text = ReadsWith b [] text

-- HOW READING ENDS

-- symbols of the structural grammar by the bytes of their names, each once
abbrev pub AreSorted : Built → List ℕ → Type 0
AreSorted b symbols = IsStrictlySortedBy (λ s t. slice_cmp nat_cmp (name_of b.g1 s) (name_of b.g1 t)) symbols

-- the lexemes that are acceptable
pub record AreExpected (b : Built) (pieces : List Piece) (symbols : List ℕ) : Type 0 where
  pub sorted : AreSorted b symbols
  pub exact : (symbol : ℕ) → Contains symbols symbol ↔ ((l : LexemeRow) × Contains b.lexemes l × (l.symbol ≡ symbol) × IsNext b pieces symbol)

-- a lexeme that was looked for and has the longest match
pub record IsFound (b : Built) (text : List ℕ) (pieces : List Piece) (at symbol : ℕ) : Type 0 where
  pub row : LexemeRow
  pub lexeme : Contains b.lexemes row
  pub symbol_is : row.symbol ≡ symbol
  pub candidate : IsCandidate b pieces row.start
  pub count : ℕ
  pub longest : IsLongest b text pieces at count
  pub matches : Matches b text row.start at (at + count)

pub record AreFound (b : Built) (text : List ℕ) (pieces : List Piece) (at : ℕ) (symbols : List ℕ) : Type 0 where
  pub sorted : AreSorted b symbols
  pub exact : (symbol : ℕ) → Contains symbols symbol ↔ IsFound b text pieces at symbol

pub data Ending : Type 0 where
  End : Ending
  Stopped : (at : ℕ) (found expected : List ℕ) → Ending

-- reading has come to the end of the text, and its tokens have a derivation, or none of the given lexemes may be supplied; or it stops
-- at the first place where nothing can be taken, and none may be supplied
pub data IsReadingWith (b : Built) (given text : List ℕ) (pieces : List Piece) : Ending → Type 0 where
  HasEnded : ReadsWith b given text (length text) pieces → HasDerivation b pieces ⊎ HasNone (MaySupply b pieces) given → IsReadingWith b given text pieces End
  HasStopped : {at : ℕ} {found expected : List ℕ} → ReadsWith b given text at pieces → at < length text → TakesNothing b text pieces at →
      HasNone (MaySupply b pieces) given → AreFound b text pieces at found → AreExpected b pieces expected → IsReadingWith b given text pieces (Stopped at found expected)

abbrev pub IsReading : Built → List ℕ → List Piece → Ending → Type 0
IsReading b text = IsReadingWith b [] text
