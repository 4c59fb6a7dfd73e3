-- The steps of a reading by right recursion: of each token the set after it has five links, and each place has a Leo pair.
-- Source: Leo 1991 (linear work on right recursion).
use Rattle.std.specs.Prelude.{◌≡◌, ℕ, suc, zero, ◌+◌, ◌*◌, false, List, [], ◌∷◌}
use Rattle.grammar_model.specs.declared.Edge.{Edge}
use Rattle.grammar_model.specs.Derives.{Held}
use Rattle.recognizer_model.specs.declared.flat.FlatSymbol.TheVariants.{Terminal, Slot, Top}
use Rattle.recognizer_model.specs.declared.flat.FlatSource.TheVariants.{Written, Top as OfStart}
use Rattle.recognizer_model.specs.Flat.{FlatGrammar}
use Rattle.recognizer_model.specs.FlatForm.{FlatEdges}
use Rattle.recognizer_model.specs.Counts.{IsCountOf}
use Rattle.recognizer_model.specs.Links.{IsPlacedLink, IsLeoPair}

-- S ::= a S, S ::= a, and the top of S
abbrev pub right : FlatGrammar
right = record {
  symbols = Terminal 0 ∷ Slot 1 0 ∷ Top 0 ∷ [];
  nullable = false ∷ false ∷ false ∷ [];
  rules = record { lhs = 1; rhs = 0 ∷ 1 ∷ []; source = Written 0 } ∷ record { lhs = 1; rhs = 0 ∷ []; source = Written 1 } ∷ record { lhs = 2; rhs = 1 ∷ []; source = OfStart 0 } ∷ [];
  tops = 2 ∷ [];
}

-- so many tokens, one after another
abbrev pub tokens : ℕ → List Edge
tokens zero = []
tokens (suc n) = record { symbol = 0; from = n; to = suc n } ∷ tokens n

-- the links and the Leo pairs of so many tokens
abbrev pub HasLinks : (n links : ℕ) → Type 0
HasLinks n links = IsCountOf (IsPlacedLink right (FlatEdges right (Held (tokens n))) 2 n) links

abbrev pub HasPairs : (n pairs : ℕ) → Type 0
HasPairs n pairs = IsCountOf (IsLeoPair right (FlatEdges right (Held (tokens n))) 2 n) pairs

abbrev pub RightRecursionCounts : Type 0
RightRecursionCounts = (n : ℕ) → HasLinks n (5 * n) × HasPairs n (suc n)

-- of 10,000 tokens they are 60,001
abbrev pub RightRecursionRow : Type 0
RightRecursionRow = (links pairs : ℕ) → HasLinks 10000 links → HasPairs 10000 pairs → links + pairs ≡ 60001
