-- What job `run` tells of an input that is read to its end: the chosen derivations of its tokens from the start symbol, in the
-- declared order, each with the text of its value.
-- Source: the Libmarpa manual (bocage, order, tree, value); the order is our own.
use Rattle.std.specs.Prelude.{ℕ, ◌+◌, ◌++◌, List, [], ◌∷◌, map, take, drop, Option, Some, None, slice_index_or, slice_range, encode_utf8_all}
use Rattle.grammar_model.specs.Grammar.{slot_of}
use Rattle.grammar_model.specs.Trees.{Tree}
use Rattle.grammar_model.specs.Derives.{Held}
use Rattle.grammar_model.specs.declared.Ranking.{Ranking}
use Rattle.grammar_model.specs.Chosen.{AreChosen}
use Rattle.grammar_model.specs.declared.Show.{Show}
use Rattle.grammar_model.specs.Values.{Token, value_of}
use Rattle.grammar_model.specs.Text.{text_of}
use Rattle.language_model.specs.Building.{Built}
use Rattle.reading_model.specs.Reading.{Piece, edges_of, earleme_after, spans_from}

-- a token, by the characters where it begins and how many it has
abbrev pub token_at_span : List ℕ → ℕ × ℕ → Token
token_at_span cs s = record { start = s.0; length = s.1; text = encode_utf8_all (slice_range cs s.0 (s.0 + s.1)) }

abbrev pub tokens_in : List ℕ → List Piece → List Token
tokens_in cs pieces = map (token_at_span cs) (spans_from 0 pieces)

-- the derivations of the tokens from the start symbol that the ranking chooses, in order
abbrev pub AreDerivations : Built → Ranking → List Piece → List Tree → Type 0
AreDerivations b ranking pieces trees = AreChosen b.g1 (Held (edges_of pieces)) ranking (slot_of (slice_index_or b.g1.starts 0 0)) 0 (earleme_after pieces) trees

-- the line of a derivation
abbrev pub line_of : Built → Show → List ℕ → List Piece → Tree → List ℕ
line_of b show cs pieces t = text_of (value_of show b.g1 b.meaning (tokens_in cs pieces) t) ++ 10 ∷ []

-- so many of the first, or all
abbrev pub first_of : {X : Type 0} → Option ℕ → List X → List X
first_of None xs = xs
first_of (Some n) xs = take n xs

-- those after so many of the first
abbrev pub beyond : {X : Type 0} → Option ℕ → List X → List X
beyond None xs = []
beyond (Some n) xs = drop n xs
