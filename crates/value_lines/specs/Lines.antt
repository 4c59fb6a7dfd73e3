-- The lines of a reading's derivations, one after another.
use Rattle.std.specs.Prelude.{◌≡◌, ℕ, ◌≤◌, Bool, true, false, List, [], ◌∷◌, ◌++◌, length, map}
use Rattle.grammar_model.specs.Trees.{Tree}
use Rattle.grammar_model.specs.declared.Show.{Show}
use Rattle.grammar_model.specs.declared.limits.TheConstants.{LONGEST_INPUT}
use Rattle.grammar_core.specs.declared.steps.Span.{Span}
use Rattle.language_model.specs.Building.{Built}
use Rattle.reading_model.specs.Reading.{Piece, End, IsReadingWith, edges_of, earleme_after, spans_from}
use Rattle.flat_model.specs.Flattened.{IsFlattened}
use Rattle.forest_model.specs.Forest.{Forest}
use Rattle.forest_model.specs.Listing.{IsListing}
use Rattle.scanless.specs.Reading.{span_of}
use Rattle.valuator.specs.Player.{Score}
use Rattle.tree_iter.specs.Iteration.{Iteration, AreGiven}
use Rattle.run_model.specs.Listing.{line_of}

-- what the derivations of a reading of these characters are played by
abbrev pub score_of : Built → List ℕ → List Span → Score
score_of b cs spans = record { grammar = b.g1; meaning = b.meaning; chars = cs; spans = spans }

-- the forest is that of the pieces of a reading, whatever lexemes were given for it, by the flat grammar that is listed, and these are
-- the spans of their tokens
pub record IsForestOf (b : Built) (cs : List ℕ) (spans : List Span) (f : Forest) (pieces : List Piece) : Type 0 where
  pub few : length cs ≤ LONGEST_INPUT
  pub given : List ℕ
  pub reading : IsReadingWith b given cs pieces End
  pub spans_are : map span_of spans ≡ spans_from 0 pieces
  pub written : f.written ≡ b.g1
  pub flat : IsFlattened b.g1 f.flat
  pub start : f.start ≡ 0
  pub edges : f.edges ≡ edges_of pieces
  pub place : f.place ≡ earleme_after pieces

-- one more is given, and this is its line; or those given are all
abbrev pub IsLineOf : Built → Show → List ℕ → List Piece → (new : Iteration) → (given : List Tree) → (line : List ℕ) → Bool → Type 0
IsLineOf b show cs pieces new given line true = (tree : Tree) × AreGiven new (given ++ tree ∷ []) × (line ≡ line_of b show cs pieces tree)
IsLineOf b show cs pieces new given line false = IsListing new.forest given
