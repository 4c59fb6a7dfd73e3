-- What is known of an input that is read, of its forest, and of its derivations. The derivations are those of the run.
use Rattle.std.specs.Prelude.{◌≡◌, ℕ, zero, suc, ◌+◌, ◌≤◌, ◌↔◌, Bool, true, false, List, [], ◌∷◌, ◌++◌, Option, None, Some, IfSome, IsTrue, Result, length, map, slice_get, slice_index_or, chars, Contains}
use Rattle.grammar_model.specs.Trees.{Tree}
use Rattle.grammar_model.specs.Steps.{Step, steps_of}
use Rattle.grammar_model.specs.Values.{Token}
use Rattle.grammar_model.specs.declared.Ranking.{Ranking}
use Rattle.grammar_model.specs.declared.limits.TheConstants.{LONGEST_CURSOR}
use Rattle.cursor_model.specs.Cursor.{cursor_of}
use Rattle.language_model.specs.Building.{Built}
use Rattle.grammar_core.specs.declared.steps.Span.{Span}
use Rattle.glade_model.specs.Glades.{Glade, AreGlades}
use Rattle.reading_model.specs.Reading.{Piece, End, IsReadingWith, AreExpected, earleme_after, edges_of, spans_from}
use Rattle.run_model.specs.Inputs.{IsRead}
use Rattle.run_model.specs.Listing.{AreDerivations}
use Rattle.scanless.specs.Reading.{span_of}
use Rattle.tree_iter.specs.Iteration.{AreGiven, begun}
use Rattle.text_reading.specs.Parts.{HasForest}
use Rattle.valuator.specs.Play.{tokens_of}
use Rattle.tree_fold.specs.Values.{HasValue, Fails, IsAsked}
use Rattle.slif_parser.specs.Views.{Read, ForestOf, FirstOf, DerivationsOf}
use Rattle.slif_parser.specs.declared.first.Derived.{Derived}
use Rattle.slif_parser.specs.declared.first.Derived.TheVariants.{Only, Forest}

-- the bytes are read to their end in these pieces, with these lexemes given, and this is seen of it
pub record IsReadAs (b : Built) (lexemes bytes : List ℕ) (r : Read) : Type 0 where
  pub grammar_is : r.grammar ≡ b
  pub lexemes_are : r.lexemes ≡ lexemes
  pub characters_are : r.characters ≡ chars bytes
  pub pieces : List Piece
  pub is : IsRead b lexemes bytes pieces
  pub spans_are : map span_of r.spans ≡ spans_from 0 pieces

-- the forest of the derivations, of which there is one
pub record IsForestAs (r : Read) (ranking : Ranking) (f : ForestOf) : Type 0 where
  pub read_is : f.read ≡ r
  pub has : HasForest r.grammar r.lexemes ranking r.characters r.spans f.forest

-- no derivation was given yet
pub record IsBegun (f : ForestOf) (d : DerivationsOf) : Type 0 where
  pub read_is : d.read ≡ f.read
  pub is : d.iteration ≡ begun f.forest
  pub none : AreGiven d.iteration []

-- the list is that of all derivations of what is read, in the declared order
pub record AreAllOf (r : Read) (ranking : Ranking) (trees : List Tree) : Type 0 where
  pub pieces : List Piece
  pub reading : IsReadingWith r.grammar r.lexemes r.characters pieces End
  pub all : AreDerivations r.grammar ranking pieces trees

abbrev pub AreAll : DerivationsOf → List Tree → Type 0
AreAll d trees = AreAllOf d.read d.iteration.forest.ranking trees

-- these are the first of them
abbrev pub IsPrefixOfAll : DerivationsOf → List Tree → Type 0
IsPrefixOfAll d given = (rest : List Tree) × AreAll d (given ++ rest)

-- after those given before, one more is given, at which it then stands; or those were all
abbrev pub IsNext : (new : DerivationsOf) → (given : List Tree) → Bool → Type 0
IsNext new given true = (tree : Tree) × AreGiven new.iteration (given ++ tree ∷ []) × (new.iteration.current ≡ Some (steps_of tree))
IsNext new given false = AreAll new given

-- the text is the cursor of the derivation, and not too long
pub record IsCursorOf (text : List ℕ) (tree : Tree) : Type 0 where
  pub within : length text ≤ LONGEST_CURSOR
  pub is : text ≡ cursor_of tree

-- it stands at the derivation that has this cursor, and this one was given last: `next` goes on after it
pub record IsAt (d : DerivationsOf) (cursor : List ℕ) : Type 0 where
  pub before : List Tree
  pub tree : Tree
  pub is_cursor : IsCursorOf cursor tree
  pub given : AreGiven d.iteration (before ++ tree ∷ [])
  pub stands : d.iteration.current ≡ Some (steps_of tree)

-- none of all derivations has this cursor
pub record LacksCursor (d : DerivationsOf) (cursor : List ℕ) : Type 0 where
  pub trees : List Tree
  pub all : AreAll d trees
  pub none : (tree : Tree) → Contains trees tree → IsCursorOf cursor tree → ⊥

-- it has the steps of the first derivation, and tells whether that is the only one
pub record IsFirst (r : Read) (ranking : Ranking) (f : FirstOf) : Type 0 where
  pub read_is : f.read ≡ r
  pub tree : Tree
  pub others : List Tree
  pub all : AreAllOf r ranking (tree ∷ others)
  pub steps_are : f.steps ≡ steps_of tree
  pub only : IsTrue f.only ↔ (others ≡ [])

-- the only derivation, or the forest of the derivations
abbrev pub IsDerivedAs : Read → Ranking → Derived → Type 0
IsDerivedAs r ranking (Only first) = IsFirst r ranking first × IsTrue first.only
IsDerivedAs r ranking (Forest forest) = IsForestAs r ranking forest

-- where the derivations of what is read differ; the places count tokens
pub record AreGladesOf (r : Read) (glades : List Glade) : Type 0 where
  pub pieces : List Piece
  pub reading : IsReadingWith r.grammar r.lexemes r.characters pieces End
  pub are : AreGlades r.grammar.g1 (edges_of pieces) (slice_index_or r.grammar.g1.starts 0 0) (earleme_after pieces) glades

-- the lexemes that could come next, by the bytes of their names
pub record AreExpectedNext (r : Read) (symbols : List ℕ) : Type 0 where
  pub pieces : List Piece
  pub reading : IsReadingWith r.grammar r.lexemes r.characters pieces End
  pub are : AreExpected r.grammar pieces symbols

-- WHERE TOKENS LIE

abbrev end_of : Option Span → ℕ
end_of None = 0
end_of (Some s) = s.start + s.length

abbrev start_or : ℕ → Option Span → ℕ
start_or none None = none
start_or none (Some s) = s.start

-- the character where the token before the place ends; 0 where there is no such token
abbrev pub end_at : List Span → (place : ℕ) → ℕ
end_at spans zero = 0
end_at spans (suc k) = end_of (slice_get spans k)

-- the character where the token at the place begins; where there is none, where the one before ends
abbrev pub start_at : List Span → (place : ℕ) → ℕ
start_at spans place = start_or (end_at spans place) (slice_get spans place)

-- THE VALUE OF A DERIVATION

module _ {S V E : Type 0} (token_gives : S → S → ℕ → List ℕ → Token → Result V E → Type 0)
    (nulled_gives : S → S → ℕ → List ℕ → Result V E → Type 0)
    (rule_gives : S → S → ℕ → List ℕ → List V → Result V E → Type 0) where
  -- the tree that has these steps has the value, and the semantics goes from one state to the other
  abbrev pub ValueOf : Read → List Step → (before : S) → V → (after : S) → Type 0
  ValueOf r steps before v after = (t : Tree) → steps ≡ steps_of t →
      HasValue token_gives nulled_gives rule_gives r.grammar.g1 (tokens_of r.characters r.spans) t before v after

  -- one of the steps gives the error
  abbrev pub FailsOf : Read → List Step → (before : S) → E → (after : S) → Type 0
  FailsOf r steps before e after = Fails token_gives nulled_gives rule_gives r.grammar.g1 (tokens_of r.characters r.spans) steps before e after

  -- it was asked for the first of the steps
  abbrev pub IsAskedOf : Read → List Step → (before after : S) → Type 0
  IsAskedOf r steps before after = IsAsked token_gives nulled_gives rule_gives r.grammar.g1 (tokens_of r.characters r.spans) steps before after

  -- those of the current derivation
  abbrev pub ValueBy : DerivationsOf → (before : S) → V → (after : S) → Type 0
  ValueBy d before v after = (t : Tree) → d.iteration.current ≡ Some (steps_of t) →
      HasValue token_gives nulled_gives rule_gives d.read.grammar.g1 (tokens_of d.read.characters d.read.spans) t before v after

  abbrev pub FailsBy : DerivationsOf → (before : S) → E → (after : S) → Type 0
  FailsBy d before e after = IfSome d.iteration.current (λ steps. FailsOf d.read steps before e after)

  abbrev pub IsAskedBy : DerivationsOf → (before after : S) → Type 0
  IsAskedBy d before after = IfSome d.iteration.current (λ steps. IsAskedOf d.read steps before after)
