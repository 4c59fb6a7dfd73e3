-- What is known where a part of the way from bytes to what is read stops.
use Rattle.std.specs.Prelude.{◌≡◌, ℕ, ◌+◌, ◌≤◌, Bool, List, [], ◌∷◌, ◌++◌, Option, Some, None, map, codes, decimal, IsUtf8, slice_index_or}
use Rattle.std.specs.Str.{IsValidUpTo}
use Rattle.grammar_model.specs.Grammar.{Grammar, slot_of}
use Rattle.grammar_model.specs.Trees.{Tree}
use Rattle.grammar_model.specs.Steps.{Step}
use Rattle.grammar_model.specs.Derives.{Held, Derives}
use Rattle.grammar_model.specs.declared.Edge.{Edge}
use Rattle.grammar_model.specs.declared.Ranking.{Ranking}
use Rattle.grammar_model.specs.Chosen.{IsChosen}
use Rattle.grammar_core.specs.declared.steps.Span.{Span}
use Rattle.recognizer_model.specs.Counts.{IsCountOf}
use Rattle.earley_sets.specs.Recognizer.{Recognizer}
use Rattle.bocage.specs.Expanded.{IsExpandedIn, IsHiddenNode}
use Rattle.language_model.specs.declared.token.Token.{Token}
use Rattle.language_model.specs.Tokens.{AreTokens, IsBadPlace, spelled_at}
use Rattle.language_model.specs.Description.{Statement, Describes, IsBadStatement}
use Rattle.language_model.specs.Building.{Built, BuildFault, faults_of}
use Rattle.language_model.specs.Texts.{IsBuiltOf}
use Rattle.reading_model.specs.Accepted.{GrammarFault, HasGrammarFault}
use Rattle.reading_model.specs.Reading.{Piece, End, Stopped, IsReadingWith, AreExpected, edges_of, earleme_after}
use Rattle.forest_model.specs.Forest.{Forest}
use Rattle.run_model.specs.Texts.{place_text}
use Rattle.run_model.specs.Refused.{build_text, grammar_text}
use Rattle.run_model.specs.Inputs.{stop_text}
use Rattle.scanless.specs.Reading.{HoldsPieces, IsReadingOfWith}
use Rattle.scanless.specs.declared.reading.Ending.{Ending}
use Rattle.value_lines.specs.Lines.{IsForestOf}
use Rattle.value_lines.specs.Writing.{IsAllAsked}
use Rattle.first_walk.specs.Place.{reading_of}
use Rattle.first_walk.specs.Walk.{IsFirstDerivation}
use Rattle.text_reading.specs.declared.refusal.Place.{Place}
use Rattle.text_reading.specs.Refusals.{place_in, fault_at}

-- THE GRAMMAR

-- the characters have this description
pub record IsDescriptionOf (d : List Statement) (cs : List ℕ) : Type 0 where
  pub tokens : List Token
  pub are : AreTokens cs tokens
  pub described : Describes d (map (spelled_at cs) tokens)

-- why characters have no description, as it is told
pub data IsBadText (cs text : List ℕ) (place : Option Place) : Type 0 where
  OfTokens : (at : ℕ) → IsBadPlace cs at → text ≡ codes "grammar: bad token at " ++ place_text cs at → place ≡ Some (place_in cs at) → IsBadText cs text place
  OfStatements : (at : ℕ) (tokens : List Token) → AreTokens cs tokens → IsBadStatement (map (spelled_at cs) tokens) at →
      text ≡ codes "grammar: bad statement at " ++ place_text cs at → place ≡ Some (place_in cs at) → IsBadText cs text place

-- why grammars are not accepted, as it is told
pub record IsGrammarText (b : Built) (text : List ℕ) : Type 0 where
  pub fault : GrammarFault
  pub has : HasGrammarFault b fault
  pub told : text ≡ grammar_text b fault

-- what is told of a fault of the description, where there is one
abbrev pub IsFaultText : List ℕ → Option BuildFault → List ℕ → Type 0
IsFaultText cs None text = ⊥
IsFaultText cs (Some fault) text = text ≡ codes "grammar: " ++ build_text cs fault

-- why a description of these characters is not accepted, as it is told
pub data IsBadDescription (cs : List ℕ) (d : List Statement) (text : List ℕ) (place : Option Place) : Type 0 where
  OfBuilding : (fault : BuildFault) (others : List BuildFault) → faults_of d ≡ fault ∷ others → text ≡ codes "grammar: " ++ build_text cs fault →
      place ≡ Some (place_in cs (fault_at fault)) → IsBadDescription cs d text place
  OfGrammars : (b : Built) → IsBuiltOf d b → IsGrammarText b text → place ≡ None → IsBadDescription cs d text place

-- THE INPUT

-- the text tells where the bytes are not UTF-8
pub record IsBrokenText (bytes text : List ℕ) (place : Option Place) (expected : List ℕ) : Type 0 where
  pub at : ℕ
  pub broken : ¬ (IsUtf8 bytes)
  pub prefix : IsValidUpTo bytes at
  pub told : text ≡ codes "input is not UTF-8 at byte " ++ decimal at
  pub place_is : place ≡ None
  pub expected_is : expected ≡ []

-- the text tells where reading these characters stops, with these lexemes given
pub record IsStopText (b : Built) (given cs text : List ℕ) (place : Option Place) (expected : List ℕ) : Type 0 where
  pub pieces : List Piece
  pub at : ℕ
  pub found : List ℕ
  pub reading : IsReadingWith b given cs pieces (Stopped at found expected)
  pub told : text ≡ stop_text b.g1 cs at found expected
  pub place_is : place ≡ Some (place_in cs at)

-- the characters are read, with some lexemes given
abbrev pub IsSomeReading : Built → (cs : List ℕ) → Recognizer → List Span → Ending → Type 0
IsSomeReading b cs recce spans ending = (given : List ℕ) × IsReadingOfWith b given cs recce spans ending

-- P holds of the lexemes with which they are read, whatever these are
abbrev pub ForGiven : Built → (cs : List ℕ) → Recognizer → List Span → Ending → (P : List ℕ → Type 0) → Type 0
ForGiven b cs recce spans ending P = (given : List ℕ) → IsReadingOfWith b given cs recce spans ending → P given

-- DERIVATIONS

-- the recognizer holds some pieces
abbrev pub HoldsSome : Built → Recognizer → Type 0
HoldsSome b recce = (pieces : List Piece) × HoldsPieces b pieces recce

-- these are the lexemes that are expected after the pieces that the recognizer holds
abbrev pub AreExpectedOf : Built → Recognizer → List ℕ → Type 0
AreExpectedOf b recce expected = (pieces : List Piece) → HoldsPieces b pieces recce → AreExpected b pieces expected

-- a derivation of a start over all places that the ranking chooses
abbrev pub IsChosenOf : Grammar → List Edge → Ranking → (start place : ℕ) → Tree → Type 0
IsChosenOf g edges ranking start place t =
    Derives g (Held edges) (slot_of (slice_index_or g.starts start 0)) 0 place t × IsChosen ranking g (Held edges) (slot_of (slice_index_or g.starts start 0)) t

-- the forest of the characters' chosen derivations, with these lexemes given, of which there is one
pub record HasForest (b : Built) (given : List ℕ) (ranking : Ranking) (cs : List ℕ) (spans : List Span) (f : Forest) : Type 0 where
  pub pieces : List Piece
  pub reading : IsReadingWith b given cs pieces End
  pub of : IsForestOf b cs spans f pieces
  pub ranking_is : f.ranking ≡ ranking
  pub tree : Tree
  pub chosen : IsChosenOf b.g1 (edges_of pieces) ranking 0 (earleme_after pieces) tree

-- of the characters' chosen derivations, with these lexemes given, the first one has these steps, and whether it is the only one
pub record HasFirst (b : Built) (given : List ℕ) (ranking : Ranking) (cs : List ℕ) (spans : List Span) (r : Recognizer) (steps : List Step) (alone : Bool) : Type 0 where
  pub has : HasForest b given ranking cs spans (reading_of b.g1 ranking r)
  pub first : IsFirstDerivation (reading_of b.g1 ranking r) steps alone

-- of the characters' chosen derivations, with these lexemes given, so many of the first are one, which has these steps
pub record HasOnly (b : Built) (given : List ℕ) (ranking : Ranking) (first : Option ℕ) (cs : List ℕ) (spans : List Span) (r : Recognizer) (steps : List Step) : Type 0 where
  pub has : HasForest b given ranking cs spans (reading_of b.g1 ranking r)
  pub asked : IsAllAsked (reading_of b.g1 ranking r) first steps

-- the steps of a reading's forest: at most one for each hidden item that begins no earlier than a used node with the same end, and at
-- most one for each that has a node
pub record BuildsWithin (w : Grammar) (ranking : Ranking) (r : Recognizer) (before after : ℕ) : Type 0 where
  pub expanded : (n : ℕ) → IsCountOf (IsExpandedIn w ranking r) n → after ≤ before + n
  pub needed : (n : ℕ) → IsCountOf (IsHiddenNode w r) n → after ≤ before + n
