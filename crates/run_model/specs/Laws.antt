-- Laws of the definitions.
use Rattle.std.specs.Prelude.{◌≡◌, ◌≢◌, ℕ, ◌<◌, ◌≤◌, List, [], ◌∷◌, ◌++◌, length, take, drop, false, ◌↔◌, Option, Some, None, IfSome, codes}
use Rattle.grammar_model.specs.Trees.{Tree}
use Rattle.grammar_model.specs.declared.Ranking.{Ranking}
use Rattle.grammar_model.specs.declared.Show.{Show}
use Rattle.grammar_model.specs.declared.limits.TheConstants.{LONGEST_CURSOR, LONGEST_GRAMMAR, LONGEST_INPUT}
use Rattle.cursor_model.specs.Rest.{start_text, place_after}
use Rattle.language_model.specs.Building.{Built}
use Rattle.reading_model.specs.Reading.{Piece}
use Rattle.outside_model.specs.Told.{ToldFile}
use Rattle.outside_model.specs.Told.ToldFile.{Untold, Missing}
use Rattle.words_model.specs.Words.{Job, Telling, Asks}
use Rattle.words_model.specs.Words.InputFrom.{FileNamed}
use Rattle.words_model.specs.Words.Telling.{Values, More}
use Rattle.run_model.specs.Jobs.{work_grammar, work_input}
use Rattle.run_model.specs.Refused.{Accepted, IsRefused}
use Rattle.run_model.specs.Given.{AcceptedFor, IsRefusedFor}
use Rattle.run_model.specs.Listing.{AreDerivations}
use Rattle.run_model.specs.More.{end_line, last_line}
use Rattle.run_model.specs.Outcome.{Outcome, IsOutcome, Tells, refused, usage}
use Rattle.run_model.specs.Runs.{MayEnd}

-- the words, the grammar and the input have an outcome
abbrev pub HasOutcome : Type 0
HasOutcome = (words : List (List ℕ)) (grammar input : List ℕ) → (outcome : Outcome) × IsOutcome words grammar input outcome

-- and one at most
abbrev pub HasOneOutcome : Type 0
HasOneOutcome = (words : List (List ℕ)) (grammar input : List ℕ) (a b : Outcome) → IsOutcome words grammar input a → IsOutcome words grammar input b → a ≡ b

-- all the files that the words need are told
pub record TellsFiles (words : List (List ℕ)) (file : List ℕ → ToldFile) : Type 0 where
  pub grammar : (job : Job) → Asks words job → IfSome job.grammar (λ name. file name ≢ Untold)
  pub input : (job : Job) (name : List ℕ) → Asks words job → job.input ≡ FileNamed name → file name ≢ Untold

-- where the outside tells all that the words need, a run may have one outcome at most
abbrev pub HasOneEnd : Type 0
HasOneEnd = (words : List (List ℕ)) (file : List ℕ → ToldFile) (input : List ℕ) → TellsFiles words file → (a b : MayEnd words file (Some input)) → a.outcome ≡ b.outcome

-- the files that the words need are there, or nothing is told of them
pub record HoldsFiles (words : List (List ℕ)) (file : List ℕ → ToldFile) : Type 0 where
  pub grammar : (job : Job) → Asks words job → IfSome job.grammar (λ name. file name ≢ Missing)
  pub input : (job : Job) (name : List ℕ) → Asks words job → job.input ≡ FileNamed name → file name ≢ Missing

-- where the outside holds what the words need, a run has an outcome
abbrev pub HasEnd : Type 0
HasEnd = (words : List (List ℕ)) (file : List ℕ → ToldFile) (left : Option (List ℕ)) → HoldsFiles words file → MayEnd words file left

abbrev pub run_words : List (List ℕ)
run_words = codes "run" ∷ codes "--grammar" ∷ codes "g" ∷ []

-- each status from 0 to 3 is that of an outcome: the value of the only derivation of `a(a)`, an input and a grammar that are too
-- long, and no words
pub record StatusesOccur : Type 0 where
  pub done : (outcome : Outcome) × IsOutcome run_words work_grammar (work_input 1) outcome × (outcome.status ≡ 0)
  pub input_refused : (input : List ℕ) → LONGEST_INPUT < length input → IsOutcome run_words work_grammar input (refused 1 (codes "input is longer than 16777216 bytes"))
  pub no_job : IsOutcome [] [] [] usage
  pub grammar_refused : (grammar input : List ℕ) → LONGEST_GRAMMAR < length grammar → IsOutcome run_words grammar input (refused 3 (codes "grammar: longer than 1048576 bytes"))

-- where no names are given, a grammar is accepted and refused as it is by itself
pub record NoNamesAskNothing : Type 0 where
  pub accepted : (bytes : List ℕ) (b : Built) → AcceptedFor [] bytes b ↔ Accepted bytes b
  pub refused : (bytes text : List ℕ) → IsRefusedFor [] bytes text ↔ IsRefused bytes text

-- GOING ON

-- the values of so many of the first derivations, or of all
abbrev pub values_first : Show → Ranking → Option ℕ → Telling
values_first show ranking first =
    Values (record { show = show; ranking = ranking; first = first; stats = false })

-- all after these
abbrev pub from_place : Show → Ranking → (before : List Tree) → Telling
from_place show ranking before =
    More (record { show = show; ranking = ranking; after = place_after start_text before; first = None })

-- what `run` tells of the derivations up to a place, and after it what `more` tells from that place on, are what `run` tells of all, and
-- a line that nothing is left; so it is at each place whose text is not too long
abbrev pub GoingOnIsWhole : Type 0
GoingOnIsWhole =
    (b : Built) (show : Show) (ranking : Ranking) (cs : List ℕ) (pieces : List Piece)
    (tree : Tree) (trees before rest : List Tree) → AreDerivations b ranking pieces (tree ∷ trees) →
    tree ∷ trees ≡ before ++ rest → length (place_after start_text before) ≤ LONGEST_CURSOR →
    (first more all : Outcome) →
    Tells (values_first show ranking (Some (length before))) b cs pieces first →
    Tells (from_place show ranking before) b cs pieces more →
    Tells (values_first show ranking None) b cs pieces all →
    first.out ++ more.out ≡ all.out ++ end_line

-- the last line of a page of at most so many tells the place after all that were given up to it: so pages, each from the place that the
-- one before it told, follow one another
abbrev pub PagesFollow : Type 0
PagesFollow =
    (after : List ℕ) (before rest : List Tree) (n : ℕ) → after ≡ place_after start_text before →
    last_line after (take n rest) (drop n rest) ≡ last_line start_text (before ++ take n rest) (drop n rest)
