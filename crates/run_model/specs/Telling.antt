-- What the jobs tell of an input that is read to its end, by its pieces, and in how many steps.
-- Sources: the Libmarpa manual (progress reports; bocage, order, tree, value), the Marpa::R2 SLIF DSL manual (lexemes that are
-- expected) and the Marpa::R2 documentation of its ambiguity reports; the texts are our own.
use Rattle.std.specs.Prelude.{◌≡◌, ℕ, ◌+◌, ◌*◌, ◌<◌, ◌≤◌, ◌==◌, ◌++◌, if◌then◌else◌, Bool, ⊤, Option, List, [], ◌∷◌, map, take, flat_map, slice_index_or, codes, chars, encode_utf8, decimal}
use Rattle.std.specs.List.{concat}
use Rattle.std.specs.Str.Lossy.{utf8_lossy}
use Rattle.grammar_model.specs.Grammar.{Grammar}
use Rattle.grammar_model.specs.Trees.{Tree}
use Rattle.grammar_model.specs.Values.{name_of}
use Rattle.grammar_model.specs.declared.Ranking.{Ranking}
use Rattle.grammar_model.specs.declared.Ranking.TheVariants.{Rule as RuleRanks}
use Rattle.grammar_model.specs.Text.{is_control, escaped}
use Rattle.recognizer_model.specs.declared.ReportLine.{ReportLine}
use Rattle.report_model.specs.Report.{IsReport}
pub use Rattle.report_model.specs.Lines.{report_line}
use Rattle.glade_model.specs.Glades.{Glade, AreGlades}
use Rattle.cursor_model.specs.Rest.{IsPlaceOf, IsRest, NamesNone}
use Rattle.language_model.specs.Building.{Built}
use Rattle.reading_model.specs.Reading.{Piece, AreExpected, edges_of, earleme_after}
use Rattle.words_model.specs.Words.{ValuesAsked, MoreAsked, Telling}
use Rattle.words_model.specs.Words.Telling.{Values, More, Expected, Report, Glades}
pub use Rattle.run_model.specs.Glades.{glade_line}
use Rattle.run_model.specs.Inputs.{names_text}
use Rattle.run_model.specs.Listing.{AreDerivations, line_of, first_of, beyond}
use Rattle.run_model.specs.More.{page_lines, last_steps}
use Rattle.run_model.specs.Numbers.{Numbers, HasNumbers}
use Rattle.run_model.specs.Steps.{IsWithinLooks, IsWithinSteps}

-- the text for the standard output, the line for the standard error, and the status
pub record Outcome : Type 0 where
  pub out : List ℕ
  pub line : List ℕ
  pub status : ℕ

-- a character as it stands in a message: one that controls a terminal or ends a line is escaped, as in the text of a value
abbrev pub in_line : ℕ → List ℕ
in_line c =
    if is_control c then escaped c else
    (if c == 8232 then codes "\\x{2028}" else
    (if c == 8233 then codes "\\x{2029}" else encode_utf8 c))

-- a line of the standard error, and one line whatever names are in the text
abbrev pub message : List ℕ → List ℕ
message text = codes "slif: " ++ (flat_map in_line (chars (utf8_lossy text)) ++ 10 ∷ [])

-- a refusal writes its line and nothing else
abbrev pub refused : ℕ → List ℕ → Outcome
refused status text = record { out = []; line = message text; status = status }

-- a job that was done writes its lines and nothing else
abbrev pub done : List (List ℕ) → Outcome
done lines = record { out = concat lines; line = []; status = 0 }

-- LINES

abbrev pub name_line : Grammar → ℕ → List ℕ
name_line g symbol = name_of g symbol ++ 10 ∷ []

abbrev pub value_lines : Built → ValuesAsked → List ℕ → List Piece → List Tree → List (List ℕ)
value_lines b asked cs pieces trees = map (line_of b asked.show cs pieces) (first_of asked.first trees)

abbrev pub numbers_text : Numbers → List ℕ
numbers_text n =
    codes "tokens " ++ (decimal n.tokens ++ (codes " kept " ++ (decimal n.kept ++ (codes " nodes " ++ (decimal n.nodes ++ (codes " expanded " ++ decimal n.expanded))))))

abbrev pub stats_line : Numbers → List ℕ
stats_line n = codes "stats: " ++ (numbers_text n ++ 10 ∷ [])

-- the line of the numbers, where it is asked for
abbrev pub stats_lines : Bool → Numbers → List (List ℕ)
stats_lines asked n = if asked then stats_line n ∷ [] else []

abbrev pub work_line : (size : ℕ) → Numbers → (values : ℕ) → List ℕ
work_line size n values = codes "work " ++ (decimal size ++ (codes ": " ++ (numbers_text n ++ (codes " values " ++ (decimal values ++ 10 ∷ [])))))

-- WHAT IS TOLD

abbrev pub no_derivation_text : Grammar → List ℕ → List ℕ
no_derivation_text g expected = codes "input ended without a derivation; expected: " ++ names_text g expected

abbrev pub no_set_text : (at last : ℕ) → List ℕ
no_set_text at last = codes "no set " ++ (decimal at ++ (codes "; the last is " ++ decimal last))

-- the lexemes that could come next
pub record TellsExpected (b : Built) (pieces : List Piece) (outcome : Outcome) : Type 0 where
  pub expected : List ℕ
  pub are : AreExpected b pieces expected
  pub is : outcome ≡ done (map (name_line b.g1) expected)

-- the values of the derivations, which are in order, and the numbers after them; or there is no derivation
pub data TellsValues (asked : ValuesAsked) (b : Built) (cs : List ℕ) (pieces : List Piece) (outcome : Outcome) : Type 0 where
  NoDerivation : (expected : List ℕ) → AreDerivations b asked.ranking pieces [] → AreExpected b pieces expected → outcome ≡ refused 1 (no_derivation_text b.g1 expected) →
      TellsValues asked b cs pieces outcome
  Derived : (tree : Tree) (trees : List Tree) (n : Numbers) → AreDerivations b asked.ranking pieces (tree ∷ trees) → HasNumbers b asked.ranking pieces n →
      outcome ≡ done (value_lines b asked cs pieces (tree ∷ trees) ++ stats_lines asked.stats n) → TellsValues asked b cs pieces outcome

-- the values of the derivations after a place, and where to go on; or there is no derivation; or the text names no place
pub data TellsMore (asked : MoreAsked) (b : Built) (cs : List ℕ) (pieces : List Piece) (outcome : Outcome) : Type 0 where
  Ungiven : (expected : List ℕ) → AreDerivations b asked.ranking pieces [] →
      AreExpected b pieces expected → outcome ≡ refused 1 (no_derivation_text b.g1 expected) →
      TellsMore asked b cs pieces outcome
  NoPlace : (tree : Tree) (trees : List Tree) →
      AreDerivations b asked.ranking pieces (tree ∷ trees) →
      NamesNone (tree ∷ trees) asked.after →
      outcome ≡ refused 1 (codes "the cursor names no derivation") →
      TellsMore asked b cs pieces outcome
  GoesOn : (tree : Tree) (trees rest : List Tree) →
      AreDerivations b asked.ranking pieces (tree ∷ trees) →
      IsRest (tree ∷ trees) asked.after rest →
      outcome ≡ done (page_lines b asked.show asked.first asked.after cs pieces rest) →
      TellsMore asked b cs pieces outcome

-- the report at a place; or it is past the last
pub data TellsReport (b : Built) (at : ℕ) (pieces : List Piece) (outcome : Outcome) : Type 0 where
  NoSuchSet : earleme_after pieces < at → outcome ≡ refused 1 (no_set_text at (earleme_after pieces)) → TellsReport b at pieces outcome
  Reported : (lines : List ReportLine) → at ≤ earleme_after pieces → IsReport b.g1 (edges_of pieces) 0 at lines → outcome ≡ done (map (report_line b.g1 at) lines) →
      TellsReport b at pieces outcome

-- where the derivations differ; or there is none
pub data TellsGlades (b : Built) (pieces : List Piece) (outcome : Outcome) : Type 0 where
  Underived : (expected : List ℕ) → AreDerivations b RuleRanks pieces [] → AreExpected b pieces expected → outcome ≡ refused 1 (no_derivation_text b.g1 expected) →
      TellsGlades b pieces outcome
  Compared : (tree : Tree) (trees : List Tree) (glades : List Glade) → AreDerivations b RuleRanks pieces (tree ∷ trees) →
      AreGlades b.g1 (edges_of pieces) (slice_index_or b.g1.starts 0 0) (earleme_after pieces) glades → outcome ≡ done (map (glade_line b.g1) glades) → TellsGlades b pieces outcome

-- what is told of these characters, which were read in these pieces
abbrev pub Tells : Telling → Built → (cs : List ℕ) → List Piece → Outcome → Type 0
Tells (Values asked) b cs pieces outcome = TellsValues asked b cs pieces outcome
Tells (More asked) b cs pieces outcome = TellsMore asked b cs pieces outcome
Tells Expected b cs pieces outcome = TellsExpected b pieces outcome
Tells (Report at) b cs pieces outcome = TellsReport b at pieces outcome
Tells Glades b cs pieces outcome = TellsGlades b pieces outcome

-- HOW MANY STEPS IT MAY TAKE

-- so many of the first of the derivations are given within the bound
pub record GivesWithin (b : Built) (ranking : Ranking) (first : Option ℕ) (pieces : List Piece) (before after : ℕ) : Type 0 where
  pub trees : List Tree
  pub all : AreDerivations b ranking pieces trees
  pub within : IsWithinSteps b ranking pieces (first_of first trees) before after

-- so many of those after a place are given within the bound, and one more is looked for; finding the place takes at most seven steps for
-- each step of the derivation that it comes after
pub record MoreWithin (asked : MoreAsked) (b : Built) (pieces : List Piece) (before after : ℕ) : Type 0 where
  pub trees : List Tree
  pub all : AreDerivations b asked.ranking pieces trees
  pub given : List Tree
  pub rest : List Tree
  pub place : IsPlaceOf asked.after trees given rest
  pub within : IsWithinSteps b asked.ranking pieces
      (first_of asked.first rest ++ take 1 (beyond asked.first rest))
      (before + 7 * last_steps given) after

-- each node of the forest is looked at once, at most
pub record ComparesWithin (b : Built) (pieces : List Piece) (before after : ℕ) : Type 0 where
  pub numbers : Numbers
  pub has : HasNumbers b RuleRanks pieces numbers
  pub within : IsWithinLooks b RuleRanks pieces numbers.nodes before after

-- the steps of the reading in these pieces and of what is told of it, where they have a bound
abbrev pub TellsWithin : Telling → Built → List Piece → (before after : ℕ) → Type 0
TellsWithin (Values asked) b pieces before after = GivesWithin b asked.ranking asked.first pieces before after
TellsWithin (More asked) b pieces before after = MoreWithin asked b pieces before after
TellsWithin Expected b pieces before after = ⊤
TellsWithin (Report at) b pieces before after = ⊤
TellsWithin Glades b pieces before after = ComparesWithin b pieces before after
