-- WHAT CALLS ANSWER, and what the machine of scripts is after them. Symbols and rules are told by their numbers. A call that is refused
-- changes nothing.
-- Source: the Libmarpa manual (grammars, precomputation, alternatives, earlemes, tree iterators).
use Rattle.std.specs.Prelude.{◌≡◌, ℕ, ◌+◌, ◌<◌, ◌≤◌, ◌⊎◌, ◌↔◌, Bool, true, false, if◌then◌else◌, nat_lt, pos, List, [], ◌∷◌, length, map, take, drop, IsTrue, Option, Some, None, option_map, Result, Ok, Err, Contains, codes}
use Rattle.std.specs.declared.alloc.Global.{Global}
use Rattle.std.specs.declared.vec.Vec.{Vec}
use Rattle.std.specs.List.Sorted.{IsStrictlySortedBy}
use Rattle.std.specs.Ordering.{nat_cmp}
use Rattle.grammar_model.specs.Grammar.{Grammar, WrittenRule, slot_of}
use Rattle.grammar_model.specs.Grammar as grammar
use Rattle.grammar_model.specs.Trees.{Tree}
use Rattle.grammar_model.specs.Steps.{steps_of}
use Rattle.grammar_model.specs.Derives.{Held}
use Rattle.grammar_model.specs.Growth.{number_of, with_name, with_rule, with_start}
use Rattle.grammar_model.specs.Chosen.{AreChosen}
use Rattle.grammar_model.specs.declared.Ranking.TheVariants.{Rule as RuleRanks}
use Rattle.grammar_model.specs.declared.limits.TheConstants.{LAST_PLACE, LONGEST_EDGE}
use Rattle.grammar_core.specs.Refusals.{knows, name_refusal, rule_refusal}
use Rattle.grammar_core.specs.Steps.{step_of}
use Rattle.grammar_core.specs.declared.refusal.CoreRefusal.{CoreRefusal}
use Rattle.grammar_core.specs.declared.refusal.CoreRefusal.TheVariants as core
use Rattle.recognizer_model.specs.View.{plain_rule}
use Rattle.script_model.specs.Commands.{Phase, Building, Reading}
use Rattle.script_model.specs.Machine.{Machine, start_of, with_grammar, with_edge, at_next_place, that_reads, edge_from, IsExpected}
use Rattle.script_model.specs.Replies.{Case, says, PrecomputeReplies}
use Rattle.scanning_calls.specs.declared.refusal.ScanRefusal.{ScanRefusal}
use Rattle.scanning_calls.specs.declared.refusal.ScanRefusal.TheVariants.{NotNow, BadSymbol, TooMany, SecondStart, BadGrammar, Unexpected, Duplicate, BadLength, NoMemory}
use Rattle.scanning_calls.specs.Machines.{begun_again}
use Rattle.scanning_calls.specs.declared.kept.Kept.{Kept}

-- refused so, and all is as it was; or else P holds of what is granted; or there is no memory, and all is as it was
abbrev pub Answers : {T : Type 0} → Option ScanRefusal → Result T ScanRefusal → (same : Type 0) → (P : T → Type 0) → Type 0
Answers (Some refusal) (Ok x) same P = ⊥
Answers (Some refusal) (Err e) same P = (e ≡ refusal) × same
Answers None (Ok x) same P = P x
Answers None (Err e) same P = (e ≡ NoMemory) × same

-- ---- BUILDING

abbrev pub while_building : Phase → Option ScanRefusal → Option ScanRefusal
while_building Building refusal = refusal
while_building Reading refusal = Some NotNow

-- what a grammar refuses
abbrev pub refusal_of : CoreRefusal → ScanRefusal
refusal_of core.BadSymbol = BadSymbol
refusal_of core.BadLevel = BadSymbol
refusal_of core.TooMany = TooMany
refusal_of core.NoMemory = NoMemory

abbrev pub symbol_refusal : Machine → (name : List ℕ) → Option ScanRefusal
symbol_refusal m name = while_building m.phase (option_map refusal_of (name_refusal m.grammar name))

abbrev pub adding_refusal : Machine → WrittenRule → Option ScanRefusal
adding_refusal m rule = while_building m.phase (option_map refusal_of (rule_refusal m.grammar rule))

abbrev pub SymbolAnswers : Machine → (name : List ℕ) → Result ℕ ScanRefusal → (after : Machine) → Type 0
SymbolAnswers m name result after =
    Answers (symbol_refusal m name) result (after ≡ m) (λ s. (s ≡ number_of m.grammar name) × (after ≡ with_grammar m (with_name m.grammar name)))

abbrev pub RuleAnswers : Machine → WrittenRule → Result ℕ ScanRefusal → (after : Machine) → Type 0
RuleAnswers m rule result after =
    Answers (adding_refusal m rule) result (after ≡ m) (λ r. (r ≡ length m.grammar.rules) × (after ≡ with_grammar m (with_rule m.grammar rule)))

abbrev pub sequence_by : (lhs item : ℕ) (plus : Bool) (separator : Option ℕ) (proper : Bool) → WrittenRule
sequence_by lhs item plus separator proper = grammar.Sequence (record {
  lhs = lhs;
  item = item;
  plus = plus;
  separator = separator;
  proper = proper;
  rank = pos 0;
  null_high = false;
})

abbrev pub start_refusal : Machine → ℕ → Option ScanRefusal
start_refusal m symbol =
    while_building m.phase
    (if knows m.grammar symbol then (if nat_lt 0 (length m.grammar.starts) then Some SecondStart else None) else Some BadSymbol)

abbrev pub StartAnswers : {T : Type 0} → Machine → ℕ → Result T ScanRefusal → (after : Machine) → Type 0
StartAnswers m symbol result after = Answers (start_refusal m symbol) result (after ≡ m) (λ _. after ≡ with_grammar m (with_start m.grammar symbol))

-- the grammar is read by from now on; or not, and where it is bad the text says the first reason why
abbrev pub PrecomputeAnswers : {T : Type 0} → Phase → Machine → (after : Machine) → Result T ScanRefusal → (text : List ℕ) → Type 0
PrecomputeAnswers Reading m after result text = (result ≡ Err NotNow) × (after ≡ m)
PrecomputeAnswers Building m after (Ok x) text = (after ≡ that_reads m) × PrecomputeReplies m (says (that_reads m) (codes "ready"))
PrecomputeAnswers Building m after (Err refusal) text =
    (after ≡ m) × ((refusal ≡ NoMemory) ⊎ ((refusal ≡ BadGrammar) × PrecomputeReplies m (says m text)))

-- ---- READING

abbrev pub while_reading : Phase → Option ScanRefusal → Option ScanRefusal
while_reading Building refusal = Some NotNow
while_reading Reading refusal = refusal

-- why a token with this length is no edge that begins at the place, the first of the reasons
abbrev pub IsTokenRefusal : Machine → (symbol n : ℕ) → Option ScanRefusal → Type 0
IsTokenRefusal m symbol n refusal =
    Case (m.phase ≡ Building) (refusal ≡ Some NotNow)
    (Case (LAST_PLACE ≤ m.place) (refusal ≡ Some TooMany)
    (Case (IsExpected m symbol → ⊥) (refusal ≡ Some Unexpected)
    (Case (Contains m.edges (edge_from m symbol n)) (refusal ≡ Some Duplicate)
    (Case ((n ≡ 0) ⊎ (LONGEST_EDGE < n)) (refusal ≡ Some BadLength)
    (refusal ≡ None)))))

pub record TokenAnswers {T : Type 0} (m : Machine) (symbol n : ℕ) (result : Result T ScanRefusal) (after : Machine) : Type 0 where
  pub refusal : Option ScanRefusal
  pub is : IsTokenRefusal m symbol n refusal
  pub answers : Answers refusal result (after ≡ m) (λ _. after ≡ with_edge m (edge_from m symbol n))

abbrev pub place_refusal : Machine → Option ScanRefusal
place_refusal m = while_reading m.phase (if nat_lt m.place LAST_PLACE then None else Some TooMany)

abbrev pub PlaceAnswers : Machine → Result ℕ ScanRefusal → (after : Machine) → Type 0
PlaceAnswers m result after = Answers (place_refusal m) result (after ≡ m) (λ place. (place ≡ m.place + 1) × (after ≡ at_next_place m))

abbrev pub reading_refusal : Machine → Option ScanRefusal
reading_refusal m = while_reading m.phase None

abbrev pub RestartAnswers : {T : Type 0} → Machine → Result T ScanRefusal → (after : Machine) → Type 0
RestartAnswers m result after = Answers (reading_refusal m) result (after ≡ m) (λ _. after ≡ begun_again m)

-- the terminals that are acceptable at the place, in the order of their numbers
pub record AreExpected (m : Machine) (symbols : List ℕ) : Type 0 where
  pub order : IsStrictlySortedBy nat_cmp symbols
  pub exact : (s : ℕ) → Contains symbols s ↔ ((s < length m.grammar.names) × IsExpected m s)

abbrev pub ExpectedAnswers : Machine → Result (Vec ℕ Global) ScanRefusal → (after : Machine) → Type 0
ExpectedAnswers m result after = Answers (reading_refusal m) result (after ≡ m) (λ symbols. (after ≡ m) × AreExpected m symbols.items)

-- the derivations of the start from 0 to the place, in the declared order
abbrev pub AreDerivations : Machine → List Tree → Type 0
AreDerivations m trees = AreChosen m.grammar (Held m.edges) RuleRanks (slot_of (start_of m)) 0 m.place trees

-- those after the first `skip` are kept, at most so many, each by its steps; and whether there are more
pub record AreSome (m : Machine) (skip most : ℕ) (k : Kept) : Type 0 where
  pub trees : List Tree
  pub all : AreDerivations m trees
  pub kept : map (λ steps. map step_of steps.items) k.derivations.items ≡ map steps_of (take most (drop skip trees))
  pub more : IsTrue k.more ↔ (skip + most < length trees)

abbrev pub DerivationsAnswer : Machine → (skip most : ℕ) → Result Kept ScanRefusal → (after : Machine) → Type 0
DerivationsAnswer m skip most result after = Answers (reading_refusal m) result (after ≡ m) (λ kept. (after ≡ m) × AreSome m skip most kept)
