-- WHAT A LINE IS ANSWERED, and what it does to the machine. A line that is refused is answered with one line, and changes nothing.
-- Sources: the Libmarpa manual (grammars, precomputation, the recognizer's alternatives and earlemes, progress reports, tree iterators);
-- the answers are our own.
use Rattle.std.specs.Prelude.{◌≡◌, ◌≢◌, ℕ, ◌+◌, ◌<◌, ◌⊎◌, ◌++◌, Bool, false, if◌then◌else◌, nat_lt, nat_eq, pos, List, [], ◌∷◌, length, map, take, Option, option_map, option_to_list, Contains, ◌↔◌, codes, decimal}
use Rattle.std.specs.List.{list_all}
use Rattle.std.specs.List.Sorted.{IsStrictlySortedBy}
use Rattle.std.specs.Ordering.{nat_cmp}
use Rattle.grammar_model.specs.Grammar.{WrittenRule, Grammar, slot_of, rule_at, lhs_of}
use Rattle.grammar_model.specs.Grammar as grammar
use Rattle.grammar_model.specs.Trees.{Tree, Children, Leaf, Nulled, Node, NoChild, Child}
use Rattle.grammar_model.specs.Derives.{Held}
use Rattle.grammar_model.specs.declared.Edge.{Edge}
use Rattle.grammar_model.specs.Checked.{IsChecked, Refusal, Refuses}
use Rattle.grammar_model.specs.Chosen.{AreChosen}
use Rattle.grammar_model.specs.declared.Ranking.TheVariants.{Rule as RuleRanks}
use Rattle.grammar_model.specs.Values.{Value, Text, Number, list_of, name_of}
use Rattle.grammar_model.specs.Text.{text_of}
use Rattle.grammar_model.specs.Growth.{has_name, number_of, with_name, with_rule, with_start}
use Rattle.grammar_model.specs.Refusals.{listed, refusal_text}
use Rattle.grammar_model.specs.declared.limits.TheConstants.{LONGEST_EDGE}
use Rattle.recognizer_model.specs.declared.ReportLine.{ReportLine}
use Rattle.recognizer_model.specs.View.{plain_rule}
use Rattle.recognizer_model.specs.FewRules.{HasFewRules, HasTooManyRules}
use Rattle.report_model.specs.Report.{IsReport}
use Rattle.report_model.specs.Lines.{report_line}
use Rattle.script_model.specs.Commands.{Command, Symbol, Rule, Sequence, Start, Precompute, Alternative, Complete, Expected, Report, Trees, phase_of, IsCommand}
use Rattle.script_model.specs.Machine.{Machine, start_of, with_grammar, that_reads, with_edge, at_next_place, edge_from, IsExpected}

-- the machine after a line, and the lines of the answer
pub record Reply : Type 0 where
  pub after : Machine
  pub lines : List (List ℕ)

abbrev pub as_line : List ℕ → List ℕ
as_line text = text ++ 10 ∷ []

-- it says so, and after it the machine is this one
abbrev pub says : Machine → List ℕ → Reply
says m text = record { after = m; lines = as_line text ∷ [] }

-- where it holds this is so, and otherwise that
abbrev pub Case : (P Then Otherwise : Type 0) → Type 0
Case P Then Otherwise = (P × Then) ⊎ ((P → ⊥) × Otherwise)

-- these lines, and a last one that says so
abbrev pub tells : Machine → List (List ℕ) → List ℕ → Reply
tells m lines text = record { after = m; lines = lines ++ as_line text ∷ [] }

-- ---- BUILDING

-- where all the names are known
abbrev pub if_known : Machine → (names : List (List ℕ)) → Reply → Reply
if_known m names reply = if list_all (has_name m.grammar) names then reply else says m (codes "bad name")

abbrev pub symbol_reply : Machine → List ℕ → Reply
symbol_reply m name = says (with_grammar m (with_name m.grammar name)) (codes "symbol " ++ decimal (number_of m.grammar name))

abbrev pub adds_rule : Machine → WrittenRule → Reply
adds_rule m rule = says (with_grammar m (with_rule m.grammar rule)) (codes "rule " ++ decimal (length m.grammar.rules))

abbrev pub longest_rule : ℕ
longest_rule = 1000

abbrev pub rule_reply : Machine → (lhs : List ℕ) (rhs : List (List ℕ)) → Reply
rule_reply m lhs rhs =
    if_known m (lhs ∷ rhs)
    (if nat_lt longest_rule (length rhs) then says m (codes "too long")
    else adds_rule m (plain_rule (number_of m.grammar lhs) (map (number_of m.grammar) rhs)))

abbrev pub sequence_rule : Grammar → (lhs item : List ℕ) (plus : Bool) (separator : Option (List ℕ)) (proper : Bool) → WrittenRule
sequence_rule g lhs item plus separator proper = grammar.Sequence (record {
  lhs = number_of g lhs;
  item = number_of g item;
  plus = plus;
  separator = option_map (number_of g) separator;
  proper = proper;
  rank = pos 0;
  null_high = false;
})

abbrev pub sequence_reply : Machine → (lhs item : List ℕ) (plus : Bool) (separator : Option (List ℕ)) (proper : Bool) → Reply
sequence_reply m lhs item plus separator proper =
    if_known m (lhs ∷ item ∷ option_to_list separator) (adds_rule m (sequence_rule m.grammar lhs item plus separator proper))

abbrev pub start_reply : Machine → List ℕ → Reply
start_reply m name =
    if_known m (name ∷ [])
    (if nat_lt 0 (length m.grammar.starts) then says m (codes "second start")
    else says (with_grammar m (with_start m.grammar (number_of m.grammar name))) (codes "start"))

-- the grammar passes the check and has few flat rules, so that it is read by from now on; or the first reason why not
pub data PrecomputeReplies (m : Machine) (reply : Reply) : Type 0 where
  Refused : (refusal : Refusal) → Refuses m.grammar refusal → reply ≡ says m (refusal_text m.grammar refusal) → PrecomputeReplies m reply
  TooManyRules : IsChecked m.grammar → HasTooManyRules m.grammar → reply ≡ says m (codes "more than 65536 flat rules") → PrecomputeReplies m reply
  Ready : IsChecked m.grammar → HasFewRules m.grammar → reply ≡ says (that_reads m) (codes "ready") → PrecomputeReplies m reply

-- ---- READING

-- a token with this name and this length is an edge that begins at the place, or the first reason why not
abbrev pub AlternativeReplies : Machine → (name : List ℕ) (n : ℕ) → Reply → Type 0
AlternativeReplies m name n reply =
    let symbol : ℕ = number_of m.grammar name in
    let edge : Edge = edge_from m symbol n in
    Case (has_name m.grammar name ≡ false) (reply ≡ says m (codes "bad name"))
    (Case (IsExpected m symbol → ⊥) (reply ≡ says m (codes "unexpected"))
    (Case (Contains m.edges edge) (reply ≡ says m (codes "duplicate"))
    (Case ((n ≡ 0) ⊎ (LONGEST_EDGE < n)) (reply ≡ says m (codes "bad length"))
    (reply ≡ says (with_edge m edge) (codes "taken")))))

abbrev pub last_place : ℕ
last_place = 1000000

abbrev pub complete_reply : Machine → Reply
complete_reply m =
    if nat_eq m.place last_place then says m (codes "last place")
    else says (at_next_place m) (codes "place " ++ decimal (m.place + 1))

-- the terminals that are acceptable at the place, in the order of their numbers
pub record ExpectedReplies (m : Machine) (reply : Reply) : Type 0 where
  pub symbols : List ℕ
  pub order : IsStrictlySortedBy nat_cmp symbols
  pub exact : (s : ℕ) → Contains symbols s ↔ ((s < length m.grammar.names) × IsExpected m s)
  pub is : reply ≡ says m (listed (map (name_of m.grammar) symbols))

pub record ReportedReplies (m : Machine) (at : ℕ) (reply : Reply) : Type 0 where
  pub lines : List ReportLine
  pub are : IsReport m.grammar m.edges 0 at lines
  pub is : reply ≡ tells m (map (report_line m.grammar at) lines) (codes "reported " ++ decimal (length lines))

-- the report of a place so far
abbrev pub ReportReplies : Machine → (at : ℕ) → Reply → Type 0
ReportReplies m at reply = Case (m.place < at) (reply ≡ says m (codes "no set " ++ decimal at)) (ReportedReplies m at reply)

-- a derivation as a value: a token by its name, its place and its end; a symbol that spans nothing by its name; a rule by the name of its
-- left side, its number and its children
module _ (g : Grammar) where
  abbrev mutual
    pub value_of_tree : Tree → Value
    value_of_tree (Leaf symbol from to) = list_of (Text (name_of g symbol) ∷ Number from ∷ Number to ∷ [])
    value_of_tree (Nulled symbol at) = list_of (Text (name_of g symbol) ∷ [])
    value_of_tree (Node rule children from to) = list_of (Text (name_of g (lhs_of (rule_at g rule))) ∷ Number rule ∷ values_of_children children)

    pub values_of_children : Children → List Value
    values_of_children NoChild = []
    values_of_children (Child prefix last) = values_of_children prefix ++ value_of_tree last ∷ []

  abbrev pub tree_line : Tree → List ℕ
  tree_line t = as_line (text_of (value_of_tree t))

-- so many of the first of the derivations of the start from 0 to the place
pub record TreesReply (m : Machine) (count : ℕ) (reply : Reply) : Type 0 where
  pub trees : List Tree
  pub all : AreChosen m.grammar (Held m.edges) RuleRanks (slot_of (start_of m)) 0 m.place trees
  pub is : reply ≡ tells m (map (tree_line m.grammar) (take count trees)) (codes "trees " ++ decimal (length (take count trees)))

-- ---- A LINE

-- what a command of the phase is answered
abbrev pub CommandReplies : Machine → Command → Reply → Type 0
CommandReplies m (Symbol name) reply = reply ≡ symbol_reply m name
CommandReplies m (Rule lhs rhs) reply = reply ≡ rule_reply m lhs rhs
CommandReplies m (Sequence lhs item plus separator proper) reply = reply ≡ sequence_reply m lhs item plus separator proper
CommandReplies m (Start name) reply = reply ≡ start_reply m name
CommandReplies m Precompute reply = PrecomputeReplies m reply
CommandReplies m (Alternative name n) reply = AlternativeReplies m name n reply
CommandReplies m Complete reply = reply ≡ complete_reply m
CommandReplies m Expected reply = ExpectedReplies m reply
CommandReplies m (Report at) reply = ReportReplies m at reply
CommandReplies m (Trees count) reply = TreesReply m count reply

pub data Replies (m : Machine) (line : List ℕ) (reply : Reply) : Type 0 where
  BadLine : ((c : Command) → IsCommand line c → ⊥) → reply ≡ says m (codes "bad line") → Replies m line reply
  NotNow : (c : Command) → IsCommand line c → phase_of c ≢ m.phase → reply ≡ says m (codes "not now") → Replies m line reply
  Played : (c : Command) → IsCommand line c → phase_of c ≡ m.phase → CommandReplies m c reply → Replies m line reply
