-- The flat form of a written grammar: which symbols and rules it has, and what its derivations stand for. A plain rule is
-- copied for each slot that it fits. A sequence rule makes lists, a symbol of its own, which grow by one item at their end.
-- Only slots that are accessible and productive count, and rules that are live.
-- Sources: the Libmarpa manual (sequence rules are rewritten); the levels are those of precedenced statements.
use Rattle.std.specs.Prelude.{◌≡◌, ◌≢◌, ℕ, suc, ◌+◌, ◌<◌, ◌↔◌, ◌⊎◌, Bool, true, false, cond, IsFalse, IsTrue, List, [], ◌∷◌, length, map, Option, Some, None, slice_get, slice_index_or, AllPairs}
use Rattle.std.specs.Ordering.{ordering_then, nat_cmp}
use Rattle.grammar_model.specs.Grammar.{PlainRule, SequenceRule, WrittenRule, Plain, Grammar, rule_at, slot_of, Fits, child_slot}
use Rattle.grammar_model.specs.Grammar
use Rattle.grammar_model.specs.Trees.{Tree, Children, Leaf, Nulled, Node, NoChild, Child}
use Rattle.grammar_model.specs.Analysis.{IsProductive, IsAccessible, IsLive}
use Rattle.grammar_model.specs.Analysis
use Rattle.grammar_model.specs.Derives.{Edges, Held, Derives}
use Rattle.grammar_model.specs.declared.Edge.{Edge}
use Rattle.grammar_model.specs.Checked.{IsChecked}
use Rattle.grammar_model.specs.Acceptable.{IsAcceptable}
use Rattle.grammar_model.specs.All.{IsAll}
use Rattle.grammar_model.specs.declared.Ranking.{Ranking}
use Rattle.grammar_model.specs.Order.{RuleOrder, rule_cmp, rank_order, tree_cmp}
use Rattle.recognizer_model.specs.Flat.{FlatGrammar, FlatSymbol, Terminal, Slot, Sequence, Top, FlatSource, Written, OfStart, FlatRule, IsRule, lhs_of, rhs_of, source_of}
use Rattle.recognizer_model.specs.View.{grammar_view}
use Rattle.recognizer_model.specs.Invariant.{IsFlat}
use Rattle.recognizer_model.specs.Counts.{IsListOf}

-- WHICH SYMBOLS AND RULES

-- a slot that counts: it is accessible and productive
abbrev pub IsUsedSlot : Grammar → Grammar.Slot → Type 0
IsUsedSlot w slot = IsAccessible w slot × IsProductive w slot

-- what a flat symbol has to be
abbrev pub IsSymbolOf : Grammar → FlatSymbol → Type 0
IsSymbolOf w (Terminal t) = Grammar.IsTerminal w t × IsUsedSlot w (slot_of t)
IsSymbolOf w (Slot s k) = (Grammar.IsTerminal w s → ⊥) × IsUsedSlot w (record { symbol = s; level = k })
IsSymbolOf w (Sequence i) = (r : SequenceRule) × (i < length w.rules) × (rule_at w i ≡ Grammar.Sequence r) × IsLive w (Grammar.Sequence r) × IsUsedSlot w (slot_of r.lhs)
IsSymbolOf w (Top k) = k < length w.starts

-- the flat symbol of a written one at a level
pub data Stands (w : Grammar) (slot : Grammar.Slot) : FlatSymbol → Type 0 where
  AsTerminal : Grammar.IsTerminal w slot.symbol → Stands w slot (Terminal slot.symbol)
  AsSlot : (Grammar.IsTerminal w slot.symbol → ⊥) → Stands w slot (Slot slot.symbol slot.level)

-- the flat symbols of a plain rule's parts, from the place k on
abbrev pub StandAll : Grammar → WrittenRule → ℕ → List FlatSymbol → Type 0
StandAll w rule k [] = Unit {0}
StandAll w rule k (s ∷ ss) = Stands w (child_slot rule k) s × StandAll w rule (suc k) ss

-- a flat rule, by what its symbols stand for
pub record NamedRule : Type 0 where
  pub left : FlatSymbol
  pub right : List FlatSymbol
  pub source : FlatSource

-- the flat rules of a written grammar
pub data IsRuleOf (w : Grammar) : NamedRule → Type 0 where
  -- a plain rule with parts, for each slot that it fits
  OfPlain : (i s k : ℕ) (r : PlainRule) (right : List FlatSymbol) → i < length w.rules → rule_at w i ≡ Plain r → right ≢ [] → IsLive w (Plain r) → Fits (Plain r) (record { symbol = s; level = k }) →
      IsUsedSlot w (record { symbol = s; level = k }) → length right ≡ length r.rhs → StandAll w (Plain r) 0 right →
      IsRuleOf w (record { left = Slot s k; right = right; source = Written i })
  -- a list, and a list with a separator after it
  OfList : (i : ℕ) (r : SequenceRule) → IsSymbolOf w (Sequence i) → rule_at w i ≡ Grammar.Sequence r →
      IsRuleOf w (record { left = Slot r.lhs 0; right = Sequence i ∷ []; source = Written i })
  OfTrailing : (i separator : ℕ) (r : SequenceRule) (c : FlatSymbol) → IsSymbolOf w (Sequence i) → rule_at w i ≡ Grammar.Sequence r → r.separator ≡ Some separator → IsFalse r.proper →
      IsProductive w (slot_of separator) → Stands w (slot_of separator) c →
      IsRuleOf w (record { left = Slot r.lhs 0; right = Sequence i ∷ c ∷ []; source = Written i })
  -- a list is one item, or a list and one item more
  OfItem : (i : ℕ) (r : SequenceRule) (b : FlatSymbol) → IsSymbolOf w (Sequence i) → rule_at w i ≡ Grammar.Sequence r → Stands w (slot_of r.item) b →
      IsRuleOf w (record { left = Sequence i; right = b ∷ []; source = Written i })
  OfItems : (i : ℕ) (r : SequenceRule) (b : FlatSymbol) → IsSymbolOf w (Sequence i) → rule_at w i ≡ Grammar.Sequence r → r.separator ≡ None → Stands w (slot_of r.item) b →
      IsRuleOf w (record { left = Sequence i; right = Sequence i ∷ b ∷ []; source = Written i })
  OfSeparated : (i separator : ℕ) (r : SequenceRule) (b c : FlatSymbol) → IsSymbolOf w (Sequence i) → rule_at w i ≡ Grammar.Sequence r → r.separator ≡ Some separator →
      IsProductive w (slot_of separator) → Stands w (slot_of separator) c → Stands w (slot_of r.item) b →
      IsRuleOf w (record { left = Sequence i; right = Sequence i ∷ c ∷ b ∷ []; source = Written i })
  -- the top of a start
  OfTop : (k start : ℕ) (s : FlatSymbol) → slice_get w.starts k ≡ Some start → Stands w (slot_of start) s →
      IsRuleOf w (record { left = Top k; right = s ∷ []; source = OfStart k })

-- past the last symbol no symbol is told
abbrev pub symbol_at : FlatGrammar → ℕ → FlatSymbol
symbol_at f x = slice_index_or f.symbols x (Top 0)

abbrev pub named : FlatGrammar → FlatRule → NamedRule
named f r = record { left = symbol_at f r.lhs; right = map (symbol_at f) r.rhs; source = r.source }

-- a slot's symbol is nullable where the slot is, and a top's where its start is
abbrev pub SpansNothing : Grammar → FlatSymbol → Type 0
SpansNothing w (Terminal t) = ⊥
SpansNothing w (Slot s k) = Analysis.IsNullable w (record { symbol = s; level = k })
SpansNothing w (Sequence i) = ⊥
SpansNothing w (Top k) = (start : ℕ) × (slice_get w.starts k ≡ Some start) × Analysis.IsNullable w (slot_of start)

-- the flat grammar has exactly the symbols, rules, marks and tops of the written one
pub record IsFlatOf (f : FlatGrammar) (w : Grammar) : Type 0 where
  pub symbols : IsListOf (IsSymbolOf w) f.symbols
  pub rules : IsListOf (IsRuleOf w) (map (named f) f.rules)
  pub marks_all : length f.nullable ≡ length f.symbols
  pub marks : (x : ℕ) (s : FlatSymbol) → slice_get f.symbols x ≡ Some s → (slice_get f.nullable x ≡ Some true) ↔ SpansNothing w s
  pub tops_all : length f.tops ≡ length w.starts
  pub tops : (k r : ℕ) → slice_get f.tops k ≡ Some r → IsRule f r × (symbol_at f (lhs_of f r) ≡ Top k)

-- WHAT FLAT DERIVATIONS STAND FOR

-- what a flat symbol stands for, if it is a slot of the written grammar; a top stands for its start
abbrev pub StandsFor : Grammar → FlatSymbol → Grammar.Slot → Type 0
StandsFor w (Terminal s) slot = slot ≡ slot_of s
StandsFor w (Slot s k) slot = slot ≡ record { symbol = s; level = k }
StandsFor w (Sequence i) slot = ⊥
StandsFor w (Top k) slot = (start : ℕ) × (slice_get w.starts k ≡ Some start) × (slot ≡ slot_of start)

abbrev pub written_symbol : Grammar → FlatSymbol → ℕ
written_symbol w (Terminal s) = s
written_symbol w (Slot s k) = s
written_symbol w (Sequence i) = Grammar.lhs_of (rule_at w i)
written_symbol w (Top k) = slice_index_or w.starts k 0

abbrev pub is_list : FlatSymbol → Bool
is_list (Sequence i) = true
is_list _ = false

-- the children of one list after those of another
abbrev pub join : Children → Children → Children
join prefix NoChild = prefix
join prefix (Child more last) = Child (join prefix more) last

abbrev pub is_list_node : FlatGrammar → Tree → Bool
is_list_node f (Leaf x from to) = false
is_list_node f (Nulled x at) = false
is_list_node f (Node r children from to) = is_list (symbol_at f (lhs_of f r))

-- a node of a written rule, or of a top, which is its only child
abbrev pub node_by : FlatSource → Children → (from to : ℕ) → Tree
node_by (Written i) children from to = Node i children from to
node_by (OfStart k) NoChild from to = Nulled 0 from
node_by (OfStart k) (Child prefix last) from to = last

abbrev mutual
  pub tree_of : Grammar → FlatGrammar → Tree → Tree
  tree_of w f (Leaf x from to) = Leaf (written_symbol w (symbol_at f x)) from to
  tree_of w f (Nulled x at) = Nulled (written_symbol w (symbol_at f x)) at
  tree_of w f (Node r children from to) = node_by (source_of f r) (children_of w f children) from to

  -- a list's node stands for its children, which join those beside it
  pub children_of : Grammar → FlatGrammar → Children → Children
  children_of w f NoChild = NoChild
  children_of w f (Child prefix last) =
      cond (is_list_node f last) (join (children_of w f prefix) (inside w f last)) (Child (children_of w f prefix) (tree_of w f last))

  -- what a list's node stands for
  pub inside : Grammar → FlatGrammar → Tree → Children
  inside w f (Leaf x from to) = NoChild
  inside w f (Nulled x at) = NoChild
  inside w f (Node r children from to) = children_of w f children

-- an edge of a terminal is one of its flat symbol
abbrev pub FlatEdges : FlatGrammar → Edges → Edges
FlatEdges f edge x from to = (t : ℕ) × (slice_get f.symbols x ≡ Some (Terminal t)) × edge t from to

-- THE ORDER OF FLAT RULES

-- a top's rule counts as a rule after the last one
abbrev pub source_number : Grammar → FlatSource → ℕ
source_number w (Written i) = i
source_number w (OfStart k) = length w.rules + k

-- the length of a list's rule
abbrev pub list_length : FlatGrammar → ℕ → ℕ
list_length f r = cond (is_list (symbol_at f (lhs_of f r))) (length (rhs_of f r)) 0

-- the declared order of the flat rules of one left side: that of what they come from, and of a list's rules the longer one first
abbrev pub flat_order : Grammar → Ranking → FlatGrammar → RuleOrder
flat_order w ranking f = record {
  cmp = λ r m s n. ordering_then (nat_cmp (lhs_of f r) (lhs_of f s)) (ordering_then (nat_cmp (list_length f s) (list_length f r))
      (ordering_then (rule_cmp w ranking (source_number w (source_of f r)) m (source_number w (source_of f s)) n) (nat_cmp r s)));
  null_high = λ r. Grammar.null_high_of (rule_at w (source_number w (source_of f r)));
}

-- the derivations of the flat grammar stand for those of the written one, each for one, all of them, in the same order
pub record IsFlatForm (f : FlatGrammar) (w : Grammar) (edge : Edges) (ranking : Ranking) : Type 0 where
  pub sound : (x p q : ℕ) (slot : Grammar.Slot) (t : Tree) → x < length f.symbols → StandsFor w (symbol_at f x) slot →
      Derives (grammar_view f) (FlatEdges f edge) (slot_of x) p q t → Derives w edge slot p q (tree_of w f t)
  pub whole : (x p q : ℕ) (slot : Grammar.Slot) (t : Tree) → x < length f.symbols → StandsFor w (symbol_at f x) slot →
      Derives w edge slot p q t → (u : Tree) × Derives (grammar_view f) (FlatEdges f edge) (slot_of x) p q u × (tree_of w f u ≡ t)
  pub one : (x p q : ℕ) (slot : Grammar.Slot) (t u : Tree) → x < length f.symbols → StandsFor w (symbol_at f x) slot →
      Derives (grammar_view f) (FlatEdges f edge) (slot_of x) p q t → Derives (grammar_view f) (FlatEdges f edge) (slot_of x) p q u → tree_of w f t ≡ tree_of w f u → t ≡ u
  pub in_order : (x p q : ℕ) (slot : Grammar.Slot) (t u : Tree) → x < length f.symbols → StandsFor w (symbol_at f x) slot →
      Derives (grammar_view f) (FlatEdges f edge) (slot_of x) p q t → Derives (grammar_view f) (FlatEdges f edge) (slot_of x) p q u →
      tree_cmp (flat_order w ranking f) t u ≡ tree_cmp (rank_order w ranking) (tree_of w f t) (tree_of w f u)

-- the flat grammar of a checked grammar is its flat form, over edges that go forward
abbrev pub FlatGrammarsAreFlatForms : Type 0
FlatGrammarsAreFlatForms = (f : FlatGrammar) (w : Grammar) (edges : List Edge) (ranking : Ranking) → IsFlat f → IsFlatOf f w → IsChecked w →
    ((s p q : ℕ) → Held edges s p q → p < q) → IsFlatForm f w (Held edges) ranking

-- a written terminal is acceptable exactly where its flat symbol is
abbrev pub AcceptableAreFlat : Type 0
AcceptableAreFlat = (f : FlatGrammar) (w : Grammar) (edges : List Edge) (k start r t place : ℕ) → IsFlat f → IsFlatOf f w → IsChecked w →
    ((s p q : ℕ) → Held edges s p q → p < q) → slice_get w.starts k ≡ Some start → slice_get f.tops k ≡ Some r →
    IsAcceptable w (Held edges) start t place
    ↔ ((x : ℕ) × (slice_get f.symbols x ≡ Some (Terminal t)) × IsAcceptable (grammar_view f) (FlatEdges f (Held edges)) (lhs_of f r) x place)

-- the derivations of a checked grammar's slots that count have exactly one list; that there is no other is a law of lists
abbrev pub ListsExist : Type 0
ListsExist = (f : FlatGrammar) (w : Grammar) (edges : List Edge) (ranking : Ranking) → IsFlat f → IsFlatOf f w → IsChecked w → ((s p q : ℕ) → Held edges s p q → p < q) →
    (x : ℕ) (slot : Grammar.Slot) (p q : ℕ) → x < length f.symbols → StandsFor w (symbol_at f x) slot → (trees : List Tree) × IsAll w (Held edges) (rank_order w ranking) slot p q trees
