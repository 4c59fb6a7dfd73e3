-- Nodes that derivations of the whole have, and what is met on the way back from it.
use Rattle.std.specs.Prelude.{◌≡◌, ℕ, suc, ◌<◌, ◌≤◌, ◌↔◌, length, Some}
use Rattle.recognizer_model.specs.declared.Item.{Item}
use Rattle.recognizer_model.specs.declared.NodeKey.{NodeKey}
use Rattle.grammar_model.specs.Trees.{Tree, Children, Node, Child, child_count, from_of}
use Rattle.recognizer_model.specs.Flat.{FlatGrammar, IsRule, lhs_of, rhs_of, part_of}
use Rattle.grammar_model.specs.Derives.{Edges}
use Rattle.recognizer_model.specs.FlatDerives.{Derives, Spans}
use Rattle.recognizer_model.specs.Leo.{InReduced, IsHidden}
use Rattle.recognizer_model.specs.Counts.{IsCountOf}
use Rattle.recognizer_model.specs.Chosen.{Allowed, AreAllowed}

-- a node of the tree, of that rule and begin, has these first children, and they end there
pub data Has : Tree → (rule from to : ℕ) → Children → Type 0 where
  All : {r p q : ℕ} {cs : Children} → Has (Node r cs p q) r p q cs
  Fewer : {t last : Tree} {r p q : ℕ} {prefix : Children} → Has t r p q (Child prefix last) → Has t r p (from_of last) prefix
  Inside : {t : Tree} {r p q r' p' q' : ℕ} {prefix cs : Children} → Has t r p q (Child prefix (Node r' cs p' q')) → Has t r' p' q' cs

-- some derivation of the whole, of allowed rules, has such first children
pub record IsUsed (g : FlatGrammar) (E : Edges) (allowed : Allowed) (top place : ℕ) (n : NodeKey) : Type 0 where
  pub tree : Tree
  pub derives : Derives g E (lhs_of g top) 0 place tree
  pub chosen : AreAllowed allowed tree
  pub children : Children
  pub has : Has tree n.rule n.origin n.end children
  pub dot_is : n.dot ≡ child_count children
  pub some : 0 < n.dot

-- what is met on the way back from the whole: fewer parts of a rule, and the allowed rules of its last part
pub data IsMet (g : FlatGrammar) (E : Edges) (allowed : Allowed) (top place : ℕ) : (rule dot from to : ℕ) → Type 0 where
  Whole : {cs : Children} → 0 < place → Spans g E top (length (rhs_of g top)) 0 place cs → IsMet g E allowed top place top (length (rhs_of g top)) 0 place
  Before : {r d p m q x : ℕ} {cs : Children} {t : Tree} → IsMet g E allowed top place r (suc d) p q →
      Spans g E r d p m cs → part_of g r d ≡ Some x → Derives g E x m q t → IsMet g E allowed top place r d p m
  Last : {r r' d p m q : ℕ} {cs cs' : Children} → IsMet g E allowed top place r (suc d) p q →
      Spans g E r d p m cs → part_of g r d ≡ Some (lhs_of g r') → IsRule g r' → m < q →
      Spans g E r' (length (rhs_of g r')) m q cs' → allowed r' m q → IsMet g E allowed top place r' (length (rhs_of g r')) m q

-- the used nodes are those that are met, with one part or more
abbrev pub UsedAreMet : (g : FlatGrammar) (E : Edges) (allowed : Allowed) (top : ℕ) → Type 0
UsedAreMet g E allowed top = (place : ℕ) (n : NodeKey) → IsUsed g E allowed top place n ↔ ((0 < n.dot) × IsMet g E allowed top place n.rule n.dot n.origin n.end)

pub record Placed : Type 0 where
  pub place : ℕ
  pub item : Item

-- a hidden item that begins no earlier than some used node with the same end
abbrev pub IsExpanded : (g : FlatGrammar) (E : Edges) (allowed : Allowed) (top place : ℕ) → Placed → Type 0
IsExpanded g E allowed top place p =
    IsHidden g E top p.place p.item × ((n : NodeKey) × IsUsed g E allowed top place n × (n.end ≡ p.place) × (n.origin ≤ p.item.origin))

-- the four numbers of a reading
pub record IsStats (g : FlatGrammar) (E : Edges) (allowed : Allowed) (top place : ℕ) (tokens kept nodes expanded : ℕ) : Type 0 where
  pub places : tokens ≡ place
  pub kept_items : IsCountOf {A = Placed} (λ p. (p.place ≤ place) × InReduced g E top p.place p.item) kept
  pub used_nodes : IsCountOf (IsUsed g E allowed top place) nodes
  pub hidden_items : IsCountOf (IsExpanded g E allowed top place) expanded
