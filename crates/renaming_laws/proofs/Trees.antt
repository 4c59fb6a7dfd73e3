-- Derivations, and the nodes that they have, under other names.
use Rattle.std.proofs.Common.{◌≡◌, ◌∙◌, ℕ, suc, length, ap, sym, refl, subst}
use Rattle.std.specs.Prelude.{◌≤ℤ◌, ℤ}
use Rattle.grammar_model.specs.Grammar.{Grammar, rule_at}
use Rattle.grammar_model.specs.declared.Ranking.{Ranking}
use Rattle.grammar_model.specs.declared.Ranking.TheVariants.{None as NoRanks, Rule as RuleRanks, High as HighRanks}
use Rattle.grammar_model.specs.Order.{rank_by}
use Rattle.grammar_model.specs.Trees.{Tree, Children, Leaf, Nulled, Node, NoChild, Child, child_count, from_of}
use Rattle.grammar_model.specs.Derives.{Edges}
use Rattle.recognizer_model.specs.declared.NodeKey.{NodeKey}
use Rattle.recognizer_model.specs.Flat.{FlatGrammar, IsRule, lhs_of, rhs_of}
use Rattle.recognizer_model.specs.declared.flat.FlatSource.{FlatSource}
use Rattle.recognizer_model.specs.FlatForm.{source_number}
use Rattle.recognizer_model.specs.FlatDerives.{Derives, Spans, Token, Null, Rule, Nothing, More}
use Rattle.recognizer_model.specs.Chosen.{Allowed, AreAllowed, AreAllowedIn, IsBestRule, flat_rank, allowed_by}
use Rattle.recognizer_model.specs.Nodes.{Has, All, Fewer, Inside, IsUsed}
use Rattle.renaming_laws.proofs.Renamed.{Names, Renamed, flip, part_there, length_there, left_there}

-- ---- trees

mutual
  pub tree_named : (symbol rule : ℕ → ℕ) → Tree → Tree
  tree_named symbol rule (Leaf x from to) = Leaf (symbol x) from to
  tree_named symbol rule (Nulled x at) = Nulled (symbol x) at
  tree_named symbol rule (Node r children from to) = Node (rule r) (children_named symbol rule children) from to

  pub children_named : (symbol rule : ℕ → ℕ) → Children → Children
  children_named symbol rule NoChild = NoChild
  children_named symbol rule (Child prefix last) = Child (children_named symbol rule prefix) (tree_named symbol rule last)

from_same : (symbol rule : ℕ → ℕ) (t : Tree) → from_of (tree_named symbol rule t) ≡ from_of t
unfolding tree_named
from_same symbol rule (Leaf x from to) = refl
from_same symbol rule (Nulled x at) = refl
from_same symbol rule (Node r children from to) = refl

count_same : (symbol rule : ℕ → ℕ) (cs : Children) → child_count (children_named symbol rule cs) ≡ child_count cs
unfolding children_named
count_same symbol rule NoChild = refl
count_same symbol rule (Child prefix last) = ap suc (count_same symbol rule prefix)

module _ {f g : FlatGrammar} {E F : Edges} {symbol rule : ℕ → ℕ} (names : Names f g E F symbol rule) where
  mutual
    unfolding tree_named children_named

    pub derives_there : {x p q : ℕ} {t : Tree} → Derives f E x p q t → Derives g F (symbol x) p q (tree_named symbol rule t)
    derives_there (Token {x = x} {p = p} {q = q} e) = Token (names.edge x p q e)
    derives_there (Null {x = x} n) = Null (names.marked x n)
    derives_there (Rule {x = x} {p = p} {q = q} {r = r} {cs = cs} is l lt s) =
        Rule (names.is_rule r is) (left_there names r x is l) lt
        (subst (λ (n : ℕ). Spans g F (rule r) n p q (children_named symbol rule cs)) (sym (length_there names r is)) (spans_there is s))

    pub spans_there : {r d p q : ℕ} {cs : Children} → IsRule f r → Spans f E r d p q cs → Spans g F (rule r) d p q (children_named symbol rule cs)
    spans_there is Nothing = Nothing
    spans_there {r} is (More {d = d} {x = x} s part t) = More (spans_there is s) (part_there names r d x is part) (derives_there t)

  whole_spans : {r p q : ℕ} {cs : Children} → IsRule f r → Spans f E r (length (rhs_of f r)) p q cs → Spans g F (rule r) (length (rhs_of g (rule r))) p q (children_named symbol rule cs)
  whole_spans {r} {p} {q} {cs} is s = subst (λ (n : ℕ). Spans g F (rule r) n p q (children_named symbol rule cs)) (sym (length_there names r is)) (spans_there is s)

  pub has_there : {t : Tree} {r p q : ℕ} {cs : Children} → Has t r p q cs → Has (tree_named symbol rule t) (rule r) p q (children_named symbol rule cs)
  unfolding tree_named children_named
  has_there All = All
  has_there (Fewer {t = t} {last = last} {r = r} {p = p} {prefix = prefix} h) =
      subst (λ (m : ℕ). Has (tree_named symbol rule t) (rule r) p m (children_named symbol rule prefix)) (from_same symbol rule last) (Fewer (has_there h))
  has_there (Inside h) = Inside (has_there h)

-- ---- the nodes of a derivation are of rules

module _ (f : FlatGrammar) (E : Edges) where
  spans_count : {r d p q : ℕ} {cs : Children} → Spans f E r d p q cs → child_count cs ≡ d
  spans_count Nothing = refl
  spans_count (More s part t) = ap suc (spans_count s)

  derives_from : {x p q : ℕ} {t : Tree} → Derives f E x p q t → from_of t ≡ p
  derives_from (Token e) = refl
  derives_from (Null n) = refl
  derives_from (Rule is l lt s) = refl

  last_from : {r d p q : ℕ} {cs : Children} {t : Tree} → Spans f E r d p q (Child cs t) → (e : ℕ) × (suc e ≡ d) × Spans f E r e p (from_of t) cs
  last_from {r} {cs = cs} (More {d = d} {p = p} s part t) = (d, refl, subst (λ (m : ℕ). Spans f E r d p m cs) (sym (derives_from t)) s)

  last_spans : {r d p q a b s : ℕ} {cs ds : Children} → Spans f E r d p q (Child cs (Node s ds a b)) → IsRule f s × Spans f E s (length (rhs_of f s)) a b ds
  last_spans (More before part (Rule is l lt s)) = (is, s)

  pub has_spans : {x a b r p q : ℕ} {t : Tree} {cs : Children} → Derives f E x a b t → Has t r p q cs → IsRule f r × ((d : ℕ) × Spans f E r d p q cs)
  has_spans (Rule {r = r} is l lt s) All = (is, (length (rhs_of f r), s))
  has_spans d (Fewer h) =
      let (is, (n, s)) = has_spans d h in
      let (e, same, rest) = last_from s in
      (is, (e, rest))
  has_spans d (Inside {r' = r'} h) =
      let (is, (n, s)) = has_spans d h in
      let (of, inside) = last_spans s in
      (of, (length (rhs_of f r'), inside))

-- ---- which rules are allowed

abbrev pub Keeps : (rule : ℕ → ℕ) (f : FlatGrammar) (allowed other : Allowed) → Type 0
Keeps rule f allowed other = (r p q : ℕ) → IsRule f r → allowed r p q → other (rule r) p q

module _ {f g : FlatGrammar} {E F : Edges} {symbol rule : ℕ → ℕ} (names : Names f g E F symbol rule) (allowed other : Allowed) (keeps : Keeps rule f allowed other) where
  mutual
    unfolding tree_named children_named

    pub allowed_there : {x p q : ℕ} {t : Tree} → Derives f E x p q t → AreAllowed allowed t → AreAllowed other (tree_named symbol rule t)
    allowed_there (Token e) a = tt
    allowed_there (Null n) a = tt
    allowed_there (Rule {p = p} {q = q} {r = r} is l lt s) (a, more) = (keeps r p q is a, allowed_in s more)

    allowed_in : {r d p q : ℕ} {cs : Children} → Spans f E r d p q cs → AreAllowedIn allowed cs → AreAllowedIn other (children_named symbol rule cs)
    allowed_in Nothing a = tt
    allowed_in (More s part t) (before, last) = (allowed_in s before, allowed_there t last)

module _ {f g : FlatGrammar} {E F : Edges} (ren : Renamed f g E F) (w : Grammar) where
  rank_same : (ranking : Ranking) (r : ℕ) → IsRule f r → flat_rank w ranking g (ren.rule r) ≡ flat_rank w ranking f r
  rank_same ranking r is = ap (λ (s : FlatSource). rank_by ranking (rule_at w (source_number w s))) (ren.there.source r is)

module _ {f g : FlatGrammar} {E F : Edges} (ren : Renamed f g E F) (w : Grammar) where
  best_there : (r p q : ℕ) → IsRule f r → IsBestRule w HighRanks f E r p q → IsBestRule w HighRanks g F (ren.rule r) p q
  best_there r p q is best other children of left spans =
      let same : lhs_of f (ren.rule_back other) ≡ lhs_of f r =
      ren.back.left other of ∙ ap ren.symbol_back (left ∙ ren.there.left r is) ∙ ren.same_symbol (lhs_of f r) (ren.flat.in_range.left r is) in
      let most = best (ren.rule_back other) (children_named ren.symbol_back ren.rule_back children) (ren.back.is_rule other of) same (whole_spans ren.back of spans) in
      subst (λ (k : ℤ). k ≤ℤ flat_rank w HighRanks g (ren.rule r)) (rank_same (flip ren) w HighRanks other of)
      (subst (λ (k : ℤ). flat_rank w HighRanks f (ren.rule_back other) ≤ℤ k) (sym (rank_same ren w HighRanks r is)) most)

  pub ranking_there : (ranking : Ranking) → Keeps ren.rule f (allowed_by w ranking f E) (allowed_by w ranking g F)
  ranking_there NoRanks r p q is a = tt
  ranking_there RuleRanks r p q is a = tt
  ranking_there HighRanks r p q is a = best_there r p q is a

-- ---- used nodes

abbrev pub key_named : (ℕ → ℕ) → NodeKey → NodeKey
key_named rule n = record { rule = rule n.rule; dot = n.dot; origin = n.origin; end = n.end }

module _ {f g : FlatGrammar} {E F : Edges} (ren : Renamed f g E F) (top : ℕ) (is_rule : IsRule f top) (allowed other : Allowed) (keeps : Keeps ren.rule f allowed other) where
  pub used_there : {place : ℕ} {n : NodeKey} → IsUsed f E allowed top place n → IsUsed g F other (ren.rule top) place (key_named ren.rule n)
  used_there {place} {n} used = record {
    tree = tree_named ren.symbol ren.rule used.tree;
    derives = subst (λ (x : ℕ). Derives g F x 0 place (tree_named ren.symbol ren.rule used.tree)) (sym (ren.there.left top is_rule)) (derives_there ren.there used.derives);
    chosen = allowed_there ren.there allowed other keeps used.derives used.chosen;
    children = children_named ren.symbol ren.rule used.children;
    has = has_there ren.there used.has;
    dot_is = used.dot_is ∙ sym (count_same ren.symbol ren.rule used.children);
    some = used.some;
  }

pub used_rule : (f : FlatGrammar) (E : Edges) (allowed : Allowed) (top place : ℕ) (n : NodeKey) → IsUsed f E allowed top place n → IsRule f n.rule
used_rule f E allowed top place n used = (has_spans f E used.derives used.has).0
