-- Chosen derivations of a flat grammar: in the place of each node only some rules are allowed. A ranking allows those of the best
-- rank, which are compared among the rules of one left side that derive one span. A flat rule has the rank of the written rule that
-- it comes from; so all rules of a list have one rank, and a top has one rule.
-- Source: the Marpa::R2 SLIF documentation (the ranking method high_rule_only); what is compared is our own.
use Rattle.std.specs.Prelude.{◌≡◌, ℕ, ℤ, ⊤, ◌≤ℤ◌, length}
use Rattle.grammar_model.specs.Grammar.{Grammar, rule_at}
use Rattle.grammar_model.specs.Trees.{Tree, Children, Leaf, Nulled, Node, NoChild, Child}
use Rattle.grammar_model.specs.Derives.{Edges}
use Rattle.grammar_model.specs.declared.Ranking.{Ranking}
use Rattle.grammar_model.specs.declared.Ranking.TheVariants.{None as NoRanks, Rule as RuleRanks, High as HighRanks}
use Rattle.grammar_model.specs.Order.{rank_by}
use Rattle.recognizer_model.specs.Flat.{FlatGrammar, IsRule, lhs_of, rhs_of, source_of}
use Rattle.recognizer_model.specs.FlatForm.{source_number}
use Rattle.recognizer_model.specs.FlatDerives.{Derives, Spans}

-- which rules are allowed over which spans
abbrev pub Allowed : Type 1
Allowed = (rule from to : ℕ) → Type 0

abbrev mutual
  -- each node of the tree has an allowed rule in its place
  pub AreAllowed : Allowed → Tree → Type 0
  AreAllowed allowed (Leaf symbol from to) = ⊤
  AreAllowed allowed (Nulled symbol at) = ⊤
  AreAllowed allowed (Node rule children from to) = allowed rule from to × AreAllowedIn allowed children

  pub AreAllowedIn : Allowed → Children → Type 0
  AreAllowedIn allowed NoChild = ⊤
  AreAllowedIn allowed (Child prefix last) = AreAllowedIn allowed prefix × AreAllowed allowed last

-- whatever derives has a derivation of allowed rules
abbrev pub LeavesSome : FlatGrammar → Edges → Allowed → Type 0
LeavesSome g E allowed = (x p q : ℕ) (t : Tree) → Derives g E x p q t → (u : Tree) × Derives g E x p q u × AreAllowed allowed u

-- the rank of what the flat rule comes from
abbrev pub flat_rank : Grammar → Ranking → FlatGrammar → ℕ → ℤ
flat_rank w ranking g r = rank_by ranking (rule_at w (source_number w (source_of g r)))

-- no rule of the same left side that derives the span has a higher rank
abbrev pub IsBestRule : Grammar → Ranking → FlatGrammar → Edges → Allowed
IsBestRule w ranking g E rule p q = (other : ℕ) (children : Children) → IsRule g other → lhs_of g other ≡ lhs_of g rule →
    Spans g E other (length (rhs_of g other)) p q children → flat_rank w ranking g other ≤ℤ flat_rank w ranking g rule

-- which rules the ranking allows
abbrev pub allowed_by : Grammar → Ranking → FlatGrammar → Edges → Allowed
allowed_by w NoRanks g E rule p q = ⊤
allowed_by w RuleRanks g E rule p q = ⊤
allowed_by w HighRanks g E rule p q = IsBestRule w HighRanks g E rule p q
