-- Where symbols may stand, what is found there, and Earley's theorem, which says the same of items.
use Rattle.std.specs.Prelude.{◌≡◌, ℕ, Some, ◌↔◌, ◌≢◌}
use Rattle.recognizer_model.specs.declared.Item.{Item}
use Rattle.grammar_model.specs.Trees.{Children}
use Rattle.recognizer_model.specs.Flat.{FlatGrammar, IsRule, lhs_of, part_of}
use Rattle.grammar_model.specs.Derives.{Edges}
use Rattle.recognizer_model.specs.FlatDerives.{Spans}
use Rattle.recognizer_model.specs.Items.{InSet}

-- a symbol may stand at a place: it is the start at 0, or the next part of a rule that may stand somewhere
-- before, and whose earlier parts are there
pub data MayStand (g : FlatGrammar) (E : Edges) (top : ℕ) : (symbol place : ℕ) → Type 0 where
  AtStart : {x : ℕ} → lhs_of g top ≡ x → MayStand g E top x 0
  Next : {y p r d q x : ℕ} {cs : Children} → MayStand g E top y p → IsRule g r → lhs_of g r ≡ y →
      Spans g E r d p q cs → part_of g r d ≡ Some x → MayStand g E top x q

-- the rule may stand at the item's origin, and its parts before the dot are there up to the place
pub record IsFound (g : FlatGrammar) (E : Edges) (top place : ℕ) (item : Item) : Type 0 where
  pub is_rule : IsRule g item.rule
  pub may_stand : MayStand g E top (lhs_of g item.rule) item.origin
  pub children : Children
  pub spans : Spans g E item.rule item.dot item.origin place children

-- the top is a rule, its symbol has no other, and stands in no right side
pub record IsTop (g : FlatGrammar) (top : ℕ) : Type 0 where
  pub is_rule : IsRule g top
  pub alone : (r : ℕ) → IsRule g r → lhs_of g r ≡ lhs_of g top → r ≡ top
  pub outermost : (r position : ℕ) → part_of g r position ≢ Some (lhs_of g top)

-- Earley's theorem: the items of a set are what was found there
abbrev pub ItemsAreFound : (g : FlatGrammar) (E : Edges) (top : ℕ) → Type 0
ItemsAreFound g E top = (place : ℕ) (item : Item) → InSet g E top place item ↔ IsFound g E top place item
