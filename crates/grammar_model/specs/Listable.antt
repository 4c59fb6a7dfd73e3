-- Where a list of all derivations exists: over a grammar of plain rules whose symbols can be tested, where the rules
-- of each slot can be put in order, and where a height falls from a slot to a child that may span the whole, which
-- is where all beside it is nullable.
use Rattle.std.specs.Prelude.{◌≡◌, ◌≢◌, ℕ, ◌<◌, Bool, true, List, length, ◌↔◌, Contains}
use Rattle.std.specs.List.Sorted.{IsStrictlySortedBy}
use Rattle.grammar_model.specs.Grammar.{Grammar, IsPlain, Slot, rule_at, Fits, IsTerminal, slot_count, child_slot}
use Rattle.grammar_model.specs.Trees.{Tree}
use Rattle.grammar_model.specs.Analysis.{IsNullable}
use Rattle.grammar_model.specs.Order.{RuleOrder, IsRuleOrder}
use Rattle.grammar_model.specs.All.{IsAll}
use Rattle.grammar_model.specs.Simple.{Tested}

pub record IsListable (g : Grammar) (test : ℕ → ℕ → ℕ → Bool) (order : RuleOrder) : Type 0 where
  pub plain : (i : ℕ) → i < length g.rules → IsPlain (rule_at g i)
  pub forward : (s p q : ℕ) → Tested test s p q → p < q
  pub order_laws : IsRuleOrder order
  pub null : Slot → Bool
  pub nulls : (s : Slot) → (null s ≡ true) ↔ IsNullable g s
  pub terminal : Slot → Bool
  pub terminals : (s : Slot) → (terminal s ≡ true) ↔ IsTerminal g s.symbol
  pub rules_of : Slot → List ℕ
  pub rules_sorted : (s : Slot) → IsStrictlySortedBy (λ i j. order.cmp i (slot_count (rule_at g i)) j (slot_count (rule_at g j))) (rules_of s)
  pub rules_are : (s : Slot) (i : ℕ) → Contains (rules_of s) i ↔ ((i < length g.rules) × Fits (rule_at g i) s)
  pub height : Slot → ℕ
  pub top : ℕ
  pub capped : (s : Slot) → height s < top
  pub falls : (s : Slot) (i k : ℕ) → i < length g.rules → Fits (rule_at g i) s → k < slot_count (rule_at g i) →
      ((j : ℕ) → j < slot_count (rule_at g i) → j ≢ k → IsNullable g (child_slot (rule_at g i) j)) → height (child_slot (rule_at g i) k) < height s

abbrev pub ListExists : Type 0
ListExists = (g : Grammar) (test : ℕ → ℕ → ℕ → Bool) (order : RuleOrder) → IsListable g test order → (slot : Slot) (p q : ℕ) → (trees : List Tree) × IsAll g (Tested test) order slot p q trees
