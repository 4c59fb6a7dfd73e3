-- The values of derivations, by the steps of each: they are put one after another, and a rule takes those of its children from the end.
use Rattle.std.specs.Prelude.{◌≡◌, ℕ, ◌-◌, ◌<◌, ◌≤◌, ◌++◌, List, [], ◌∷◌, length, take, drop}
use Rattle.grammar_model.specs.declared.Edge.{Edge}
use Rattle.grammar_model.specs.Grammar.{Grammar, Slot, rule_at, lhs_of}
use Rattle.grammar_model.specs.Trees.{Tree}
use Rattle.grammar_model.specs.Derives.{Held, Derives}
use Rattle.grammar_model.specs.Steps.{Step, TokenStep, NulledStep, RuleStep, steps_of}
use Rattle.grammar_model.specs.Values.{Value, Text, Number, list_of, name_of}
use Rattle.value_text.specs.Pool.{AreIds}
use Rattle.valuator.specs.Made.{values_at, IsGrown, StandsFor}

abbrev pub after_step : Grammar → List Value → Step → List Value
after_step g values (TokenStep symbol from to) = values ++ list_of (Text (name_of g symbol) ∷ Number from ∷ Number to ∷ []) ∷ []
after_step g values (NulledStep symbol at) = values ++ list_of (Text (name_of g symbol) ∷ []) ∷ []
after_step g values (RuleStep rule n from to) =
    take (length values - n) values ++ list_of (Text (name_of g (lhs_of (rule_at g rule))) ∷ Number rule ∷ drop (length values - n) values) ∷ []

abbrev pub after_steps : Grammar → List Value → List Step → List Value
after_steps g values [] = values
after_steps g values (step ∷ steps) = after_steps g (after_step g values step) steps

-- the step can be done where so many values are held: its symbol or its rule is of the grammar, and its children are held
abbrev pub CanPut : Grammar → (held : ℕ) → Step → Type 0
CanPut g held (TokenStep symbol from to) = symbol < length g.names
CanPut g held (NulledStep symbol at) = symbol < length g.names
CanPut g held (RuleStep rule n from to) = (rule < length g.rules) × (n ≤ held)

-- the steps of a derivation over some edges
pub record AreStepsOf (g : Grammar) (steps : List Step) : Type 0 where
  pub tree : Tree
  pub edges : List Edge
  pub slot : Slot
  pub from : ℕ
  pub to : ℕ
  pub known : slot.symbol < length g.names
  pub derived : Derives g (Held edges) slot from to tree
  pub are : steps ≡ steps_of tree

-- a value more is in the pool, perhaps after others, and the id stands for it
pub record IsAdded (old new : List Value) (id : ℕ) (value : Value) : Type 0 where
  pub grown : IsGrown old new
  pub stands : StandsFor new id value

-- the ids stand for these values
pub record Holds (pool : List Value) (ids : List ℕ) (values : List Value) : Type 0 where
  pub inside : AreIds pool ids
  pub are : values_at pool ids ≡ values
