-- What actions are given, as ids of a pool, and what a pool that has grown still holds.
use Rattle.std.specs.Prelude.{◌≡◌, ℕ, ◌<◌, List, ◌++◌, length, map}
use Rattle.value_text.specs.Nodes.{value_at}
use Rattle.valuator.specs.declared.make.Parts.{Parts}
use Rattle.grammar_model.specs.Values.{Value, Made}

-- the values that an action is given
abbrev pub made_of : List Value → Parts → Made
made_of values p = record { name = p.name.now; start = p.start; length = p.length; g1start = p.g1start; g1length = p.g1length; children = map (value_at values) p.children.now }

-- the values that ids stand for
abbrev pub values_at : List Value → List ℕ → List Value
values_at values ids = map (value_at values) ids

-- a pool that has perhaps more values than before
pub record IsGrown (old new : List Value) : Type 0 where
  pub more : List Value
  pub is : new ≡ old ++ more

-- the id stands for the value
pub record StandsFor (values : List Value) (id : ℕ) (value : Value) : Type 0 where
  pub inside : id < length values
  pub is : value_at values id ≡ value
