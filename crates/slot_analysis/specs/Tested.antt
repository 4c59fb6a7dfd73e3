-- What slots can do, as tests.
use Rattle.std.specs.Prelude.{◌≡◌, Bool, true, ◌↔◌}
use Rattle.grammar_model.specs.Grammar.{Grammar, Slot}
use Rattle.grammar_model.specs.Analysis.{IsNullable, IsProductive, IsAccessible}

pub record HasTests (g : Grammar) : Type 0 where
  pub nullable : Slot → Bool
  pub nullable_is : (s : Slot) → (nullable s ≡ true) ↔ IsNullable g s
  pub productive : Slot → Bool
  pub productive_is : (s : Slot) → (productive s ≡ true) ↔ IsProductive g s
  pub accessible : Slot → Bool
  pub accessible_is : (s : Slot) → (accessible s ≡ true) ↔ IsAccessible g s
