-- All hints about a grammar.
use Rattle.std.specs.Prelude.{◌≡◌, ℕ, List, ◌++◌, Option}
use Rattle.std.specs.List.{flat_map}
use Rattle.language_model.specs.Description.{Statement}
use Rattle.lint_hints.specs.Hints.{Hint, latm_hints, statement_hints}
use Rattle.lint_hints.specs.Uses.{unused_hints}
use Rattle.lint_hints.specs.Nullable.{Cause, IsCauseOf, sequence_hints}

-- the hints about the statements
pub record AreHints (d : List Statement) (hints : List Hint) : Type 0 where
  pub causes : List ℕ → Option Cause
  pub each : (name : List ℕ) → IsCauseOf d name (causes name)
  pub are : hints ≡ ((latm_hints d ++ flat_map statement_hints d) ++ unused_hints d) ++ flat_map (sequence_hints causes) d

-- to hints come those about sequences
pub record AddsSequences (d : List Statement) (old new : List Hint) : Type 0 where
  pub causes : List ℕ → Option Cause
  pub each : (name : List ℕ) → IsCauseOf d name (causes name)
  pub are : new ≡ old ++ flat_map (sequence_hints causes) d
