-- What is decided: it holds, or it does not.
use Rattle.std.specs.Prelude.{◌⊎◌}

abbrev pub IsDecided : Type 0 → Type 0
IsDecided P = P ⊎ (P → ⊥)
