-- Stretches of lists.
use Rattle.std.specs.Prelude.{ℕ, ◌-◌, List, take, drop}

-- those from one place up to another
abbrev pub between : {A : Type 0} → (first end : ℕ) → List A → List A
between first end xs = take (end - first) (drop first xs)
