-- The terminals of characters, and the classes of characters that have the same.
use Rattle.std.specs.Prelude.{ℕ, ◌<◌, ◌↔◌, List, length, Contains}
use Rattle.jagged.specs.Rows.{row_at}
use Rattle.language_model.specs.Classes.{Class, HasMember}

-- the terminal has a set with the character
abbrev pub HasTerminal : List (ℕ × Class) → (c terminal : ℕ) → Type 0
HasTerminal sets c terminal = (set : Class) × Contains sets (terminal, set) × HasMember set c

abbrev pub AreTerminalsOf : List (ℕ × Class) → (c : ℕ) → List ℕ → Type 0
AreTerminalsOf sets c terminals = (t : ℕ) → Contains terminals t ↔ HasTerminal sets c t

-- the sets of the terminals, and the terminals of each class of characters
pub record ClassRows : Type 0 where
  pub sets : List (ℕ × Class)
  pub rows : List (List ℕ)

-- the class of a character: its row has just the terminals of the character
pub record IsClassOf (sets : List (ℕ × Class)) (rows : List (List ℕ)) (c class : ℕ) : Type 0 where
  pub there : class < length rows
  pub exact : AreTerminalsOf sets c (row_at rows class)
