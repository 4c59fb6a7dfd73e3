-- THE LINES OF A SCRIPT. A line is words with a space between each two; it spells a command, or none. A word is UTF-8 bytes.
-- Source: the commands name the calls of the Libmarpa manual; the lines are our own.
use Rattle.std.specs.Prelude.{◌≡◌, ℕ, ◌==◌, ◌<◌, ◌≤◌, ◌^◌, Bool, true, false, if◌then◌else◌, nat_lt, List, [], ◌∷◌, length, Option, Some, None, codes}
use Rattle.std.specs.Char.{is_ascii_digit}
use Rattle.std.specs.List.{list_all, slice_split}
use Rattle.grammar_model.specs.Limits.{digits_number}

-- names are words
pub data Command : Type 0 where
  Symbol : (name : List ℕ) → Command
  Rule : (lhs : List ℕ) (rhs : List (List ℕ)) → Command
  Sequence : (lhs item : List ℕ) (plus : Bool) (separator : Option (List ℕ)) (proper : Bool) → Command
  Start : (name : List ℕ) → Command
  Precompute : Command
  Alternative : (name : List ℕ) (length : ℕ) → Command
  Complete : Command
  Expected : Command
  Report : (place : ℕ) → Command
  Trees : (count : ℕ) → Command

-- a grammar is built, and then read by
pub data Phase : Type 0 where
  Building : Phase
  Reading : Phase

abbrev pub phase_of : Command → Phase
phase_of (Symbol name) = Building
phase_of (Rule lhs rhs) = Building
phase_of (Sequence lhs item plus separator proper) = Building
phase_of (Start name) = Building
phase_of Precompute = Building
phase_of (Alternative name n) = Reading
phase_of Complete = Reading
phase_of Expected = Reading
phase_of (Report place) = Reading
phase_of (Trees count) = Reading

-- ---- WHAT THE WORDS OF A COMMAND ARE

-- one to ten ASCII digits spell the number, which fits 32 bits
pub record SpellsNumber (digits : List ℕ) (n : ℕ) : Type 0 where
  pub some : 0 < length digits
  pub few : length digits ≤ 10
  pub all : list_all is_ascii_digit digits ≡ true
  pub is : n ≡ digits_number digits
  pub within : n < 2 ^ 32

abbrev pub kind_word : (plus : Bool) → List ℕ
kind_word plus = if plus then codes "plus" else codes "star"

-- a separator, and after it whether none may stand after the last item; without a separator nothing is said of that
abbrev pub SpellsSeparator : (separator : Option (List ℕ)) (proper : Bool) → List (List ℕ) → Type 0
SpellsSeparator None proper words = (words ≡ []) × (proper ≡ false)
SpellsSeparator (Some name) true words = words ≡ codes "by" ∷ name ∷ codes "proper" ∷ []
SpellsSeparator (Some name) false words = words ≡ codes "by" ∷ name ∷ []

abbrev pub Spells : Command → List (List ℕ) → Type 0
Spells (Symbol name) words = words ≡ codes "symbol" ∷ name ∷ []
Spells (Rule lhs rhs) words = words ≡ codes "rule" ∷ lhs ∷ rhs
Spells (Sequence lhs item plus separator proper) words =
    (more : List (List ℕ)) × SpellsSeparator separator proper more × (words ≡ codes "sequence" ∷ lhs ∷ item ∷ kind_word plus ∷ more)
Spells (Start name) words = words ≡ codes "start" ∷ name ∷ []
Spells Precompute words = words ≡ codes "precompute" ∷ []
Spells (Alternative name n) words = (digits : List ℕ) × SpellsNumber digits n × (words ≡ codes "alternative" ∷ name ∷ digits ∷ [])
Spells Complete words = words ≡ codes "complete" ∷ []
Spells Expected words = words ≡ codes "expected" ∷ []
Spells (Report place) words = (digits : List ℕ) × SpellsNumber digits place × (words ≡ codes "report" ∷ digits ∷ [])
Spells (Trees count) words = (digits : List ℕ) × SpellsNumber digits count × (words ≡ codes "trees" ∷ digits ∷ [])

-- ---- LINES

-- a line feed ends a line; what follows the last one is a line where it is not empty
abbrev pub without_empty_end : List (List ℕ) → List (List ℕ)
without_empty_end [] = []
without_empty_end ([] ∷ []) = []
without_empty_end (line ∷ lines) = line ∷ without_empty_end lines

abbrev pub lines_of : List ℕ → List (List ℕ)
lines_of text = without_empty_end (slice_split (λ c. c == 10) text)

abbrev pub words_of : List ℕ → List (List ℕ)
words_of line = slice_split (λ c. c == 32) line

-- the line is this command: its words, of which none is empty, spell it
pub record IsCommand (line : List ℕ) (command : Command) : Type 0 where
  pub words : list_all (λ w. nat_lt 0 (length w)) (words_of line) ≡ true
  pub spells : Spells command (words_of line)
