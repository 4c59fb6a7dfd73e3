-- What a machine has read of a text, from a place on.
use Rattle.std.specs.Prelude.{◌≡◌, ℕ, ◌+◌, ◌<◌, ◌≤◌, ◌↔◌, List, Some, Contains, slice_get}
use Rattle.grammar_model.specs.Derives.{Edges}
use Rattle.recognizer_model.specs.declared.thread.Thread.{Thread}
use Rattle.recognizer_model.specs.Flat.{FlatGrammar}
use Rattle.recognizer_model.specs.FlatForm.{FlatEdges}
use Rattle.recognizer_model.specs.Threads.{IsRunOf}
use Rattle.threads.specs.Lists.{IsGrown}
use Rattle.threads.specs.Steps.{Keeps}
use Rattle.lexer.specs.Lexical.{LexicalForm, SetEdges, HasMatch}
use Rattle.lexer.specs.Machines.{IsMatch}

-- the text's edges, by places after that place
abbrev pub EdgesFrom : LexicalForm → List ℕ → (at : ℕ) → Edges
EdgesFrom l text at x i j = FlatEdges l.flat (SetEdges l.sets text) x (at + i) (at + j)

-- the row after the first characters is that of a run, whatever parts come later
pub record HasRun (l : LexicalForm) (text : List ℕ) (at : ℕ) (starts : List ℕ) (parts : List (List Thread)) (row : List Thread) (n : ℕ) : Type 0 where
  pub sets : ℕ → List Thread
  pub rows : ℕ → List Thread
  pub runs : (later : List (List Thread)) → IsGrown parts later → IsRunOf l.flat (EdgesFrom l text at) later starts sets rows n
  pub keeps : Keeps l.flat (sets n) (rows n)
  pub last : rows n ≡ row

-- the start's rule is done in the row
abbrev pub IsDoneIn : FlatGrammar → List Thread → ℕ → Type 0
IsDoneIn g row k = (th : Thread) × Contains row th × IsMatch g th × (slice_get g.tops k ≡ Some th.rule)

-- the greatest length up to the place that a candidate matches, or 0, and the row there
pub record IsBestTo (l : LexicalForm) (text : List ℕ) (at : ℕ) (candidates : List ℕ) (place : ℕ) (row : List Thread) (n : ℕ) : Type 0 where
  pub within : n ≤ place
  pub longest : (k m : ℕ) → m ≤ place → Contains candidates k → HasMatch l text k at (at + m) → m ≤ n
  pub some : 0 < n → (k : ℕ) × Contains candidates k × IsDoneIn l.flat row k
  pub exact : 0 < n → (k : ℕ) → Contains candidates k → IsDoneIn l.flat row k ↔ HasMatch l text k at (at + n)

-- the greatest length of all
pub record IsBestRow (l : LexicalForm) (text : List ℕ) (at : ℕ) (candidates : List ℕ) (row : List Thread) (n : ℕ) : Type 0 where
  pub longest : (k m : ℕ) → Contains candidates k → HasMatch l text k at (at + m) → m ≤ n
  pub some : 0 < n → (k : ℕ) × Contains candidates k × IsDoneIn l.flat row k
  pub exact : 0 < n → (k : ℕ) → Contains candidates k → IsDoneIn l.flat row k ↔ HasMatch l text k at (at + n)
