-- What the rows of a text are made of, one after another. What is said of parts is said of all later lists of them too.
use Rattle.std.specs.Prelude.{◌≡◌, ℕ, ◌↔◌, ◌⊎◌, List, Some, None, Contains, slice_get}
use Rattle.recognizer_model.specs.declared.flat.FlatSymbol.TheVariants.{Terminal}
use Rattle.recognizer_model.specs.Flat.{FlatGrammar, IsRule, lhs_of, IsNullable}
use Rattle.recognizer_model.specs.declared.thread.Label.{Label}
use Rattle.recognizer_model.specs.declared.thread.Thread.{Thread}
use Rattle.recognizer_model.specs.Threads.{Row, next, IsDone, begun, step, IsPart, IsLone, Folds, Leaves, IsClosed, IsStep, IsFirst, IsTopRule, IsChosen, Waiting, IsPlace, PartAt}
use Rattle.threads.specs.declared.fold.Folded.{Folded}
use Rattle.threads.specs.declared.fold.Folded.TheVariants.{Up, Stays}
use Rattle.threads.specs.Lists.{IsGrown}

abbrev pub FoldsIn : FlatGrammar → List (List Thread) → Row → ℕ → Label → Type 0
FoldsIn g parts R x l = Folds g (IsTopRule g) (IsPlace parts) (PartAt g parts) R x l

abbrev pub LeavesIn : FlatGrammar → List (List Thread) → Row → Thread → Label → Type 0
LeavesIn g parts R th l = Leaves g (IsTopRule g) (IsPlace parts) (PartAt g parts) R th l

abbrev pub IsPartIn : FlatGrammar → List (List Thread) → Row → (s x : ℕ) → Type 0
IsPartIn g parts R s x = IsPart g (IsTopRule g) (IsPlace parts) (PartAt g parts) R s x

abbrev pub IsLoneIn : FlatGrammar → List (List Thread) → Row → ℕ → Thread → Type 0
IsLoneIn g parts R x th = IsLone g (IsTopRule g) (IsPlace parts) (PartAt g parts) R x th

-- what a symbol folds to, whatever the parts
abbrev pub IsFoldedTo : FlatGrammar → Row → ℕ → Folded → Type 0
IsFoldedTo g R x (Up l) = (parts : List (List Thread)) → FoldsIn g parts R x l
IsFoldedTo g R x (Stays goal) = (parts : List (List Thread)) (l : Label) → FoldsIn g parts R goal l → FoldsIn g parts R x l

-- a label that a thread of the list has
abbrev pub IsOfList : List Thread → Folded → Type 0
IsOfList threads (Up l) = (th : Thread) × Contains threads th × (th.label ≡ Some l)
IsOfList threads (Stays goal) = Unit {0}

-- with a symbol of the list, the left sides of the threads that begin there and wait for it
abbrev pub HasLefts : FlatGrammar → List Thread → List ℕ → Type 0
HasLefts g row goals = (low : Thread) (x : ℕ) → Contains row low → next g low ≡ Some x → Contains goals x → low.label ≡ None → Contains goals (lhs_of g low.rule)

-- the flat symbol of one of the terminals
abbrev pub IsReadBy : FlatGrammar → List ℕ → ℕ → Type 0
IsReadBy g terminals x = (t : ℕ) × (slice_get g.symbols x ≡ Some (Terminal t)) × Contains terminals t

-- what some threads of a row lead to by symbols that are read
pub record AreSeeds (g : FlatGrammar) (parts : List (List Thread)) (Reads : ℕ → Type 0) (row some seeds : List Thread) : Type 0 where
  pub sound : (other : Thread) → Contains seeds other →
      (th : Thread) × (x : ℕ) × (l : Label) × Waiting g row th × (next g th ≡ Some x) × Reads x × LeavesIn g parts (Waiting g row) th l × (other ≡ step th (Some l))
  pub whole : (th : Thread) (x : ℕ) → Contains some th → next g th ≡ Some x → Reads x → (l : Label) × LeavesIn g parts (Waiting g row) th l × Contains seeds (step th (Some l))

-- one thread leads to another in the same set
pub data LeadsTo (g : FlatGrammar) (parts : List (List Thread)) (th : Thread) : Thread → Type 0 where
  Predicts : {x r : ℕ} → next g th ≡ Some x → IsRule g r → lhs_of g r ≡ x → LeadsTo g parts th (begun r)
  Skips : {x : ℕ} → next g th ≡ Some x → IsNullable g x → LeadsTo g parts th (step th th.label)
  Completes : {waiting : Thread} {l l' : Label} → IsDone g th → th.label ≡ Some l → PartAt g parts l.part waiting → next g waiting ≡ Some l.goal →
      LeavesIn g parts (PartAt g parts l.part) waiting l' → LeadsTo g parts th (step waiting (Some l'))

-- what follows from the thread is there
pub record HasNext (g : FlatGrammar) (parts : List (List Thread)) (th : Thread) (K : Row) : Type 0 where
  pub predicts : (x r : ℕ) → next g th ≡ Some x → IsRule g r → lhs_of g r ≡ x → K (begun r)
  pub skips : (x : ℕ) → next g th ≡ Some x → IsNullable g x → K (step th th.label)
  pub completes : (waiting : Thread) (l : Label) → IsDone g th → th.label ≡ Some l → PartAt g parts l.part waiting → next g waiting ≡ Some l.goal →
      (l' : Label) × LeavesIn g parts (PartAt g parts l.part) waiting l' × K (step waiting (Some l'))

abbrev pub IsClosedIn : FlatGrammar → List (List Thread) → (seeds set : List Thread) → Type 0
IsClosedIn g parts seeds set = IsClosed g (IsTopRule g) (IsPlace parts) (PartAt g parts) (Contains seeds) (Contains set) (Waiting g set)

-- a row keeps those of the set that wait, and those of starts
abbrev pub Keeps : FlatGrammar → (set row : List Thread) → Type 0
Keeps g set row = (th : Thread) → Contains row th ↔ (Contains set th × (((x : ℕ) × (next g th ≡ Some x)) ⊎ IsTopRule g th.rule))

-- one row leads to another by symbols that are read
pub record IsNext (g : FlatGrammar) (parts : List (List Thread)) (Reads : ℕ → Type 0) (row set new : List Thread) : Type 0 where
  pub keeps : Keeps g set new
  pub steps : (later : List (List Thread)) → IsGrown parts later → IsStep g (IsTopRule g) (IsPlace later) (PartAt g later) Reads (Waiting g row) (Contains set) (Waiting g new)

-- the row of no text, for some starts
pub record IsBegin (g : FlatGrammar) (parts : List (List Thread)) (starts : List ℕ) (set new : List Thread) : Type 0 where
  pub keeps : Keeps g set new
  pub begins : (later : List (List Thread)) → IsGrown parts later → IsFirst g (IsTopRule g) (IsPlace later) (PartAt g later) (IsChosen g starts) (Contains set) (Waiting g new)
