-- What is added to a set.
use Rattle.std.specs.Prelude.{◌≡◌, ℕ, ◌<◌, ◌≤◌, ◌++◌, ◌∷◌, [], List, length, Some, Contains, slice_index_or, ◌↔◌, ◌⊎◌}
use Rattle.recognizer_model.specs.Flat.{FlatGrammar, IsRule, lhs_of}
use Rattle.recognizer_model.specs.declared.thread.Label.{Label}
use Rattle.recognizer_model.specs.declared.thread.Thread.{Thread}
use Rattle.recognizer_model.specs.Threads.{next, begun, step, Reached, IsTopRule, IsPlace, PartAt}
use Rattle.threads.specs.Lists.{IsThread, AreThreads}
use Rattle.threads.specs.Steps.{LeavesIn, LeadsTo, HasNext}

-- a thread that was there, or that goes last
abbrev pub Adds : (old new : List Thread) → Thread → Type 0
Adds old new th = ((new ≡ old) × Contains old th) ⊎ ((new ≡ old ++ th ∷ []) × (¬ Contains old th))

-- a set after some threads were added to it
pub record Grows (old new threads : List Thread) : Type 0 where
  pub begins : (more : List Thread) × (new ≡ old ++ more)
  pub has : (th : Thread) → Contains new th ↔ (Contains old th ⊎ Contains threads th)

-- a rule of the symbol, at its begin
abbrev pub IsBegun : FlatGrammar → (symbol : ℕ) → Thread → Type 0
IsBegun g x other = (r : ℕ) × IsRule g r × (lhs_of g r ≡ x) × (other ≡ begun r)

-- the threads of a label's part that wait for its goal, advanced
pub record AreCompleted (g : FlatGrammar) (parts : List (List Thread)) (l : Label) (old new : List Thread) : Type 0 where
  pub kept : (other : Thread) → Contains old other → Contains new other
  pub sound : (other : Thread) → Contains new other →
      Contains old other ⊎ ((waiting : Thread) × (l' : Label) × PartAt g parts l.part waiting × (next g waiting ≡ Some l.goal) × LeavesIn g parts (PartAt g parts l.part) waiting l' × (other ≡ step waiting (Some l')) × (IsThread g (length parts) other))
  pub whole : (waiting : Thread) → PartAt g parts l.part waiting → next g waiting ≡ Some l.goal →
      (l' : Label) × LeavesIn g parts (PartAt g parts l.part) waiting l' × Contains new (step waiting (Some l'))

-- just what follows from a thread
pub record IsFollowed (g : FlatGrammar) (parts : List (List Thread)) (th : Thread) (threads : List Thread) : Type 0 where
  pub sound : (other : Thread) → Contains threads other → LeadsTo g parts th other
  pub are : AreThreads g (length parts) threads
  pub whole : HasNext g parts th (Contains threads)

-- a set in which what follows from the first k threads is there
pub record IsClosedTo (g : FlatGrammar) (parts : List (List Thread)) (seeds keys : List Thread) (k : ℕ) : Type 0 where
  pub begins : (th : Thread) → Contains seeds th → Contains keys th
  pub reached : (th : Thread) → Contains keys th → Reached g (IsTopRule g) (IsPlace parts) (PartAt g parts) (Contains seeds) th
  pub followed : (i : ℕ) (d : Thread) → i < k → HasNext g parts (slice_index_or keys i d) (Contains keys)
  pub within : k ≤ length keys
  pub threads : AreThreads g (length parts) keys
