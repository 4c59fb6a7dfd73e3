-- Lists of threads, and the lists of parts that their labels name.
use Rattle.std.specs.Prelude.{◌≡◌, ℕ, ◌<◌, ◌≤◌, ◌++◌, List, [], length, map, Some, Contains, slice_index_or}
use Rattle.std.specs.declared.vec.Vec.{Vec}
use Rattle.std.specs.declared.alloc.Global.{Global}
use Rattle.recognizer_model.specs.Flat.{FlatGrammar, IsRule, rhs_of}
use Rattle.recognizer_model.specs.declared.thread.Label.{Label}
use Rattle.recognizer_model.specs.declared.thread.Thread.{Thread}

abbrev pub lists_of : List (Vec Thread Global) → List (List Thread)
lists_of lists = map (λ list. list.items) lists

abbrev pub list_at : List (List Thread) → ℕ → List Thread
list_at lists k = slice_index_or lists k []

-- later lists, which keep their places
abbrev pub IsGrown : List (List Thread) → List (List Thread) → Type 0
IsGrown old new = (more : List (List Thread)) × (new ≡ old ++ more)

-- a place in a rule, with a label of one of the first parts
pub record IsThread (g : FlatGrammar) (parts : ℕ) (th : Thread) : Type 0 where
  pub is_rule : IsRule g th.rule
  pub within : th.dot ≤ length (rhs_of g th.rule)
  pub known : (l : Label) → th.label ≡ Some l → l.part < parts

abbrev pub AreThreads : FlatGrammar → ℕ → List Thread → Type 0
AreThreads g parts threads = (th : Thread) → Contains threads th → IsThread g parts th

abbrev pub AreParts : FlatGrammar → List (List Thread) → Type 0
AreParts g parts = (s : ℕ) → AreThreads g (length parts) (list_at parts s)
