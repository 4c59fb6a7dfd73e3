-- What a recognizer over the flat grammar of a checked grammar tells of the checked grammar itself, and how many steps a set takes.
use Rattle.std.specs.Prelude.{◌≡◌, ◌≢◌, ℕ, ◌≤◌, ◌↔◌, List, length, Some, slice_get, Contains, AllPairs}
use Rattle.grammar_model.specs.Grammar.{Grammar, slot_of}
use Rattle.grammar_model.specs.Trees.{Tree}
use Rattle.grammar_model.specs.Checked.{IsChecked}
use Rattle.grammar_model.specs.Derives.{Held, Derives}
use Rattle.grammar_model.specs.Acceptable.{IsAcceptable}
use Rattle.recognizer_model.specs.FlatForm.{IsFlatOf}
use Rattle.recognizer_model.specs.Counts.{IsCountOf}
use Rattle.recognizer_model.specs.Links.{Link, IsLink}
use Rattle.earley_sets.specs.Recognizer.{Recognizer, IsRecognizer, IsExpected, HasTree, earleme_of, edges_of, top_of}

-- the expected terminals are those that are acceptable to the checked grammar
abbrev pub ExpectedAreAcceptable : Type 0
ExpectedAreAcceptable = (w : Grammar) (r : Recognizer) (start t : ℕ) → IsChecked w → IsFlatOf r.flat w → IsRecognizer r → slice_get w.starts r.start ≡ Some start →
    IsExpected r t ↔ IsAcceptable w (Held r.edges) start t (earleme_of r)

-- there is a tree exactly where the checked grammar has a derivation of the start
abbrev pub TreesAreDerivations : Type 0
TreesAreDerivations = (w : Grammar) (r : Recognizer) (start : ℕ) → IsChecked w → IsFlatOf r.flat w → IsRecognizer r → slice_get w.starts r.start ≡ Some start →
    HasTree r ↔ ((tree : Tree) × Derives w (Held r.edges) (slot_of start) 0 (earleme_of r) tree)

-- the links that are tried, each once, are no more than the set has
abbrev pub TriesAreFew : Type 0
TriesAreFew = (r : Recognizer) (earleme links : ℕ) (tried : List Link) → AllPairs (λ a b. a ≢ b) tried →
    ((l : Link) → Contains tried l → IsLink r.flat (edges_of r) (top_of r) earleme l) → IsCountOf (IsLink r.flat (edges_of r) (top_of r) earleme) links → length tried ≤ links
