-- Item sets whose origins are lists of what waited there: a thread is an item without places. Its label tells the part of an earlier
-- row that waits for it, and for which symbol; it has none while it begins at the place itself.
-- Sources: Earley 1970 (item sets); Leo 1991 (the only item that waits, with its last part).
use Rattle.std.specs.Prelude.{◌≡◌, ◌↔◌, ◌≢◌, ℕ, suc, ◌<◌, ◌≤◌, List, [], length, Option, Some, None, Contains, slice_get, slice_index, slice_index_or}
use Rattle.grammar_model.specs.declared.Edge.{Edge}
use Rattle.grammar_model.specs.Grammar.{slot_of}
use Rattle.grammar_model.specs.Trees.{Tree}
use Rattle.grammar_model.specs.Derives.{Edges, Held, Derives}
use Rattle.recognizer_model.specs.FlatForm.{FlatEdges}
use Rattle.recognizer_model.specs.Invariant.{IsFlat}
use Rattle.recognizer_model.specs.View.{grammar_view}
pub use Rattle.recognizer_model.specs.declared.thread.Label.{Label}
pub use Rattle.recognizer_model.specs.declared.thread.Thread.{Thread}
use Rattle.recognizer_model.specs.Flat.{FlatGrammar, IsRule, lhs_of, rhs_of, part_of, IsNullable}

-- the symbol after the dot
abbrev pub next : FlatGrammar → Thread → Option ℕ
next g th = part_of g th.rule th.dot

abbrev pub IsDone : FlatGrammar → Thread → Type 0
IsDone g th = th.dot ≡ length (rhs_of g th.rule)

abbrev pub begun : ℕ → Thread
begun r = record { rule = r; dot = 0; label = None }

-- with its dot advanced
abbrev pub step : Thread → Option Label → Thread
step th l = record { rule = th.rule; dot = suc th.dot; label = l }

-- the threads of each part: of a row, those that wait for a symbol, with what those of them that begin there wait for
abbrev pub Parts : Type 1
Parts = ℕ → Thread → Type 0

abbrev pub Row : Type 1
Row = Thread → Type 0

-- known are the numbers of the parts that there are
module _ (g : FlatGrammar) (IsStart IsKnown : ℕ → Type 0) (W : Parts) where
  -- the part of a row for a symbol
  pub record IsPart (R : Row) (s x : ℕ) : Type 0 where
    pub known : IsKnown s
    pub inside : (th : Thread) → W s th → R th
    pub waits : (th : Thread) → R th → next g th ≡ Some x → W s th
    pub around : (low th : Thread) → W s low → low.label ≡ None → R th → next g th ≡ Some (lhs_of g low.rule) → W s th

  -- the only thread of the row that waits for the symbol, which is its last part
  pub record IsLone (R : Row) (x : ℕ) (th : Thread) : Type 0 where
    pub inside : R th
    pub waits : next g th ≡ Some x
    pub last : IsDone g (step th th.label)
    pub only : (other : Thread) → R other → next g other ≡ Some x → other ≡ th
    pub inner : IsStart th.rule → ⊥

  -- what may be waited for in place of the symbol there
  pub data Folds (R : Row) : (x : ℕ) → Label → Type 0 where
    Stay : {x s : ℕ} → IsPart R s x → Folds R x (record { part = s; goal = x })
    Up : {x : ℕ} {l : Label} {th : Thread} → IsLone R x th → th.label ≡ Some l → Folds R x l
    On : {x : ℕ} {l : Label} {th : Thread} → IsLone R x th → th.label ≡ None → Folds R (lhs_of g th.rule) l → Folds R x l

  -- the label of a thread of the row after the place
  pub data Leaves (R : Row) (th : Thread) : Label → Type 0 where
    Labelled : {l : Label} → th.label ≡ Some l → Leaves R th l
    Here : {l : Label} → th.label ≡ None → Folds R (lhs_of g th.rule) l → Leaves R th l

  -- what the first threads of a set lead to
  pub data Reached (Seed : Row) : Thread → Type 0 where
    Begin : {th : Thread} → Seed th → Reached Seed th
    Predict : {th : Thread} {x r : ℕ} → Reached Seed th → next g th ≡ Some x → IsRule g r → lhs_of g r ≡ x → Reached Seed (begun r)
    Skip : {th : Thread} {x : ℕ} → Reached Seed th → next g th ≡ Some x → IsNullable g x → Reached Seed (step th th.label)
    Complete : {th waiting : Thread} {l l' : Label} → Reached Seed th → IsDone g th → th.label ≡ Some l → W l.part waiting → next g waiting ≡ Some l.goal →
        Leaves (W l.part) waiting l' → Reached Seed (step waiting (Some l'))

  -- a whole set, by what it begins with, and the row of those that wait
  pub record IsClosed (Seed K R : Row) : Type 0 where
    pub reached : (th : Thread) → K th → Reached Seed th
    pub predicts : (th : Thread) (x r : ℕ) → K th → next g th ≡ Some x → IsRule g r → lhs_of g r ≡ x → K (begun r)
    pub skips : (th : Thread) (x : ℕ) → K th → next g th ≡ Some x → IsNullable g x → K (step th th.label)
    pub completes : (th waiting : Thread) (l : Label) → K th → IsDone g th → th.label ≡ Some l → W l.part waiting → next g waiting ≡ Some l.goal →
        (l' : Label) × Leaves (W l.part) waiting l' × K (step waiting (Some l'))
    pub row : (th : Thread) → R th ↔ (K th × ((x : ℕ) × (next g th ≡ Some x)))

  -- what a row leads to by symbols
  abbrev pub IsScanned : (Reads : ℕ → Type 0) → Row → Thread → Type 0
  IsScanned Reads R other = (th : Thread) × (x : ℕ) × (l : Label) × R th × (next g th ≡ Some x) × Reads x × Leaves R th l × (other ≡ step th (Some l))

  -- from one row to another by the symbols that are read, K being the whole set of the other
  pub record IsStep (Reads : ℕ → Type 0) (R K R' : Row) : Type 0 where
    pub scans : (th : Thread) (x : ℕ) → R th → next g th ≡ Some x → Reads x → (l : Label) × Leaves R th l × K (step th (Some l))
    pub closed : IsClosed (IsScanned Reads R) K R'

  -- the row of no text, for some of the starts
  pub record IsFirst (Chosen : ℕ → Type 0) (K R : Row) : Type 0 where
    pub starts : (r : ℕ) → Chosen r → K (begun r)
    pub closed : IsClosed (λ th. (r : ℕ) × Chosen r × (th ≡ begun r)) K R

-- the rows of the places up to one, over a text's edges
pub record IsRun (g : FlatGrammar) (E : Edges) (IsStart IsKnown Chosen : ℕ → Type 0) (W : Parts) (K R : ℕ → Row) (n : ℕ) : Type 0 where
  pub chosen : (r : ℕ) → Chosen r → IsStart r
  pub first : IsFirst g IsStart IsKnown W Chosen (K 0) (R 0)
  pub steps : (i : ℕ) → i < n → IsStep g IsStart IsKnown W (λ x. E x i (suc i)) (R i) (K (suc i)) (R (suc i))

-- starts are rules whose symbols stand in no right side
pub record AreStarts (g : FlatGrammar) (IsStart : ℕ → Type 0) : Type 0 where
  pub rule : (r : ℕ) → IsStart r → IsRule g r
  pub outermost : (r s position : ℕ) → IsStart r → part_of g s position ≢ Some (lhs_of g r)

-- ---- lists of threads

abbrev pub IsTopRule : FlatGrammar → ℕ → Type 0
IsTopRule g r = (k : ℕ) × (slice_get g.tops k ≡ Some r)

-- the rule of one of these starts
abbrev pub IsChosen : FlatGrammar → List ℕ → ℕ → Type 0
IsChosen g starts r = (k : ℕ) × Contains starts k × (slice_get g.tops k ≡ Some r)

-- those of a list that wait for a symbol
abbrev pub Waiting : FlatGrammar → List Thread → Row
Waiting g threads th = Contains threads th × ((x : ℕ) × (next g th ≡ Some x))

-- the parts are lists, by their places
abbrev pub IsPlace : List (List Thread) → ℕ → Type 0
IsPlace parts s = s < length parts

abbrev pub PartAt : FlatGrammar → List (List Thread) → Parts
PartAt g parts s = Waiting g (slice_index_or parts s [])

-- the sets and rows of some starts
abbrev pub IsRunOf : FlatGrammar → Edges → List (List Thread) → (starts : List ℕ) → (sets rows : ℕ → List Thread) → ℕ → Type 0
IsRunOf g E parts starts sets rows n = IsRun g E (IsTopRule g) (IsPlace parts) (IsChosen g starts) (PartAt g parts) (λ i. Contains (sets i)) (λ i. Waiting g (rows i)) n

-- the start's symbol is derived from place 0 on
abbrev pub IsDerivedTo : FlatGrammar → Edges → (r m : ℕ) → Type 0
IsDerivedTo g E r m = (t : Tree) × Derives (grammar_view g) E (slot_of (slice_index (rhs_of g r) 0)) 0 m t

-- what the sets and rows of some starts tell: which starts match up to each place, and where none matches further
pub record RowsTell (g : FlatGrammar) (E : Edges) (starts : List ℕ) (sets rows : ℕ → List Thread) (n : ℕ) : Type 0 where
  pub matches : (r m : ℕ) → IsChosen g starts r → 0 < m → m ≤ n → ((l : Label) × Contains (sets m) (record { rule = r; dot = 1; label = Some l })) ↔ IsDerivedTo g E r m
  pub chosen : (th : Thread) (m : ℕ) → m ≤ n → Contains (sets m) th → IsTopRule g th.rule → IsChosen g starts th.rule
  pub stops : (r p : ℕ) → IsChosen g starts r → p ≤ n → ((th : Thread) (x : ℕ) → Waiting g (rows p) th → next g th ≡ Some x → E x p (suc p) → ⊥) → (m : ℕ) → IsDerivedTo g E r m → m ≤ p

-- over edges of terminals, each from one place to the next
abbrev pub ThreadLawsHold : Type 0
ThreadLawsHold = (g : FlatGrammar) (edges : List Edge) (parts : List (List Thread)) (starts : List ℕ) (sets rows : ℕ → List Thread) (n : ℕ) → IsFlat g →
    ((x p q : ℕ) → Held edges x p q → q ≡ suc p) → IsRunOf g (FlatEdges g (Held edges)) parts starts sets rows n → RowsTell g (FlatEdges g (Held edges)) starts sets rows n
