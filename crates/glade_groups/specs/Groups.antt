-- Glades of one kind. The report of an input may have tens of thousands of glades that differ in where they stand alone; for people each
-- kind is told once, at the smallest text. Source: our own, after the counterexamples of bison, which are of two rules each.
use Rattle.std.specs.Prelude.{◌≡◌, ℕ, ◌+◌, ◌-◌, ◌<◌, ◌≤◌, ◌⊎◌, ◌==◌, ◌&&◌, Bool, true, List, Option, Some, None, filter, length, slice_get}
use Rattle.glade_model.specs.Glades.{Glade}
use Rattle.glade_groups.specs.declared.kinds.Kind.{Kind}

-- glades of one slot, whose first two shapes are of the same two rules, are of one kind
abbrev pub kind_of : Glade → Kind
kind_of glade = record { symbol = glade.slot.symbol; level = glade.slot.level; first = glade.first.rule; second = glade.second.rule }

abbrev pub same_kind : Kind → Kind → Bool
same_kind x y = (x.symbol == y.symbol) && ((x.level == y.level) && ((x.first == y.first) && (x.second == y.second)))

abbrev pub is_of : Kind → Glade → Bool
is_of kind glade = same_kind kind (kind_of glade)

abbrev pub token_count : Glade → ℕ
token_count glade = glade.to - glade.from

-- of the glades of its kind the one at the place spans the fewest tokens, and is the first of those that do
pub record IsSmallest (glades : List Glade) (kind : Kind) (at : ℕ) : Type 0 where
  pub glade : Glade
  pub stands : slice_get glades at ≡ Some glade
  pub is : is_of kind glade ≡ true
  pub least : (k : ℕ) (other : Glade) → slice_get glades k ≡ Some other → is_of kind other ≡ true →
      (token_count glade < token_count other) ⊎ ((token_count glade ≡ token_count other) × (at ≤ k))

-- how many glades of the kind there are
abbrev pub count_of : List Glade → Kind → ℕ
count_of glades kind = length (filter (is_of kind) glades)

-- the glade at a place is told for its kind, with how many more there are; or another is
abbrev pub IsMark : (glades : List Glade) (at : ℕ) (glade : Glade) → Option ℕ → Type 0
IsMark glades at glade (Some more) = IsSmallest glades (kind_of glade) at × (count_of glades (kind_of glade) ≡ more + 1)
IsMark glades at glade None = IsSmallest glades (kind_of glade) at → ⊥

-- each glade of the report has its mark: so of each kind one is told
pub record AreMarks (glades : List Glade) (marks : List (Option ℕ)) : Type 0 where
  pub long : length marks ≡ length glades
  pub each : (k : ℕ) (glade : Glade) (mark : Option ℕ) → slice_get glades k ≡ Some glade → slice_get marks k ≡ Some mark → IsMark glades k glade mark

-- each glade is told
pub record AreSingle (glades : List Glade) (marks : List (Option ℕ)) : Type 0 where
  pub long : length marks ≡ length glades
  pub each : (k : ℕ) (mark : Option ℕ) → slice_get marks k ≡ Some mark → mark ≡ Some 0
