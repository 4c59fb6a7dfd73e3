-- Where the items that wait for a symbol stand in rows, noted for each shape.
use Rattle.std.specs.Prelude.{◌≡◌, ℕ, ◌<◌, ◌≤◌, ◌↔◌, List, length, Some, slice_get, slice_index}
use Rattle.std.specs.declared.vec.Vec.{Vec}
use Rattle.std.specs.declared.alloc.Global.{Global}
use Rattle.recognizer_model.specs.declared.Item.{Item}
use Rattle.recognizer_model.specs.Flat.{FlatGrammar}
use Rattle.kernels.specs.Shapes.{Kernel, kernel_at}
use Rattle.kernels.specs.Slots.{dotted_of}
use Rattle.item_rows.specs.declared.dotted.Span.{Span}
use Rattle.shared_lists.specs.declared.places.Places.{Places}
use Rattle.shared_lists.specs.Placed.{HasPlaces}
use Rattle.item_rows.specs.Dotted.{IsSpan}
use Rattle.item_rows.specs.Held.{shared_by}

-- exactly the numbers of the span stand from the one place to the other
pub record StandsAt (numbers : List ℕ) (span : Span) (start end : ℕ) : Type 0 where
  pub order : start ≤ end
  pub bound : end ≤ length numbers
  pub exact : (q : ℕ) → q < length numbers → ((start ≤ q) × (q < end)) ↔ ((span.start ≤ slice_index numbers q) × (slice_index numbers q < span.end))

-- the places of the dotted rules that wait for the symbol, in each part of a row
pub record ArePlaces (g : FlatGrammar) (rules : List Item) (dotted begun : List ℕ) (symbol : ℕ) (p : Places) : Type 0 where
  pub span : Span
  pub is : IsSpan g rules symbol span
  pub own : StandsAt dotted span p.own_start p.own_end
  pub others : StandsAt begun span p.begun_start p.begun_end

-- symbol by symbol
abbrev pub AreBlocks : FlatGrammar → List Item → (dotted begun : List ℕ) → List Places → Type 0
AreBlocks g rules dotted begun block = (x : ℕ) (p : Places) → slice_get block x ≡ Some p → ArePlaces g rules dotted begun x p

-- they are those of a row of the kind, and so of each
pub record IsNoted (g : FlatGrammar) (rules : List Item) (lists : List (List ℕ)) (kernels : List Kernel) (kind symbol : ℕ) (p : Places) : Type 0 where
  pub row : ℕ
  pub there : row < length kernels
  pub kind_is : (kernel_at kernels row).kind ≡ kind
  pub are : ArePlaces g rules (dotted_of (kernel_at kernels row).packed) (shared_by lists (kernel_at kernels row)) symbol p

abbrev pub ArePlacesNoted : FlatGrammar → List Item → (lists : List (List ℕ)) → List Kernel → List (Vec Places Global) → Type 0
ArePlacesNoted g rules lists kernels blocks = (kind symbol : ℕ) (p : Places) → HasPlaces blocks kind symbol p → IsNoted g rules lists kernels kind symbol p
