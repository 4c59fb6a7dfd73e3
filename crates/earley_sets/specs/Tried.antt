-- The links that are tried while a set is made.
use Rattle.std.specs.Prelude.{◌≡◌, ℕ, ◌+◌, ◌<◌, ◌⊎◌, List, Some, slice_get, Contains}
use Rattle.grammar_model.specs.Derives.{Held}
use Rattle.grammar_model.specs.declared.Edge.{Edge as HeldEdge}
use Rattle.recognizer_model.specs.declared.Item.{Item}
use Rattle.recognizer_model.specs.Flat.{FlatGrammar, lhs_of, IsNullable}
use Rattle.recognizer_model.specs.declared.flat.FlatSymbol.TheVariants.{Terminal}
use Rattle.recognizer_model.specs.Items.{after, IsWhole}
use Rattle.recognizer_model.specs.FlatForm.{FlatEdges}
use Rattle.recognizer_model.specs.Links.{Link, Predicts, Skips, Scans, Completes, Leaps, IsLink}
use Rattle.item_rows.specs.Rows.{row_at}
use Rattle.leo_items.specs.ByRows.{IsNotLeoIn, LeadsIn}
use Rattle.begun_lists.specs.Tried.{RisesWithin}

-- the number rises by one for each link of the set of a place
abbrev pub RisesWithinLinks : FlatGrammar → List HeldEdge → (top earleme : ℕ) → (old new : ℕ) → Type 0
RisesWithinLinks g edges top earleme old new = RisesWithin (IsLink g (FlatEdges g (Held edges)) top earleme) old new

-- an item of the row waits for the symbol
abbrev pub IsWaiting : FlatGrammar → List Item → (symbol : ℕ) → Item → Type 0
IsWaiting g items x item = Contains items item × (after g item ≡ Some x)

-- an item waits for the terminal of an edge where that begins
abbrev pub AwaitsEdge : FlatGrammar → List (List Item) → HeldEdge → Item → Type 0
AwaitsEdge g rows edge item = (x : ℕ) × (slice_get g.symbols x ≡ Some (Terminal edge.symbol)) × IsWaiting g (row_at rows edge.from) x item

-- the link that one of the edges to a place makes
abbrev pub MakesScan : FlatGrammar → List (List Item) → (earleme : ℕ) → List HeldEdge → Link → Type 0
MakesScan g rows earleme edges link =
    (edge : HeldEdge) × Contains edges edge × (edge.to ≡ earleme) × ((item : Item) × AwaitsEdge g rows edge item × (link ≡ Scans item edge.from))

-- the number rises by one for each item that the completion of the symbol advances, or by one where it leaps
abbrev pub RisesWithinDone : FlatGrammar → (rows : List (List Item)) → (i x : ℕ) → (old new : ℕ) → Type 0
RisesWithinDone g rows i x old new = (IsNotLeoIn g rows i x × RisesWithin (IsWaiting g (row_at rows i) x) old new) ⊎ (((topmost : Item) × LeadsIn g rows i x topmost) × (new ≡ old + 1))

-- the links that an item of a set makes with what goes on from it, by the rows of the places before
abbrev pub MakesLink : FlatGrammar → (rows : List (List Item)) → (earleme : ℕ) → Item → Link → Type 0
MakesLink g rows earleme item (Predicts before r) = ⊥
MakesLink g rows earleme item (Skips before) = (before ≡ item) × ((x : ℕ) × (after g item ≡ Some x) × IsNullable g x)
MakesLink g rows earleme item (Scans before from) = ⊥
MakesLink g rows earleme item (Completes whole waiting) = (whole ≡ item) × IsWhole g item × (item.origin < earleme) ×
    IsNotLeoIn g rows item.origin (lhs_of g item.rule) × IsWaiting g (row_at rows item.origin) (lhs_of g item.rule) waiting
MakesLink g rows earleme item (Leaps whole) = (whole ≡ item) × IsWhole g item × (item.origin < earleme) × ((topmost : Item) × LeadsIn g rows item.origin (lhs_of g item.rule) topmost)

-- one of the items makes the link
abbrev pub MakesOne : FlatGrammar → (rows : List (List Item)) → (earleme : ℕ) → List Item → Link → Type 0
MakesOne g rows earleme items link = (item : Item) × Contains items item × MakesLink g rows earleme item link

-- an edge to the place makes the link, or an item of the kernel
abbrev pub MakesKernel : FlatGrammar → (rows : List (List Item)) → (earleme : ℕ) → List HeldEdge → List Item → Link → Type 0
MakesKernel g rows earleme edges items link = MakesScan g rows earleme edges link ⊎ MakesOne g rows earleme items link
