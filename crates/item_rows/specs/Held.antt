-- Rows as they are held: what each has of its own, and the list that it shares.
use Rattle.std.specs.Prelude.{◌≡◌, ℕ, suc, ◌<◌, ◌≤◌, ◌^◌, List, [], ◌∷◌, length, map, sum, Contains}
use Rattle.recognizer_model.specs.declared.Item.{Item}
use Rattle.jagged.specs.Rows.{row_at as list_at}
use Rattle.item_rows.specs.Dotted.{dotted_at, AreDotted, row_items, IsRowOfParts}
use Rattle.kernels.specs.Shapes.{Kernel, kernel_at}

-- the list that the row of a kernel shares
abbrev pub shared_by : List (List ℕ) → Kernel → List ℕ
shared_by lists kernel = list_at lists kernel.begun

-- the rows from a place on
abbrev pub rows_from : List Item → (lists : List (List ℕ)) → ℕ → List Kernel → List (List Item)
rows_from rules lists earleme [] = []
rows_from rules lists earleme (kernel ∷ kernels) = row_items rules earleme kernel.packed (shared_by lists kernel) ∷ rows_from rules lists (suc earleme) kernels

abbrev pub lists_from : List Item → List (List ℕ) → List (List Item)
lists_from rules lists = map (map (dotted_at rules)) lists

abbrev pub kinds_of : List Kernel → List ℕ
kinds_of kernels = map (λ (k : Kernel). k.kind) kernels

pub record AreHeld (rules : List Item) (lists : List (List ℕ)) (kernels : List Kernel) (count : ℕ) : Type 0 where
  pub few : length kernels ≤ 2 ^ 32
  pub known : (j : ℕ) → j < length kernels → (kernel_at kernels j).begun < length lists
  pub dotted : (list : List ℕ) → Contains lists list → AreDotted (length rules) list
  pub rows : (j : ℕ) → j < length kernels → IsRowOfParts rules j (kernel_at kernels j).packed (shared_by lists (kernel_at kernels j))
  pub all : count ≡ sum (map length (rows_from rules lists 0 kernels))
