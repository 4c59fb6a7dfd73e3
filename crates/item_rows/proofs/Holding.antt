-- Rows as they are held.
use Rattle.std.proofs.Common.{◌≡◌, ◌⊎◌, inl, inr, ◌↔◌, ℕ, zero, suc, ◌+◌, ◌<◌, ◌^◌, ◌++◌, List, [], ◌∷◌, length, map, take, Contains, refl, sym, ◌∙◌, ap, subst, arith}
use Rattle.std.specs.Prelude.{sum}
use Rattle.std.proofs.lemmas.Bool.{cases_lt}
use Rattle.std.proofs.lemmas.List.{get_or-map, map-append}
use Rattle.std.proofs.lemmas.List.Elements.{Contains-push_cases, Contains-append_right, Contains-append_cases}
use Rattle.std.proofs.lemmas.List.Sums.{sum_by-cons}
use Rattle.recognizer_model.specs.declared.Item.{Item}
use Rattle.recognizer_model.specs.Flat.{FlatGrammar}
use Rattle.recognizer_model.specs.Counts.{IsListOf}
use Rattle.item_rows.specs.Rows.{ItemRows, row_at, shared_at, kind_at, with_row, IsBegunAt, AreAlike, AreOfKinds}
use Rattle.jagged.specs.Rows.{row_at as list_at}
use Rattle.item_rows.specs.Dotted.{dotted_at, unpacked, begun_at, DifferInDots, IsPackedRow, AreDotted, row_items, IsRowOfParts}
use Rattle.item_rows.specs.Held.{shared_by, rows_from, lists_from, kinds_of, AreHeld}
use Rattle.kernels.specs.Shapes.{Kernel, no_kernel, kernel_at, AreOfShapes}
use Rattle.kernels.specs.Slots.{dotted_of}
use Rattle.kernels.proofs.Numbers.{map_length, map_has, index_any}
use Rattle.shared_lists.proofs.Counting.{old_at, new_at, one_longer}
use Rattle.item_rows.proofs.Joined.{once_begun, begun_told, join_lists, rows_alike}

sum_cons : {A : Type 0} (x : List A) (xs : List (List A)) → sum (map length (x ∷ xs)) ≡ length x + sum (map length xs)
sum_cons x xs = sum_by-cons (λ (n : ℕ). n) (length x) (map length xs)

sum_more : {A : Type 0} (xs : List (List A)) (x : List A) → sum (map length (xs ++ x ∷ [])) ≡ sum (map length xs) + length x
sum_more [] x = let a = sum_cons x [] in omega arith
sum_more (y ∷ ys) x = let a = sum_cons y (ys ++ x ∷ []) in let b = sum_cons y ys in let c = sum_more ys x in omega arith

-- the rows from a place on
module _ (rules : List Item) (lists : List (List ℕ)) where
  pub from_length : (p : ℕ) (kernels : List Kernel) → length (rows_from rules lists p kernels) ≡ length kernels
  from_length p [] = refl
  from_length p (k ∷ kernels) = ap suc (from_length (suc p) kernels)

  abbrev row_of : ℕ → Kernel → List Item
  row_of p kernel = row_items rules p kernel.packed (shared_by lists kernel)

  from_at : (p : ℕ) (kernels : List Kernel) (j : ℕ) → j < length kernels → row_at (rows_from rules lists p kernels) j ≡ row_of (p + j) (kernel_at kernels j)
  from_at p [] j lt = absurd (omega arith)
  from_at p (k ∷ kernels) zero lt = ap (λ q. row_of q k) (let e : p ≡ p + 0 = omega arith in e)
  from_at p (k ∷ kernels) (suc j) lt = from_at (suc p) kernels j (omega arith) ∙ ap (λ q. row_of q (kernel_at kernels j)) (let e : suc p + j ≡ p + suc j = omega arith in e)

  from_more : (p : ℕ) (kernels : List Kernel) (kernel : Kernel) → rows_from rules lists p (kernels ++ kernel ∷ []) ≡ rows_from rules lists p kernels ++ row_of (p + length kernels) kernel ∷ []
  from_more p [] kernel = ap (λ q. row_of q kernel ∷ []) (let e : p ≡ p + 0 = omega arith in e)
  from_more p (k ∷ kernels) kernel =
      ap (λ l. row_of p k ∷ l) (from_more (suc p) kernels kernel ∙ ap (λ q. rows_from rules lists (suc p) kernels ++ row_of q kernel ∷ []) (let e : suc p + length kernels ≡ p + suc (length kernels) = omega arith in e))

  from_same : (lists' : List (List ℕ)) (p : ℕ) (kernels : List Kernel) → ((j : ℕ) → j < length kernels → shared_by lists' (kernel_at kernels j) ≡ shared_by lists (kernel_at kernels j)) →
      rows_from rules lists' p kernels ≡ rows_from rules lists p kernels
  from_same lists' p [] same = refl
  from_same lists' p (k ∷ kernels) same =
      let z = same 0 (omega arith) in
      let rest = from_same lists' (suc p) kernels (λ j lt. same (suc j) (omega arith)) in
      λ i. row_items rules p k.packed (z i) ∷ rest i

-- a row of different items, and of a list that begins at its place
module _ (rules : List Item) (differ : DifferInDots rules) (zero : (k : ℕ) → k < length rules → (dotted_at rules k).origin ≡ 0)
    (items : List Item) (packed : List ℕ) (is : IsPackedRow (length rules) packed) (same : IsListOf (Contains items) (map (unpacked rules) packed))
    (earleme : ℕ) (list : List ℕ) (dotted : AreDotted (length rules) list) (shared : List Item) (shared_is : map (dotted_at rules) list ≡ shared)
    (apart : (item : Item) → Contains items item → ¬ IsBegunAt shared earleme item) where
  told : (item : Item) → Contains (map (begun_at rules earleme) list) item ↔ IsBegunAt shared earleme item
  told item = subst (λ l. Contains (map (begun_at rules earleme) list) item ↔ IsBegunAt l earleme item) shared_is (begun_told rules differ earleme zero list dotted item)

  pushed_row : IsRowOfParts rules earleme packed list
  pushed_row = record {
    first = is;
    second = dotted;
    apart = λ n k a b e. apart (unpacked rules n) ((same.exact (unpacked rules n)).0 (map_has (unpacked rules) packed n a))
        ((told (unpacked rules n)).0 (subst (Contains (map (begun_at rules earleme) list)) (sym e) (map_has (begun_at rules earleme) list k b)));
  }

  pushed_items : IsListOf (λ item. Contains items item ⊎ IsBegunAt shared earleme item) (row_items rules earleme packed list)
  pushed_items =
      join_lists (Contains items) (IsBegunAt shared earleme) (map (unpacked rules) packed) (map (begun_at rules earleme) list) same
      (record { once = once_begun rules differ earleme list dotted; exact = told }) apart

abbrev pub rows_over : FlatGrammar → (sets shared : List (List Item)) → (kinds : List ℕ) → ItemRows
rows_over g sets shared kinds = record { flat = g; sets = sets; shared = shared; kinds = kinds }

abbrev pub seen : FlatGrammar → List Item → (lists : List (List ℕ)) → (kernels : List Kernel) → ItemRows
seen g rules lists kernels = rows_over g (rows_from rules lists 0 kernels) (lists_from rules lists) (kinds_of kernels)

pub seen_as : {g h : FlatGrammar} {xs ys ss ts : List (List Item)} {ks ls : List ℕ} → g ≡ h → xs ≡ ys → ss ≡ ts → ks ≡ ls → rows_over g xs ss ks ≡ rows_over h ys ts ls
seen_as e f s k = λ i. record { flat = e i; sets = f i; shared = s i; kinds = k i }

module _ (g : FlatGrammar) (rules : List Item) (lists : List (List ℕ)) (kernels : List Kernel) (r : ItemRows) (is : seen g rules lists kernels ≡ r) where
  pub same_flat : g ≡ r.flat
  same_flat = ap (λ (z : ItemRows). z.flat) is

  same_sets : rows_from rules lists 0 kernels ≡ r.sets
  same_sets = ap (λ (z : ItemRows). z.sets) is

  same_shared : lists_from rules lists ≡ r.shared
  same_shared = ap (λ (z : ItemRows). z.shared) is

  same_kinds : kinds_of kernels ≡ r.kinds
  same_kinds = ap (λ (z : ItemRows). z.kinds) is

  pub sets_length : length r.sets ≡ length kernels
  sets_length = sym (ap length same_sets) ∙ from_length rules lists 0 kernels

  pub shared_length : length r.shared ≡ length lists
  shared_length = sym (ap length same_shared) ∙ map_length (map (dotted_at rules)) lists

  pub in_kernels : (j : ℕ) → j < length r.sets → j < length kernels
  in_kernels j lt = let l = sets_length in omega arith

  pub in_lists : (j : ℕ) → j < length r.shared → j < length lists
  in_lists j lt = let l = shared_length in omega arith

  pub row_seen : (j : ℕ) → j < length r.sets → row_items rules j (kernel_at kernels j).packed (shared_by lists (kernel_at kernels j)) ≡ row_at r.sets j
  row_seen j lt =
      ap (λ q. row_of rules lists q (kernel_at kernels j)) (let e : j ≡ 0 + j = omega arith in e)
      ∙ (sym (from_at rules lists 0 kernels j (in_kernels j lt)) ∙ ap (λ s. row_at s j) same_sets)

  pub list_seen : (j : ℕ) → j < length r.shared → map (dotted_at rules) (list_at lists j) ≡ shared_at r.shared j
  list_seen j lt = sym (get_or-map (map (dotted_at rules)) lists j [] [] (in_lists j lt)) ∙ ap (λ s. shared_at s j) same_shared

  pub kind_seen : (j : ℕ) → j < length r.sets → (kernel_at kernels j).kind ≡ kind_at r.kinds j
  kind_seen j lt = sym (get_or-map (λ (k : Kernel). k.kind) kernels j no_kernel 0 (in_kernels j lt)) ∙ ap (λ l. kind_at l j) same_kinds

  pub alike_seen : (i j : ℕ) → i < length r.sets → j < length r.sets → (kernel_at kernels i).begun ≡ (kernel_at kernels j).begun → dotted_of (kernel_at kernels i).packed ≡ dotted_of (kernel_at kernels j).packed →
      AreAlike (row_at r.sets i) (row_at r.sets j)
  alike_seen i j li lj begun dotted =
      subst (λ (l : List Item). AreAlike l (row_at r.sets j)) (row_seen i li)
      (subst (λ (l : List Item). AreAlike (row_of rules lists i (kernel_at kernels i)) l) (row_seen j lj)
      (rows_alike rules i j (kernel_at kernels i).packed (kernel_at kernels j).packed (shared_by lists (kernel_at kernels i)) (shared_by lists (kernel_at kernels j)) dotted (ap (list_at lists) begun)))

  pub kinds_known : AreOfShapes kernels → AreOfKinds r
  kinds_known known = record {
    all = (let k = ap (λ (l : List ℕ). length l) same_kinds in let m = map_length (λ (k : Kernel). k.kind) kernels in let n = sets_length in omega arith);
    alike = λ i j li lj e. (
        let (begun, dotted) = known i j (in_kernels i li) (in_kernels j lj) (kind_seen i li ∙ (e ∙ sym (kind_seen j lj))) in
        alike_seen i j li lj begun dotted);
  }

  module _ (count : ℕ) (held : AreHeld rules lists kernels count) where
    pub fits : (j : ℕ) → j < length r.sets → j < 2 ^ 32
    fits j lt = let k = in_kernels j lt in let f = held.few in omega arith

    -- a row that is read
    module _ (j : ℕ) (lt : j < length r.sets) (number : ℕ) (n : number ≡ (kernel_at kernels j).begun) where
      pub list_there : number < length lists
      list_there = let k = held.known j (in_kernels j lt) in omega arith

      module _ (packed list : List ℕ) (p : packed ≡ (kernel_at kernels j).packed) (l : list ≡ list_at lists number) where
        list_here : list ≡ shared_by lists (kernel_at kernels j)
        list_here = l ∙ ap (list_at lists) n

        pub parts_here : IsRowOfParts rules j packed list
        parts_here = subst (λ z. IsRowOfParts rules j z list) (sym p) (subst (IsRowOfParts rules j (kernel_at kernels j).packed) (sym list_here) (held.rows j (in_kernels j lt)))

        pub items_here : row_items rules j packed list ≡ row_at r.sets j
        items_here = (λ i. row_items rules j (p i) (list_here i)) ∙ row_seen j lt

        -- no item of the row's own is of a kind
        module _ (differ : DifferInDots rules) (zero : (k : ℕ) → k < length rules → (dotted_at rules k).origin ≡ 0) where
          pub list_alone : (Kind : Item → Type 0) → ((item : Item) → Contains (map (unpacked rules) packed) item → ¬ Kind item) → (item : Item) → Kind item → Contains (row_at r.sets j) item ↔ IsBegunAt (shared_at r.shared number) j item
          list_alone Kind none item kind = subst (λ (l : List Item). Contains l item ↔ IsBegunAt (shared_at r.shared number) j item) items_here (there, back)
            where
              as_begun : Contains (map (begun_at rules j) list) item ↔ IsBegunAt (shared_at r.shared number) j item
              as_begun =
                  subst (λ (l : List Item). Contains (map (begun_at rules j) list) item ↔ IsBegunAt l j item) (ap (map (dotted_at rules)) l ∙ list_seen number (let s = shared_length in let t = list_there in omega arith))
                  (begun_told rules differ j zero list parts_here.second item)

              there : Contains (row_items rules j packed list) item → IsBegunAt (shared_at r.shared number) j item
              there h = elim (Contains-append_cases (map (unpacked rules) packed) (map (begun_at rules j) list) item h) [ inl a ↦ absurd (none item a kind) | inr b ↦ as_begun.0 b ]

              back : IsBegunAt (shared_at r.shared number) j item → Contains (row_items rules j packed list) item
              back h = Contains-append_right (map (unpacked rules) packed) (map (begun_at rules j) list) item (as_begun.1 h)

    -- one list more
    module _ (list : List ℕ) (dotted : AreDotted (length rules) list) where
      shared_still : (j : ℕ) → j < length kernels → shared_by (lists ++ list ∷ []) (kernel_at kernels j) ≡ shared_by lists (kernel_at kernels j)
      shared_still j lt = old_at lists list [] (kernel_at kernels j).begun (held.known j lt)

      rows_still : rows_from rules (lists ++ list ∷ []) 0 kernels ≡ rows_from rules lists 0 kernels
      rows_still = from_same rules lists (lists ++ list ∷ []) 0 kernels shared_still

      pub held_shared : AreHeld rules (lists ++ list ∷ []) kernels count
      held_shared = record {
        few = held.few;
        known = λ j lt. (let k = held.known j lt in let l = one_longer lists list in omega arith);
        dotted = λ other h. elim (Contains-push_cases lists list other h) [ inl c ↦ held.dotted other c | inr same ↦ subst (AreDotted (length rules)) same dotted ];
        rows = λ j lt. subst (IsRowOfParts rules j (kernel_at kernels j).packed) (sym (shared_still j lt)) (held.rows j lt);
        all = held.all ∙ ap (λ (s : List (List Item)). sum (map length s)) (sym rows_still);
      }

      pub seen_shared : seen g rules (lists ++ list ∷ []) kernels ≡ record r { shared = r.shared ++ map (dotted_at rules) list ∷ [] }
      seen_shared =
          seen_as same_flat (rows_still ∙ same_sets) (map-append (map (dotted_at rules)) lists (list ∷ []) ∙ ap (λ s. s ++ map (dotted_at rules) list ∷ []) same_shared) same_kinds

    -- one row more
    module _ (packed : List ℕ) (kind number : ℕ) (below : number < length lists) (room : length kernels < 2 ^ 32) (row : IsRowOfParts rules (length kernels) packed (list_at lists number)) where
      abbrev last : Kernel
      last = record { begun = number; packed = packed; kind = kind }

      rows_new : rows_from rules lists 0 (kernels ++ last ∷ []) ≡ rows_from rules lists 0 kernels ++ row_items rules (length kernels) packed (list_at lists number) ∷ []
      rows_new = from_more rules lists 0 kernels last ∙ ap (λ q. rows_from rules lists 0 kernels ++ row_of rules lists q last ∷ []) (let e : 0 + length kernels ≡ length kernels = omega arith in e)

      pub held_more : (count' : ℕ) → count' ≡ count + length (row_items rules (length kernels) packed (list_at lists number)) → AreHeld rules lists (kernels ++ last ∷ []) count'
      held_more count' counted = record {
        few = (let l = one_longer kernels last in omega arith);
        known = λ j lt. (let l = one_longer kernels last in elim (cases_lt j (length kernels)) [
          | inl b ↦ subst (λ (k : Kernel). k.begun < length lists) (sym (old_at kernels last no_kernel j b)) (held.known j b)
          | inr b ↦ (
              let e : length kernels ≡ j = omega arith in
              subst (λ k. (kernel_at (kernels ++ last ∷ []) k).begun < length lists) e (subst (λ (k : Kernel). k.begun < length lists) (sym (new_at kernels last no_kernel)) below))
        ]);
        dotted = held.dotted;
        rows = λ j lt. (let l = one_longer kernels last in elim (cases_lt j (length kernels)) [
          | inl b ↦ subst (λ (k : Kernel). IsRowOfParts rules j k.packed (shared_by lists k)) (sym (old_at kernels last no_kernel j b)) (held.rows j b)
          | inr b ↦ (
              let e : length kernels ≡ j = omega arith in
              subst (λ k. IsRowOfParts rules k (kernel_at (kernels ++ last ∷ []) k).packed (shared_by lists (kernel_at (kernels ++ last ∷ []) k))) e
              (subst (λ (k : Kernel). IsRowOfParts rules (length kernels) k.packed (shared_by lists k)) (sym (new_at kernels last no_kernel)) row))
        ]);
        all =
            counted
            ∙ (ap (λ n. n + length (row_items rules (length kernels) packed (list_at lists number))) held.all
            ∙ (sym (sum_more (rows_from rules lists 0 kernels) (row_items rules (length kernels) packed (list_at lists number))) ∙ ap (λ (s : List (List Item)). sum (map length s)) (sym rows_new)));
      }

      pub seen_more : seen g rules lists (kernels ++ last ∷ []) ≡ with_row r (row_items rules (length kernels) packed (list_at lists number)) kind
      seen_more = seen_as same_flat (rows_new ∙ ap (λ (s : List (List Item)). s ++ row_items rules (length kernels) packed (list_at lists number) ∷ []) same_sets) same_shared
          (map-append (λ (k : Kernel). k.kind) kernels (last ∷ []) ∙ ap (λ (l : List ℕ). l ++ kind ∷ []) same_kinds)

    -- the row that is put last
    module _ (differ : DifferInDots rules) (zero : (k : ℕ) → k < length rules → (dotted_at rules k).origin ≡ 0) (items : List Item) (packed : List ℕ) (is_row : IsPackedRow (length rules) packed)
        (same : IsListOf (Contains items) (map (unpacked rules) packed)) (number : ℕ) (lt : number < length r.shared) (apart : (item : Item) → Contains items item → ¬ IsBegunAt (shared_at r.shared number) (length r.sets) item) where
      dotted : AreDotted (length rules) (list_at lists number)
      dotted = held.dotted (list_at lists number) (number, in_lists number lt, index_any lists number (list_at lists number) [] (in_lists number lt))

      pub row_pushed : IsRowOfParts rules (length kernels) packed (list_at lists number)
      row_pushed =
          subst (λ k. IsRowOfParts rules k packed (list_at lists number)) sets_length
          (pushed_row rules differ zero items packed is_row same (length r.sets) (list_at lists number) dotted (shared_at r.shared number) (list_seen number lt) apart)

      pub items_pushed : IsListOf (λ item. Contains items item ⊎ IsBegunAt (shared_at r.shared number) (length r.sets) item) (row_items rules (length kernels) packed (list_at lists number))
      items_pushed =
          subst (λ k. IsListOf (λ item. Contains items item ⊎ IsBegunAt (shared_at r.shared number) (length r.sets) item) (row_items rules k packed (list_at lists number))) sets_length
          (pushed_items rules differ zero items packed is_row same (length r.sets) (list_at lists number) dotted (shared_at r.shared number) (list_seen number lt) apart)

    -- the first row alone
    module _ (some : 0 < length r.sets) where
      there : 0 < length kernels
      there = in_kernels 0 some

      first_kernel : (ks : List Kernel) → 0 < length ks → take 1 ks ≡ kernel_at ks 0 ∷ []
      first_kernel [] lt = absurd (omega arith)
      first_kernel (k ∷ ks) lt = refl

      rows_first : rows_from rules lists 0 (take 1 kernels) ≡ row_at r.sets 0 ∷ []
      rows_first = ap (rows_from rules lists 0) (first_kernel kernels there) ∙ ap (λ row. row ∷ []) (row_seen 0 some)

      one : length (take 1 kernels) ≡ 1
      one = ap length (first_kernel kernels there)

      kernel_first : (j : ℕ) → j < length (take 1 kernels) → kernel_at kernels j ≡ kernel_at (take 1 kernels) j
      kernel_first j lt =
          let o = one in
          let z : j ≡ 0 = omega arith in
          ap (kernel_at kernels) z ∙ (ap (λ l. kernel_at l 0) (sym (first_kernel kernels there)) ∙ ap (kernel_at (take 1 kernels)) (sym z))

      pub held_first : (count' : ℕ) → count' ≡ length (row_at r.sets 0) → AreHeld rules lists (take 1 kernels) count'
      held_first count' counted = record {
        few = (let o = one in omega arith);
        known = λ j lt. subst (λ (k : Kernel). k.begun < length lists) (kernel_first j lt) (let o = one in let t = there in held.known j (omega arith));
        dotted = held.dotted;
        rows = λ j lt. subst (λ (k : Kernel). IsRowOfParts rules j k.packed (shared_by lists k)) (kernel_first j lt) (let o = one in let t = there in held.rows j (omega arith));
        all = (
            let s : sum (map length (rows_from rules lists 0 (take 1 kernels))) ≡ sum (map length (row_at r.sets 0 ∷ [])) = ap (λ (s : List (List Item)). sum (map length s)) rows_first in
            let t = sum_cons (row_at r.sets 0) [] in
            omega arith);
      }

      pub seen_first : seen g rules lists (take 1 kernels) ≡ record r { sets = row_at r.sets 0 ∷ []; kinds = kind_at r.kinds 0 ∷ [] }
      seen_first = seen_as same_flat rows_first same_shared (ap kinds_of (first_kernel kernels there) ∙ ap (λ (k : ℕ). k ∷ []) (kind_seen 0 some))
