-- Slots in place of origins, and back.
use Rattle.std.proofs.Common.{◌≡◌, inl, inr, ◌↔◌, ℕ, ◌+◌, ◌*◌, ◌/◌, ◌%◌, ◌<◌, ◌++◌, List, [], ◌∷◌, length, map, take, get_or, Some, slice_get, Contains, sym, ◌∙◌, ap, subst, refl, suc, arith}
use Rattle.std.specs.Prelude.{slice_index_or, nat_eq}
use Rattle.std.specs.Ordering.{nat_cmp}
use Rattle.std.specs.List.{dedup}
use Rattle.std.specs.List.Sorted.{IsPermutation, IsSorted}
use Rattle.std.proofs.lemmas.Bool.{cases_lt}
use Rattle.std.proofs.lemmas.List.{get_or-map, take_more}
use Rattle.std.proofs.lemmas.List.Sorted.{Contains-permutation}
use Rattle.std.proofs.lemmas.List.Elements.{Contains-push_cases}
use Rattle.std.proofs.lemmas.List.Kept.{AllPairs-from_increasing, Contains-dedup_nat}
use Rattle.std.proofs.lemmas.Map.Keys.{IsStrictlyIncreasing-dedup}
use Rattle.finite_sets.proofs.Lists.{get_index}
use Rattle.kernels.specs.Slots.{Rises, placed, placed_all, dotted_of, AreOrigins, AreSlotted}
use Rattle.kernels.proofs.Numbers.{map_length, map_has, map_from, map_more, index_any, at_least}

-- an origin that is there, at its slot
pub origin_small : (origins : List ℕ) → AreOrigins origins → (slot : ℕ) → slot < length origins → slice_index_or origins slot 0 < 4294967296
origin_small origins are slot lt = are.small (slice_index_or origins slot 0) (slot, lt, index_any origins slot (slice_index_or origins slot 0) 0 lt)

pub slot_small : (origins : List ℕ) → AreOrigins origins → (slot : ℕ) → slot < length origins → slot < 4294967296
slot_small origins are slot lt = let a = at_least origins are.rise slot lt in let s = origin_small origins are slot lt in omega arith

-- a number whose slot has an origin
module _ (origins : List ℕ) (are : AreOrigins origins) (n : ℕ) (lt : n % 4294967296 < length origins) where
  pub number_placed : placed origins n / 4294967296 ≡ n / 4294967296
  number_placed = let s = origin_small origins are (n % 4294967296) lt in omega arith

  pub origin_placed : placed origins n % 4294967296 ≡ slice_index_or origins (n % 4294967296) 0
  origin_placed = let s = origin_small origins are (n % 4294967296) lt in omega arith

-- the order of slots is that of their origins
pub placed_below : (origins : List ℕ) → AreOrigins origins → (m n : ℕ) → m % 4294967296 < length origins → n % 4294967296 < length origins → m < n → placed origins m < placed origins n
placed_below origins are m n lm ln lt =
    let sm = origin_small origins are (m % 4294967296) lm in
    let sn = origin_small origins are (n % 4294967296) ln in
    elim (cases_lt (m / 4294967296) (n / 4294967296)) [
      | inl l ↦ omega arith
      | inr l ↦
          let same : m / 4294967296 ≡ n / 4294967296 = omega arith in
          let slots : m % 4294967296 < n % 4294967296 = omega arith in
          let r = are.rise (m % 4294967296) (n % 4294967296) 0 slots ln in
          omega arith
    ]

pub placed_order : (origins : List ℕ) → AreOrigins origins → (m n : ℕ) → m % 4294967296 < length origins → n % 4294967296 < length origins → placed origins m < placed origins n → m < n
placed_order origins are m n lm ln lt = elim (cases_lt m n) [
  | inl l ↦ l
  | inr l ↦ elim (cases_lt n m) [
    | inl b ↦ let p = placed_below origins are n m ln lm b in absurd (omega arith)
    | inr b ↦ let same : m ≡ n = omega arith in let e = ap (placed origins) same in absurd (omega arith)
  ]
]

-- a list of slotted numbers
module _ (origins slotted : List ℕ) (are : AreOrigins origins) (slots : (n : ℕ) → Contains slotted n → n % 4294967296 < length origins) where
  at_slot : (k : ℕ) → k < length slotted → slice_index_or slotted k 0 % 4294967296 < length origins
  at_slot k lt = slots (slice_index_or slotted k 0) (k, lt, index_any slotted k (slice_index_or slotted k 0) 0 lt)

  at_placed : (k d : ℕ) → k < length slotted → get_or (placed_all origins slotted) k d ≡ placed origins (slice_index_or slotted k 0)
  at_placed k d lt = get_or-map (placed origins) slotted k 0 d lt

  pub rise_placed : Rises slotted → Rises (placed_all origins slotted)
  rise_placed rises i j d lt below =
      let l = map_length (placed origins) slotted in
      let a = at_placed i d (omega arith) in
      let b = at_placed j d (omega arith) in
      let r = rises i j 0 lt (omega arith) in
      let p = placed_below origins are (slice_index_or slotted i 0) (slice_index_or slotted j 0) (at_slot i (omega arith)) (at_slot j (omega arith)) r in
      omega arith

  pub placed_rise : Rises (placed_all origins slotted) → Rises slotted
  placed_rise rises i j d lt below =
      let l = map_length (placed origins) slotted in
      let a = at_placed i 0 (omega arith) in
      let b = at_placed j 0 below in
      let r = rises i j 0 lt (omega arith) in
      let p = placed_order origins are (slice_index_or slotted i 0) (slice_index_or slotted j 0) (at_slot i (omega arith)) (at_slot j below) (omega arith) in
      let x = index_any slotted i d 0 (omega arith) in
      let y = index_any slotted j d 0 below in
      omega arith

-- some of the slotted items
pub part_slotted : (origins slotted part : List ℕ) → AreSlotted origins slotted → Rises part → ((n : ℕ) → Contains part n → Contains slotted n) → AreSlotted origins part
part_slotted origins slotted part are rises within = record { origins_are = are.origins_are; rises = rises; slots = λ n h. are.slots n (within n h) }

-- the slotted number of a packed item
module _ (origins slotted : List ℕ) (are : AreSlotted origins slotted) (n : ℕ) where
  pub placed_slot : (slot : ℕ) → slice_get origins slot ≡ Some (n % 4294967296) → placed origins (n / 4294967296 * 4294967296 + slot) ≡ n
  placed_slot slot e =
      let (lt, same) = get_index origins slot 0 (n % 4294967296) e in
      let s = slot_small origins are.origins_are slot lt in
      let q : (n / 4294967296 * 4294967296 + slot) / 4294967296 ≡ n / 4294967296 = omega arith in
      let r : (n / 4294967296 * 4294967296 + slot) % 4294967296 ≡ slot = omega arith in
      let o : slice_index_or origins ((n / 4294967296 * 4294967296 + slot) % 4294967296) 0 ≡ n % 4294967296 = ap (λ k. slice_index_or origins k 0) r ∙ same in
      omega arith

  pub slot_there : (slot : ℕ) → slice_get origins slot ≡ Some (n % 4294967296) → Contains slotted (n / 4294967296 * 4294967296 + slot) ↔ Contains (placed_all origins slotted) n
  slot_there slot e = (
    λ h. subst (Contains (placed_all origins slotted)) (placed_slot slot e) (map_has (placed origins) slotted (n / 4294967296 * 4294967296 + slot) h),
    λ h. (
        let (m, c, same) = map_from (placed origins) slotted n h in
        let (lt, here) = get_index origins slot 0 (n % 4294967296) e in
        let s = slot_small origins are.origins_are slot lt in
        let lm = are.slots m c in
        let q : (n / 4294967296 * 4294967296 + slot) % 4294967296 ≡ slot = omega arith in
        let p = placed_slot slot e in
        subst (Contains slotted) (one m (n / 4294967296 * 4294967296 + slot) lm (omega arith) (same ∙ sym p)) c),
  )
    where
      one : (a b : ℕ) → a % 4294967296 < length origins → b % 4294967296 < length origins → placed origins a ≡ placed origins b → a ≡ b
      one a b la lb e = elim (cases_lt a b) [
        | inl l ↦ let p = placed_below origins are.origins_are a b la lb l in absurd (omega arith)
        | inr l ↦ elim (cases_lt b a) [ inl k ↦ let p = placed_below origins are.origins_are b a lb la k in absurd (omega arith) | inr k ↦ omega arith ]
      ]

  pub slot_absent : ¬ Contains origins (n % 4294967296) → ¬ Contains (placed_all origins slotted) n
  slot_absent none h =
      let (m, c, same) = map_from (placed origins) slotted n h in
      let lt = are.slots m c in
      let o = origin_placed origins are.origins_are m lt in
      let e : slice_index_or origins (m % 4294967296) 0 ≡ n % 4294967296 = sym o ∙ ap (λ k. k % 4294967296) same in
      none (m % 4294967296, lt, index_any origins (m % 4294967296) (n % 4294967296) 0 lt ∙ e)

-- origins that are sorted, each once
module _ (listed sorted new : List ℕ) (moved : IsPermutation listed sorted) (order : IsSorted nat_cmp sorted) (is : new ≡ dedup nat_eq sorted) where
  pub sorted_origins : ((k d : ℕ) → k < length new → slice_index_or new k d < 4294967296) → AreOrigins new
  sorted_origins small = record {
    rise = subst Rises (sym is) (AllPairs-from_increasing (dedup nat_eq sorted) (IsStrictlyIncreasing-dedup sorted order));
    small = λ o (k, lt, e). (let s = small k o lt in omega arith);
  }

  pub sorted_all : (o : ℕ) → Contains listed o → Contains new o
  sorted_all o h = subst (λ (l : List ℕ). Contains l o) (sym is) (Contains-dedup_nat sorted o (Contains-permutation listed sorted o moved h))

-- the origin of one item more is listed
pub more_listed : (packed old new : List ℕ) (k : ℕ) → ((n : ℕ) → Contains (take k packed) n → Contains old (n % 4294967296)) → k < length packed → ((o : ℕ) → Contains old o → Contains new o) → Contains new (slice_index_or packed k 0 % 4294967296) →
    (n : ℕ) → Contains (take (k + 1) packed) n → Contains new (n % 4294967296)
more_listed packed old new k before lt keeps here n h = elim (Contains-push_cases (take k packed) (slice_index_or packed k 0) n (subst (λ (l : List ℕ). Contains l n) (take_more packed k 0 lt) h)) [
  | inl o ↦ keeps (n % 4294967296) (before n o)
  | inr same ↦ subst (λ m. Contains new (m % 4294967296)) same here
]

-- one item more has its slot
module _ (origins packed slotted new : List ℕ) (are : AreOrigins origins) (k slot : ℕ) (before : placed_all origins slotted ≡ take k packed) (lt : k < length packed)
    (is : slice_get origins slot ≡ Some (slice_index_or packed k 0 % 4294967296)) (pushed : new ≡ slotted ++ (slice_index_or packed k 0 / 4294967296 * 4294967296 + slot) ∷ []) where
  pub more_placed : placed_all origins new ≡ take (k + 1) packed
  more_placed =
      ap (map (placed origins)) pushed
      ∙ (map_more (placed origins) slotted ((slice_index_or packed k 0 / 4294967296 * 4294967296 + slot) ∷ [])
      ∙ ((λ i. before i ++ here i ∷ []) ∙ sym (take_more packed k 0 lt)))
    where
      here : placed origins (slice_index_or packed k 0 / 4294967296 * 4294967296 + slot) ≡ slice_index_or packed k 0
      here = placed_slot origins [] (record { origins_are = are; rises = λ i j d a b. absurd (omega arith); slots = λ n (j, b, e). absurd (omega arith) }) (slice_index_or packed k 0) slot is

-- the origins change no dotted rule
pub dotted_placed : (origins slotted : List ℕ) → AreSlotted origins slotted → dotted_of (placed_all origins slotted) ≡ dotted_of slotted
dotted_placed origins slotted are = go slotted are.slots
  where
    go : (row : List ℕ) → ((n : ℕ) → Contains row n → n % 4294967296 < length origins) → dotted_of (placed_all origins row) ≡ dotted_of row
    go [] slots = refl
    go (n ∷ row) slots =
        let head = number_placed origins are.origins_are n (slots n (0, omega arith, refl)) in
        let rest = go row (λ m (k, lt, e). slots m (suc k, omega arith, e)) in
        λ i. head i ∷ rest i
