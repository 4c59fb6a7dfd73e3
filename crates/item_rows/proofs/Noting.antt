-- Where the items that wait for symbols stand, noted for rows of a kind.
use Rattle.std.proofs.Common.{◌≡◌, ◌⊎◌, inl, inr, ◌↔◌, ℕ, ◌+◌, ◌-◌, ◌*◌, ◌/◌, ◌<◌, ◌≤◌, ◌++◌, List, [], ◌∷◌, length, take, drop, get_or, Contains, Some, slice_get, refl, sym, ◌∙◌, ap, subst, arith, length-take, length-drop}
use Rattle.std.specs.Prelude.{None, slice_index}
use Rattle.std.specs.declared.vec.Vec.{Vec}
use Rattle.std.specs.declared.alloc.Global.{Global}
use Rattle.std.proofs.lemmas.Bool.{cases_lt}
use Rattle.std.proofs.lemmas.List.{get_or-map, get_or-take, get_or-drop}
use Rattle.recognizer_model.specs.declared.Item.{Item}
use Rattle.recognizer_model.specs.Flat.{FlatGrammar}
use Rattle.jagged.specs.Rows.{row_at as list_at}
use Rattle.kernels.specs.Shapes.{Kernel, no_kernel, kernel_at, AreOfShapes}
use Rattle.kernels.specs.Slots.{Rises, placed_all, dotted_of, AreSlotted}
use Rattle.kernels.proofs.Numbers.{map_length, index_any}
use Rattle.kernels.proofs.Slotting.{dotted_placed}
use Rattle.shared_lists.specs.declared.places.Places.{Places}
use Rattle.shared_lists.specs.Placed.{HasPlaces}
use Rattle.shared_lists.proofs.Parted.{part_rises}
use Rattle.shared_lists.proofs.Counting.{old_at, one_longer}
use Rattle.item_rows.specs.declared.dotted.Span.{Span}
use Rattle.item_rows.specs.Dotted.{AreWithin}
use Rattle.item_rows.specs.Held.{shared_by, AreHeld}
use Rattle.item_rows.specs.Noted.{StandsAt, ArePlaces, AreBlocks, ArePlacesNoted}
use Rattle.item_rows.proofs.Placing.{placed_within}

-- numbers that are counted
module _ (numbers : List ℕ) (span : Span) (order : span.start ≤ span.end) (start end : ℕ) (bs : start ≤ length numbers) (be : end ≤ length numbers)
    (b1 : (k : ℕ) → k < start → slice_index numbers k < span.start) (a1 : (k : ℕ) → start ≤ k → k < length numbers → span.start ≤ slice_index numbers k)
    (b2 : (k : ℕ) → k < end → slice_index numbers k < span.end) (a2 : (k : ℕ) → end ≤ k → k < length numbers → span.end ≤ slice_index numbers k) where
  pub stands : StandsAt numbers span start end
  stands = record {
    order = elim (cases_lt end start) [ inr l ↦ l | inl l ↦ let p = b1 end l in let q = a2 end (omega arith) (omega arith) in absurd (omega arith) ];
    bound = be;
    exact = λ q lt. (
      (λ (from, to). (a1 q from lt, b2 q to)),
      (λ (from, to). (
        elim (cases_lt q start) [ inr l ↦ l | inl l ↦ let p = b1 q l in absurd (omega arith) ],
        elim (cases_lt q end) [ inl l ↦ l | inr l ↦ let p = a2 q l lt in absurd (omega arith) ],
      )),
    );
  }

dotted_there : (slotted : List ℕ) (k : ℕ) → k < length slotted → slice_index (dotted_of slotted) k ≡ slice_index slotted k / 4294967296
dotted_there slotted k lt = get_or-map (λ n. n / 4294967296) slotted k 0 0 lt

-- slotted items that are counted
module _ (slotted : List ℕ) (span : Span) (order : span.start ≤ span.end) (low high start end : ℕ) (is_low : low ≡ span.start * 4294967296) (is_high : high ≡ span.end * 4294967296) (bs : start ≤ length slotted) (be : end ≤ length slotted)
    (b1 : (k : ℕ) → k < start → slice_index slotted k < low) (a1 : (k : ℕ) → start ≤ k → k < length slotted → low ≤ slice_index slotted k)
    (b2 : (k : ℕ) → k < end → slice_index slotted k < high) (a2 : (k : ℕ) → end ≤ k → k < length slotted → high ≤ slice_index slotted k) where
  long : length (dotted_of slotted) ≡ length slotted
  long = map_length (λ n. n / 4294967296) slotted

  pub stands_slotted : StandsAt (dotted_of slotted) span start end
  stands_slotted =
      let l = long in
      stands (dotted_of slotted) span order start end (omega arith) (omega arith)
      (λ k lt. let b = b1 k lt in let e = dotted_there slotted k (omega arith) in omega arith)
      (λ k from lt. let a = a1 k from (omega arith) in let e = dotted_there slotted k (omega arith) in omega arith)
      (λ k lt. let b = b2 k lt in let e = dotted_there slotted k (omega arith) in omega arith)
      (λ k from lt. let a = a2 k from (omega arith) in let e = dotted_there slotted k (omega arith) in omega arith)

-- the part between two places
module _ (xs numbers : List ℕ) (f : ℕ → ℕ) (long : length numbers ≡ length xs) (at : (k : ℕ) → k < length xs → slice_index numbers k ≡ f (slice_index xs k)) (span : Span) (start end : ℕ) (is : StandsAt numbers span start end) (le : start ≤ end) (bound : end ≤ length xs) where
  part_length : length (take (end - start) (drop start xs)) ≡ end - start
  part_length = grind (arith, length-take, length-drop)

  part_at : (k d : ℕ) → k < end - start → get_or (take (end - start) (drop start xs)) k d ≡ get_or xs (start + k) d
  part_at k d lt = get_or-take (end - start) (drop start xs) k d lt ∙ get_or-drop start xs k d

  stands_exact : (n : ℕ) → Contains (take (end - start) (drop start xs)) n ↔ (Contains xs n × (span.start ≤ f n) × (f n < span.end))
  stands_exact n = (there, back)
    where
      number : (k : ℕ) → k < length xs → get_or xs k n ≡ n → slice_index numbers k ≡ f n
      number k lt e = at k lt ∙ ap f (index_any xs k 0 n lt ∙ e)

      there : Contains (take (end - start) (drop start xs)) n → Contains xs n × (span.start ≤ f n) × (f n < span.end)
      there (k, lt, e) =
          let l = part_length in
          let same = sym (part_at k n (omega arith)) ∙ e in
          let is_number = number (start + k) (omega arith) same in
          let (from, to) = (is.exact (start + k) (omega arith)).0 (omega arith, omega arith) in
          ((start + k, omega arith, same), omega arith, omega arith)

      back : Contains xs n × (span.start ≤ f n) × (f n < span.end) → Contains (take (end - start) (drop start xs)) n
      back ((k, lt, e), low, high) =
          let is_number = number k lt e in
          let (from, to) = (is.exact k (omega arith)).1 (omega arith, omega arith) in
          let l = part_length in
          let place : start + (k - start) ≡ k = omega arith in
          (k - start, omega arith, part_at (k - start) n (omega arith) ∙ (ap (λ m. get_or xs m n) place ∙ e))

-- the parts of a row between places
module _ (slotted begun own others : List ℕ) (rise_slotted : Rises slotted) (rise_begun : Rises begun) (span : Span) (p : Places) (at_own : StandsAt (dotted_of slotted) span p.own_start p.own_end) (at_others : StandsAt begun span p.begun_start p.begun_end)
    (is_own : own ≡ take (p.own_end - p.own_start) (drop p.own_start slotted)) (is_others : others ≡ take (p.begun_end - p.begun_start) (drop p.begun_start begun)) where
  in_slotted : p.own_end ≤ length slotted
  in_slotted = let l = map_length (λ n. n / 4294967296) slotted in let b = at_own.bound in omega arith

  own_rises : Rises own
  own_rises = subst Rises (sym is_own) (part_rises slotted rise_slotted p.own_start p.own_end at_own.order in_slotted)

  own_exact : (n : ℕ) → Contains own n ↔ (Contains slotted n × (span.start ≤ n / 4294967296) × (n / 4294967296 < span.end))
  own_exact n =
      subst (λ (l : List ℕ). Contains l n ↔ (Contains slotted n × (span.start ≤ n / 4294967296) × (n / 4294967296 < span.end))) (sym is_own)
      (stands_exact slotted (dotted_of slotted) (λ n. n / 4294967296) (map_length (λ n. n / 4294967296) slotted) (dotted_there slotted) span p.own_start p.own_end at_own at_own.order in_slotted n)

  others_rise : Rises others
  others_rise = subst Rises (sym is_others) (part_rises begun rise_begun p.begun_start p.begun_end at_others.order at_others.bound)

  others_exact : (k : ℕ) → Contains others k ↔ (Contains begun k × (span.start ≤ k) × (k < span.end))
  others_exact k =
      subst (λ (l : List ℕ). Contains l k ↔ (Contains begun k × (span.start ≤ k) × (k < span.end))) (sym is_others)
      (stands_exact begun begun (λ n. n) refl (λ k lt. refl) span p.begun_start p.begun_end at_others at_others.order at_others.bound k)

  pub within_places : (origins : List ℕ) → AreSlotted origins slotted → AreWithin (placed_all origins slotted) begun span (placed_all origins own) others
  within_places origins are = placed_within origins slotted begun are span own others own_rises own_exact others_rise others_exact

pub none_noted : (g : FlatGrammar) (rules : List Item) (lists : List (List ℕ)) (kernels : List Kernel) (blocks : List (Vec Places Global)) → blocks ≡ [] → ArePlacesNoted g rules lists kernels blocks
none_noted g rules lists kernels blocks e kind symbol p (block, at, has) = let none : None ≡ Some block = ap (λ (l : List (Vec Places Global)). slice_get l kind) (sym e) ∙ at in absurd (cc)

-- what is noted for rows
module _ (g : FlatGrammar) (rules : List Item) (lists : List (List ℕ)) (kernels : List Kernel) (blocks : List (Vec Places Global)) (noted : ArePlacesNoted g rules lists kernels blocks) where
  -- one list more
  pub noted_shared : (list : List ℕ) (count : ℕ) → AreHeld rules lists kernels count → ArePlacesNoted g rules (lists ++ list ∷ []) kernels blocks
  noted_shared list count held kind symbol p h = let n = noted kind symbol p h in record {
    row = n.row;
    there = n.there;
    kind_is = n.kind_is;
    are = subst (λ (l : List ℕ). ArePlaces g rules (dotted_of (kernel_at kernels n.row).packed) l symbol p) (sym (old_at lists list [] (kernel_at kernels n.row).begun (held.known n.row n.there))) n.are;
  }

  -- one row more
  pub noted_more : (kernel : Kernel) → ArePlacesNoted g rules lists (kernels ++ kernel ∷ []) blocks
  noted_more kernel kind symbol p h =
      let n = noted kind symbol p h in
      let same = old_at kernels kernel no_kernel n.row n.there in
      record {
        row = n.row;
        there = (let l = one_longer kernels kernel in let t = n.there in omega arith);
        kind_is = ap (λ (k : Kernel). k.kind) same ∙ n.kind_is;
        are = subst (λ (k : Kernel). ArePlaces g rules (dotted_of k.packed) (shared_by lists k) symbol p) (sym same) n.are;
      }

  -- a row, as it is held
  module _ (j : ℕ) (lt : j < length kernels) (origins slotted : List ℕ) (are : AreSlotted origins slotted) (packed : placed_all origins slotted ≡ (kernel_at kernels j).packed) (number : ℕ) (begun : number ≡ (kernel_at kernels j).begun) where
    dotted_here : dotted_of slotted ≡ dotted_of (kernel_at kernels j).packed
    dotted_here = sym (dotted_placed origins slotted are) ∙ ap dotted_of packed

    list_here : list_at lists number ≡ shared_by lists (kernel_at kernels j)
    list_here = ap (list_at lists) begun

    pub places_here : AreOfShapes kernels → (kind symbol : ℕ) (p : Places) → kind ≡ (kernel_at kernels j).kind → HasPlaces blocks kind symbol p → ArePlaces g rules (dotted_of slotted) (list_at lists number) symbol p
    places_here known kind symbol p e h =
        let n = noted kind symbol p h in
        let (same_begun, same_dotted) = known n.row j n.there lt (n.kind_is ∙ e) in
        subst (λ (l : List ℕ). ArePlaces g rules (dotted_of slotted) l symbol p) (ap (list_at lists) same_begun ∙ sym list_here)
        (subst (λ (l : List ℕ). ArePlaces g rules l (shared_by lists (kernel_at kernels n.row)) symbol p) (same_dotted ∙ sym dotted_here) n.are)

    -- the places of its kind are put
    pub noted_put : (kind : ℕ) → kind ≡ (kernel_at kernels j).kind → (list : List ℕ) → list ≡ list_at lists number → (block : List Places) → AreBlocks g rules (dotted_of slotted) list block →
        (new : List (Vec Places Global)) → ((k x : ℕ) (p : Places) → HasPlaces new k x p → HasPlaces blocks k x p ⊎ ((k ≡ kind) × (slice_get block x ≡ Some p))) → ArePlacesNoted g rules lists kernels new
    noted_put kind e list is block all new put k x p h = elim (put k x p h) [
      | inl old ↦ noted k x p old
      | inr (same, has) ↦ record {
        row = j;
        there = lt;
        kind_is = sym e ∙ sym same;
        are =
            subst (λ (l : List ℕ). ArePlaces g rules (dotted_of (kernel_at kernels j).packed) l x p) (is ∙ list_here)
            (subst (λ (l : List ℕ). ArePlaces g rules l list x p) dotted_here (all x p has));
      }
    ]
