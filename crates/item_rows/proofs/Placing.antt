-- Rows whose own items are slotted.
use Rattle.std.proofs.Common.{◌≡◌, ◌==◌, ◌↔◌, ℕ, ◌/◌, ◌<◌, ◌≤◌, Bool, true, false, not, List, [], ◌∷◌, length, map, Contains, refl, sym, ◌∙◌, ap, subst, arith}
use Rattle.std.specs.Prelude.{IsTrue}
use Rattle.std.proofs.lemmas.Bool.{eqb-true}
use Rattle.recognizer_model.specs.declared.Item.{Item}
use Rattle.item_rows.specs.declared.dotted.Span.{Span}
use Rattle.kernels.specs.Slots.{Rises, placed, placed_all, AreSlotted}
use Rattle.kernels.proofs.Numbers.{map_has, map_from}
use Rattle.kernels.proofs.Slotting.{number_placed, rise_placed, part_slotted}
use Rattle.item_rows.specs.Dotted.{unpacked, IsPackedRow, IsSpanOf, IsRowOfParts, AreWithin}
use Rattle.item_rows.proofs.Packing.{of_kind}

-- a slotted number of a row is that of a dotted rule
pub slotted_within : (rules : List Item) (earleme : ℕ) (origins slotted begun : List ℕ) → AreSlotted origins slotted → IsRowOfParts rules earleme (placed_all origins slotted) begun → (n : ℕ) → Contains slotted n → n / 4294967296 < length rules
slotted_within rules earleme origins slotted begun are row n h =
    let lt = row.first.within (placed origins n) (map_has (placed origins) slotted n h) in
    let same = number_placed origins are.origins_are n (are.slots n h) in
    omega arith

-- the items of a span in each part of a row
module _ (origins slotted begun : List ℕ) (are : AreSlotted origins slotted) (span : Span) (own others : List ℕ) (own_rises : Rises own)
    (own_exact : (n : ℕ) → Contains own n ↔ (Contains slotted n × (span.start ≤ n / 4294967296) × (n / 4294967296 < span.end))) (others_rise : Rises others)
    (others_exact : (k : ℕ) → Contains others k ↔ (Contains begun k × (span.start ≤ k) × (k < span.end))) where
  pub own_slotted : AreSlotted origins own
  own_slotted = part_slotted origins slotted own are own_rises (λ n h. ((own_exact n).0 h).0)

  pub placed_within : AreWithin (placed_all origins slotted) begun span (placed_all origins own) others
  placed_within = record {
    own_rises = rise_placed origins own are.origins_are own_slotted.slots own_rises;
    own_exact = λ n. (there n, back n);
    others_rise = others_rise;
    others_exact = others_exact;
  }
    where
      there : (n : ℕ) → Contains (placed_all origins own) n → Contains (placed_all origins slotted) n × (span.start ≤ n / 4294967296) × (n / 4294967296 < span.end)
      there n c =
          let (m, h, e) = map_from (placed origins) own n c in
          let (in_row, from, to) = (own_exact m).0 h in
          let q = number_placed origins are.origins_are m (are.slots m in_row) in
          let d = ap (λ k. k / 4294967296) e in
          (subst (Contains (placed_all origins slotted)) e (map_has (placed origins) slotted m in_row), omega arith, omega arith)

      back : (n : ℕ) → Contains (placed_all origins slotted) n × (span.start ≤ n / 4294967296) × (n / 4294967296 < span.end) → Contains (placed_all origins own) n
      back n (c, from, to) =
          let (m, h, e) = map_from (placed origins) slotted n c in
          let q = number_placed origins are.origins_are m (are.slots m h) in
          let d = ap (λ k. k / 4294967296) e in
          subst (Contains (placed_all origins own)) e (map_has (placed origins) own m ((own_exact m).1 (h, omega arith, omega arith)))

-- the items of a span among a row's own
module _ (rules : List Item) (origins slotted : List ℕ) (are : AreSlotted origins slotted) (is : IsPackedRow (length rules) (placed_all origins slotted)) (Kind : (rule dot : ℕ) → Type 0) (span : Span) (is_span : IsSpanOf Kind rules span)
    (part : List ℕ) (exact : (n : ℕ) → Contains part n ↔ (Contains slotted n × (span.start ≤ n / 4294967296) × (n / 4294967296 < span.end))) where
  abbrev HasKind : Type 0
  HasKind = (item : Item) × Contains (map (unpacked rules) (placed_all origins slotted)) item × Kind item.rule item.dot

  kind_there : (n : ℕ) → Contains part n → HasKind
  kind_there n h =
      let (c, from, to) = (exact n).0 h in
      let p = map_has (placed origins) slotted n c in
      let q = number_placed origins are.origins_are n (are.slots n c) in (
        unpacked rules (placed origins n),
        map_has (unpacked rules) (placed_all origins slotted) (placed origins n) p,
        (of_kind rules (placed_all origins slotted) is Kind span is_span (placed origins n) (unpacked rules (placed origins n)) p refl).0 (omega arith, omega arith),
      )

  kind_from : HasKind → (n : ℕ) × Contains part n
  kind_from (item, h, k) =
      let (m, hm, em) = map_from (unpacked rules) (placed_all origins slotted) item h in
      let (from, to) = (of_kind rules (placed_all origins slotted) is Kind span is_span m item hm em).1 k in
      let (n, hn, en) = map_from (placed origins) slotted m hm in
      let q = number_placed origins are.origins_are n (are.slots n hn) in
      let d = ap (λ k. k / 4294967296) en in
      (n, (exact n).1 (hn, omega arith, omega arith))

  pub some_of_kind : (empty : Bool) → empty ≡ (length part == 0) → IsTrue (not empty) ↔ HasKind
  some_of_kind empty e = go part refl
    where
      yes : (b : Bool) → b ≡ empty → 0 < length part → not empty ≡ true
      yes true h some = let z = eqb-true (length part) 0 (sym (h ∙ e)) in absurd (omega arith)
      yes false h some = ap not (sym h)

      go : (l : List ℕ) → l ≡ part → IsTrue (not empty) ↔ HasKind
      go [] same =
          let none : not empty ≡ false = ap not (e ∙ ap (λ (l : List ℕ). length l == 0) (sym same)) in (
            λ t. absurd (cc),
            λ k. let (n, (i, lt, at)) = kind_from k in let l = ap (λ (l : List ℕ). length l) same in absurd (omega arith),
          )
      go (n ∷ rest) same = (
        λ t. kind_there n (subst (λ (l : List ℕ). Contains l n) same (0, omega arith, refl)),
        λ k. yes empty refl (let l = ap (λ (l : List ℕ). length l) same in omega arith),
      )
