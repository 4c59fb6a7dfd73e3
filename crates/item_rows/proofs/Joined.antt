-- Rows of two parts.
use Rattle.std.proofs.Common.{◌≡◌, ◌≢◌, ◌⊎◌, inl, inr, ◌↔◌, ℕ, suc, ◌+◌, ◌-◌, ◌*◌, ◌/◌, ◌%◌, ◌<◌, ◌≤◌, ◌++◌, List, [], ◌∷◌, length, map, get_or, Some, slice_get, Contains, refl, sym, ◌∙◌, ap, subst, arith, length-append}
use Rattle.std.specs.Prelude.{slice_index_or}
use Rattle.std.specs.List.{AllPairs}
use Rattle.std.proofs.lemmas.Bool.{cases_lt}
use Rattle.std.proofs.lemmas.List.{get_or-map, get_or-append_right}
use Rattle.std.proofs.Math.ListN.{get_or-append}
use Rattle.std.proofs.lemmas.List.Elements.{Contains-append_left, Contains-append_right, Contains-append_cases}
use Rattle.std.proofs.lemmas.Option.{slice_get-get_or}
use Rattle.recognizer_model.specs.declared.Item.{Item}
use Rattle.recognizer_model.specs.Counts.{IsListOf}
use Rattle.item_rows.specs.declared.dotted.Span.{Span}
use Rattle.kernels.specs.Slots.{Rises, dotted_of}
use Rattle.item_rows.specs.Rows.{IsBegunAt, HasDotted, AreAlike}
use Rattle.item_rows.specs.Dotted.{dotted_at, unpacked, begun_at, row_items, IsPacked, IsPackedRow, AreDotted, IsRowOfParts, DifferInDots, IsSpanOf, AreWithin}
use Rattle.kernels.proofs.Numbers.{map_length, map_has, map_from, index_any}
use Rattle.item_rows.proofs.Packing.{part_of_kind, packed_there, packed_absent}

-- two lists of different values
module _ {A : Type 0} where
  pub append_once : (xs ys : List A) → AllPairs (λ x y. x ≢ y) xs → AllPairs (λ x y. x ≢ y) ys → ((x : A) → Contains xs x → ¬ Contains ys x) → AllPairs (λ x y. x ≢ y) (xs ++ ys)
  append_once xs ys ox oy apart i j d lt below e = go (cases_lt i (length xs)) (cases_lt j (length xs))
    where
      all : length (xs ++ ys) ≡ length xs + length ys
      all = length-append xs ys

      left : (k : ℕ) → k < length xs → get_or (xs ++ ys) k d ≡ get_or xs k d
      left k b = get_or-append xs ys d k b

      right : (k : ℕ) → length xs ≤ k → get_or (xs ++ ys) k d ≡ get_or ys (k - length xs) d
      right k b = get_or-append_right xs ys (length xs) k d refl b

      go : (i < length xs) ⊎ (length xs ≤ i) → (j < length xs) ⊎ (length xs ≤ j) → ⊥
      go (inl a) (inl b) = ox i j d lt b (sym (left i a) ∙ (e ∙ left j b))
      go (inl a) (inr b) =
          let l = all in
          let x = get_or xs i d in
          let in_ys : Contains ys x = (j - length xs, (let r : j - length xs < length ys = omega arith in r), index_any ys (j - length xs) x d (omega arith) ∙ (sym (right j b) ∙ (sym e ∙ left i a))) in
          apart x (i, a, index_any xs i x d a) in_ys
      go (inr a) (inl b) = absurd (omega arith)
      go (inr a) (inr b) = let l = all in oy (i - length xs) (j - length xs) d (omega arith) (omega arith) (sym (right i a) ∙ (e ∙ right j b))

  pub join_lists : (P Q : A → Type 0) (xs ys : List A) → IsListOf P xs → IsListOf Q ys → ((x : A) → P x → ¬ Q x) → IsListOf (λ x. P x ⊎ Q x) (xs ++ ys)
  join_lists P Q xs ys px qy apart = record {
    once = append_once xs ys px.once qy.once (λ x a b. apart x ((px.exact x).0 a) ((qy.exact x).0 b));
    exact = λ x. (
      λ h. elim (Contains-append_cases xs ys x h) [ inl a ↦ inl ((px.exact x).0 a) | inr b ↦ inr ((qy.exact x).0 b) ],
      λ s. elim s [ inl a ↦ Contains-append_left xs ys x ((px.exact x).1 a) | inr b ↦ Contains-append_right xs ys x ((qy.exact x).1 b) ],
    );
  }

  pub list_as : (P Q : A → Type 0) (xs : List A) → ((x : A) → P x ↔ Q x) → IsListOf P xs → IsListOf Q xs
  list_as P Q xs same is = record { once = is.once; exact = λ x. (λ h. (same x).0 ((is.exact x).0 h), λ q. (is.exact x).1 ((same x).1 q)) }

-- a row, read item by item
module _ (rules : List Item) (earleme : ℕ) (packed begun : List ℕ) where
  pub row_length : length (row_items rules earleme packed begun) ≡ length packed + length begun
  row_length =
      let a = length-append (map (unpacked rules) packed) (map (begun_at rules earleme) begun) in
      let b = map_length (unpacked rules) packed in
      let c = map_length (begun_at rules earleme) begun in
      omega arith

  pub at_first : (k d : ℕ) → k < length packed → slice_get (row_items rules earleme packed begun) k ≡ Some (unpacked rules (slice_index_or packed k d))
  at_first k d lt =
      let l = map_length (unpacked rules) packed in
      let all = row_length in
      let u = unpacked rules d in
      slice_get-get_or (row_items rules earleme packed begun) k u (omega arith)
      ∙ ap Some (get_or-append (map (unpacked rules) packed) (map (begun_at rules earleme) begun) u k (omega arith) ∙ get_or-map (unpacked rules) packed k d u lt)

  pub at_second : (k d : ℕ) → length packed ≤ k → k < length (row_items rules earleme packed begun) → slice_get (row_items rules earleme packed begun) k ≡ Some (begun_at rules earleme (slice_index_or begun (k - length packed) d))
  at_second k d le lt =
      let l = map_length (unpacked rules) packed in
      let all = row_length in
      let u = begun_at rules earleme d in
      slice_get-get_or (row_items rules earleme packed begun) k u lt
      ∙ ap Some (get_or-append_right (map (unpacked rules) packed) (map (begun_at rules earleme) begun) (length packed) k u l le ∙ get_or-map (begun_at rules earleme) begun (k - length packed) d u (omega arith))

-- dotted rules of the span, begun at a place
module _ (rules : List Item) (earleme : ℕ) (begun : List ℕ) (is : AreDotted (length rules) begun) (Kind : (rule dot : ℕ) → Type 0) (span : Span) (is_span : IsSpanOf Kind rules span) where
  begun_kind : (k : ℕ) (item : Item) → Contains begun k → begun_at rules earleme k ≡ item → ((span.start ≤ k) × (k < span.end)) ↔ Kind item.rule item.dot
  begun_kind k item h e =
      let (to, from) = is_span.exact k (is.within k h) in
      ((λ p. subst (λ (z : Item). Kind z.rule z.dot) e (to p)), (λ w. from (subst (λ (z : Item). Kind z.rule z.dot) (sym e) w)))

-- dotted rules that begin at a place
module _ (rules : List Item) (differ : DifferInDots rules) (earleme : ℕ) where
  begun_one : (j k : ℕ) → j < length rules → k < length rules → begun_at rules earleme j ≡ begun_at rules earleme k → j ≡ k
  begun_one j k a b e = differ j k a b (ap (λ (z : Item). z.rule) e) (ap (λ (z : Item). z.dot) e)

  pub once_begun : (begun : List ℕ) → AreDotted (length rules) begun → AllPairs (λ x y. x ≢ y) (map (begun_at rules earleme) begun)
  once_begun begun is i j d lt below e =
      let l = map_length (begun_at rules earleme) begun in
      let m = get_or begun i 0 in
      let n = get_or begun j 0 in
      let h : begun_at rules earleme m ≡ begun_at rules earleme n = sym (get_or-map (begun_at rules earleme) begun i 0 d (omega arith)) ∙ (e ∙ get_or-map (begun_at rules earleme) begun j 0 d (omega arith)) in
      let same = begun_one m n (is.within m (i, omega arith, index_any begun i m 0 (omega arith))) (is.within n (j, omega arith, index_any begun j n 0 (omega arith))) h in
      let r = is.rises i j 0 lt (omega arith) in
      absurd (omega arith)

  pub begun_there : (begun : List ℕ) → AreDotted (length rules) begun → (item : Item) (n : ℕ) → IsPacked rules n item → ((item.origin ≡ earleme) × Contains begun (n / 4294967296)) ↔ Contains (map (begun_at rules earleme) begun) item
  begun_there begun is item n (lt, e) = (
    λ (o, h). subst (Contains (map (begun_at rules earleme) begun)) (λ i. record { rule = ap (λ (z : Item). z.rule) e i; dot = ap (λ (z : Item). z.dot) e i; origin = sym o i }) (map_has (begun_at rules earleme) begun (n / 4294967296) h),
    λ c. (
        let (k, h, same) = map_from (begun_at rules earleme) begun item c in
        let r : (dotted_at rules k).rule ≡ (dotted_at rules (n / 4294967296)).rule = ap (λ (z : Item). z.rule) same ∙ sym (ap (λ (z : Item). z.rule) e) in
        let d : (dotted_at rules k).dot ≡ (dotted_at rules (n / 4294967296)).dot = ap (λ (z : Item). z.dot) same ∙ sym (ap (λ (z : Item). z.dot) e) in
        (sym (ap (λ (z : Item). z.origin) same), subst (Contains begun) (differ k (n / 4294967296) (is.within k h) lt r d) h)),
  )

  -- the dotted rules of a list, as its items tell them
  pub begun_told : ((k : ℕ) → k < length rules → (dotted_at rules k).origin ≡ 0) → (begun : List ℕ) → AreDotted (length rules) begun → (item : Item) → Contains (map (begun_at rules earleme) begun) item ↔ IsBegunAt (map (dotted_at rules) begun) earleme item
  begun_told zero begun is item = (
    λ c. (
        let (k, h, same) = map_from (begun_at rules earleme) begun item c in
        let r = ap (λ (z : Item). z.rule) same in
        let d = ap (λ (z : Item). z.dot) same in
        let o = zero k (is.within k h) in
        let e : dotted_at rules k ≡ record item { origin = 0 } = λ i. record { rule = r i; dot = d i; origin = o i } in
        (sym (ap (λ (z : Item). z.origin) same), subst (Contains (map (dotted_at rules) begun)) e (map_has (dotted_at rules) begun k h))),
    λ (o, c). (
        let (k, h, same) = map_from (dotted_at rules) begun (record item { origin = 0 }) c in
        let r : (dotted_at rules k).rule ≡ item.rule = ap (λ (z : Item). z.rule) same in
        let d : (dotted_at rules k).dot ≡ item.dot = ap (λ (z : Item). z.dot) same in
        let e : begun_at rules earleme k ≡ item = λ i. record { rule = r i; dot = d i; origin = sym o i } in
        subst (Contains (map (begun_at rules earleme) begun)) e (map_has (begun_at rules earleme) begun k h)),
  )

  module _ (begun : List ℕ) (is : AreDotted (length rules) begun) (Kind : (rule dot : ℕ) → Type 0) (span : Span) (is_span : IsSpanOf Kind rules span) where
    module _ (part : List ℕ) (rises : Rises part) (exact : (k : ℕ) → Contains part k ↔ (Contains begun k × (span.start ≤ k) × (k < span.end))) where
      pub part_dotted : AreDotted (length rules) part
      part_dotted = record { rises = rises; within = λ k h. is.within k ((exact k).0 h).0 }

      pub part_begun : IsListOf (λ item. Contains (map (begun_at rules earleme) begun) item × Kind item.rule item.dot) (map (begun_at rules earleme) part)
      part_begun = record { once = once_begun part part_dotted; exact = λ item. (there item, back item) }
        where
          there : (item : Item) → Contains (map (begun_at rules earleme) part) item → Contains (map (begun_at rules earleme) begun) item × Kind item.rule item.dot
          there item c =
              let (k, h, e) = map_from (begun_at rules earleme) part item c in
              let (in_row, from, to) = (exact k).0 h in
              (subst (Contains (map (begun_at rules earleme) begun)) e (map_has (begun_at rules earleme) begun k in_row), (begun_kind rules earleme begun is Kind span is_span k item in_row e).0 (from, to))

          back : (item : Item) → Contains (map (begun_at rules earleme) begun) item × Kind item.rule item.dot → Contains (map (begun_at rules earleme) part) item
          back item (c, w) =
              let (k, h, e) = map_from (begun_at rules earleme) begun item c in
              let (from, to) = (begun_kind rules earleme begun is Kind span is_span k item h e).1 w in
              subst (Contains (map (begun_at rules earleme) part)) e (map_has (begun_at rules earleme) part k ((exact k).1 (h, from, to)))

-- a row of two parts
module _ (rules : List Item) (earleme : ℕ) (packed begun : List ℕ) (is : IsRowOfParts rules earleme packed begun) where
  pub parts_apart : (item : Item) → Contains (map (unpacked rules) packed) item → ¬ Contains (map (begun_at rules earleme) begun) item
  parts_apart item a b =
      let (n, hn, en) = map_from (unpacked rules) packed item a in
      let (k, hk, ek) = map_from (begun_at rules earleme) begun item b in
      is.apart n k hn hk (en ∙ sym ek)

  module _ (differ : DifferInDots rules) (Kind : (rule dot : ℕ) → Type 0) (span : Span) (is_span : IsSpanOf Kind rules span) (own others : List ℕ) (within : AreWithin packed begun span own others) where
    pub row_of_kind : IsListOf (λ item. Contains (row_items rules earleme packed begun) item × Kind item.rule item.dot) (row_items rules earleme own others)
    row_of_kind =
        list_as (λ item. (Contains (map (unpacked rules) packed) item × Kind item.rule item.dot) ⊎ (Contains (map (begun_at rules earleme) begun) item × Kind item.rule item.dot))
        (λ item. Contains (row_items rules earleme packed begun) item × Kind item.rule item.dot) (row_items rules earleme own others)
        (λ item. (
          λ s. elim s [
            | inl (c, w) ↦ (Contains-append_left (map (unpacked rules) packed) (map (begun_at rules earleme) begun) item c, w)
            | inr (c, w) ↦ (Contains-append_right (map (unpacked rules) packed) (map (begun_at rules earleme) begun) item c, w)
          ],
          λ (c, w). elim (Contains-append_cases (map (unpacked rules) packed) (map (begun_at rules earleme) begun) item c) [ inl a ↦ inl (a, w) | inr b ↦ inr (b, w) ],
        ))
        (join_lists (λ item. Contains (map (unpacked rules) packed) item × Kind item.rule item.dot) (λ item. Contains (map (begun_at rules earleme) begun) item × Kind item.rule item.dot)
        (map (unpacked rules) own) (map (begun_at rules earleme) others) (part_of_kind rules differ packed is.first Kind span is_span own within.own_rises within.own_exact)
        (part_begun rules differ earleme begun is.second Kind span is_span others within.others_rise within.others_exact) (λ item (a, _) (b, _). parts_apart item a b))

  pub parts_within : (span : Span) (own others : List ℕ) → AreWithin packed begun span own others → IsRowOfParts rules earleme own others
  parts_within span own others within = record {
    first = record { rises = within.own_rises; within = λ n h. is.first.within n ((within.own_exact n).0 h).0 };
    second = record { rises = within.others_rise; within = λ k h. is.second.within k ((within.others_exact k).0 h).0 };
    apart = λ n k a b. is.apart n k ((within.own_exact n).0 a).0 ((within.others_exact k).0 b).0;
  }

  module _ (differ : DifferInDots rules) (item : Item) (n : ℕ) (number : IsPacked rules n item) where
    pub contains_first : Contains packed n → Contains (row_items rules earleme packed begun) item
    contains_first h = Contains-append_left (map (unpacked rules) packed) (map (begun_at rules earleme) begun) item ((packed_there rules differ packed is.first item n number).0 h)

    pub contains_second : item.origin ≡ earleme → Contains begun (n / 4294967296) → Contains (row_items rules earleme packed begun) item
    contains_second o h = Contains-append_right (map (unpacked rules) packed) (map (begun_at rules earleme) begun) item ((begun_there rules differ earleme begun is.second item n number).0 (o, h))

    pub contains_either : Contains (row_items rules earleme packed begun) item → Contains packed n ⊎ ((item.origin ≡ earleme) × Contains begun (n / 4294967296))
    contains_either c = elim (Contains-append_cases (map (unpacked rules) packed) (map (begun_at rules earleme) begun) item c) [
      | inl a ↦ inl ((packed_there rules differ packed is.first item n number).1 a)
      | inr b ↦ inr ((begun_there rules differ earleme begun is.second item n number).1 b)
    ]

  pub contains_none : earleme < 4294967296 → (item : Item) → ((n : ℕ) → ¬ IsPacked rules n item) → ¬ Contains (row_items rules earleme packed begun) item
  contains_none small item none c = elim (Contains-append_cases (map (unpacked rules) packed) (map (begun_at rules earleme) begun) item c) [
    | inl a ↦ packed_absent rules packed is.first item none a
    | inr b ↦
        let (k, h, e) = map_from (begun_at rules earleme) begun item b in
        let q : (k * 4294967296 + earleme) / 4294967296 ≡ k = omega arith in
        let o : (k * 4294967296 + earleme) % 4294967296 ≡ earleme = omega arith in
        let w = is.second.within k h in
        let u : unpacked rules (k * 4294967296 + earleme) ≡ begun_at rules earleme k = λ i. record { rule = (dotted_at rules (q i)).rule; dot = (dotted_at rules (q i)).dot; origin = o i } in
        none (k * 4294967296 + earleme) (omega arith, u ∙ e)
  ]

-- a list of dotted rules, of packed items that begin at the place 0
module _ (rules packed_items : List Item) (packed : List ℕ) (is : IsPackedRow (length rules) packed) (same : IsListOf (Contains packed_items) (map (unpacked rules) packed))
    (zero : (k : ℕ) → k < length rules → (dotted_at rules k).origin ≡ 0) (begin : (item : Item) → Contains packed_items item → item.origin ≡ 0) where
  at_zero : (n : ℕ) → Contains packed n → n % 4294967296 ≡ 0
  at_zero n h = begin (unpacked rules n) ((same.exact (unpacked rules n)).0 (map_has (unpacked rules) packed n h))

  pub list_dotted : AreDotted (length rules) (map (λ n. n / 4294967296) packed)
  list_dotted = record { rises = rises; within = within }
    where
      rises : Rises (map (λ n. n / 4294967296) packed)
      rises i j d lt below =
          let l = map_length (λ n. n / 4294967296) packed in
          let m = get_or packed i 0 in
          let n = get_or packed j 0 in
          let a : get_or (map (λ n. n / 4294967296) packed) i d ≡ m / 4294967296 = get_or-map (λ n. n / 4294967296) packed i 0 d (omega arith) in
          let b : get_or (map (λ n. n / 4294967296) packed) j d ≡ n / 4294967296 = get_or-map (λ n. n / 4294967296) packed j 0 d (omega arith) in
          let r = is.rises i j 0 lt (omega arith) in
          let p = at_zero m (i, omega arith, index_any packed i m 0 (omega arith)) in
          let q = at_zero n (j, omega arith, index_any packed j n 0 (omega arith)) in
          omega arith

      within : (k : ℕ) → Contains (map (λ n. n / 4294967296) packed) k → k < length rules
      within k c = let (n, h, e) = map_from (λ n. n / 4294967296) packed k c in let w = is.within n h in omega arith

  pub list_items : IsListOf (Contains packed_items) (map (dotted_at rules) (map (λ n. n / 4294967296) packed))
  list_items = subst (IsListOf (Contains packed_items)) (sym (go packed (λ n h. h))) same
    where
      one : (n : ℕ) → Contains packed n → dotted_at rules (n / 4294967296) ≡ unpacked rules n
      one n h =
          let o : (dotted_at rules (n / 4294967296)).origin ≡ n % 4294967296 = zero (n / 4294967296) (is.within n h) ∙ sym (at_zero n h) in
          λ i. record { rule = (dotted_at rules (n / 4294967296)).rule; dot = (dotted_at rules (n / 4294967296)).dot; origin = o i }

      go : (part : List ℕ) → ((n : ℕ) → Contains part n → Contains packed n) → map (dotted_at rules) (map (λ n. n / 4294967296) part) ≡ map (unpacked rules) part
      go [] in_packed = refl
      go (n ∷ part) in_packed =
          let e = one n (in_packed n (0, omega arith, refl)) in
          let rest = go part (λ m (k, lt, at). in_packed m (suc k, omega arith, at)) in
          λ i. e i ∷ rest i

-- the dotted rules of a row of two parts, wherever its items begin
module _ (rules : List Item) where
  -- a number in one of two lists is that of the dotted rule
  abbrev HasNumber : (numbers begun : List ℕ) (rule dot : ℕ) → Type 0
  HasNumber numbers begun rule dot = (k : ℕ) × (Contains numbers k ⊎ Contains begun k) × ((dotted_at rules k).rule ≡ rule) × ((dotted_at rules k).dot ≡ dot)

  has_number : (earleme : ℕ) (packed begun : List ℕ) (rule dot : ℕ) → HasDotted (row_items rules earleme packed begun) rule dot → HasNumber (dotted_of packed) begun rule dot
  has_number earleme packed begun rule dot (item, h, r, d) = elim (Contains-append_cases (map (unpacked rules) packed) (map (begun_at rules earleme) begun) item h) [
    | inl a ↦ (
        let (n, hn, e) = map_from (unpacked rules) packed item a in
        (n / 4294967296, inl (map_has (λ m. m / 4294967296) packed n hn), ap (λ (z : Item). z.rule) e ∙ r, ap (λ (z : Item). z.dot) e ∙ d))
    | inr b ↦ (
        let (k, hk, e) = map_from (begun_at rules earleme) begun item b in
        (k, inr hk, ap (λ (z : Item). z.rule) e ∙ r, ap (λ (z : Item). z.dot) e ∙ d))
  ]

  from_number : (earleme : ℕ) (packed begun : List ℕ) (rule dot : ℕ) → HasNumber (dotted_of packed) begun rule dot → HasDotted (row_items rules earleme packed begun) rule dot
  from_number earleme packed begun rule dot (k, s, r, d) = elim s [
    | inl a ↦ (
        let (n, hn, e) = map_from (λ m. m / 4294967296) packed k a in (
          unpacked rules n,
          Contains-append_left (map (unpacked rules) packed) (map (begun_at rules earleme) begun) (unpacked rules n) (map_has (unpacked rules) packed n hn),
          ap (λ m. (dotted_at rules m).rule) e ∙ r,
          ap (λ m. (dotted_at rules m).dot) e ∙ d,
        ))
    | inr b ↦ (begun_at rules earleme k, Contains-append_right (map (unpacked rules) packed) (map (begun_at rules earleme) begun) (begun_at rules earleme k) (map_has (begun_at rules earleme) begun k b), r, d)
  ]

  pub rows_alike : (i j : ℕ) (packed others begun shared : List ℕ) → dotted_of packed ≡ dotted_of others → begun ≡ shared → AreAlike (row_items rules i packed begun) (row_items rules j others shared)
  rows_alike i j packed others begun shared same list rule dot = (
    λ h. from_number j others shared rule dot (subst (λ l. HasNumber l shared rule dot) same (subst (λ l. HasNumber (dotted_of packed) l rule dot) list (has_number i packed begun rule dot h))),
    λ h. from_number i packed begun rule dot (subst (λ l. HasNumber l begun rule dot) (sym same) (subst (λ l. HasNumber (dotted_of others) l rule dot) (sym list) (has_number j others shared rule dot h))),
  )
