-- Rows that numbers are added to, and rows that are put one after the other.
use Rattle.std.proofs.Common.{arith, ◌≡◌, inl, inr, ℕ, ◌+◌, ◌<◌, List, [], ◌∷◌, ◌++◌, length, take, Contains, slice_index, refl, sym, ◌∙◌, ap, subst}
use Rattle.horn_clauses.specs.Least.{Clause, clause_at}
use Rattle.std.proofs.lemmas.List.{get_or-take, length-take-le, get_or_append_left, get_or_push}
use Rattle.horn_clauses.specs.Rows.{HasAdded, HasAddedAll, HasPlacesTo}
use Rattle.jagged.specs.Rows.{row_at}
use Rattle.horn_clauses.proofs.Search.{same_or_below}

-- what holds of each row holds of one more
pub each_more : (P : ℕ → List ℕ → Type 0) (rows : List (List ℕ)) (row : List ℕ) (n : ℕ) → length rows ≡ n → ((j : ℕ) → j < n → P j (row_at rows j)) → P n row → (j : ℕ) → j < n + 1 → P j (row_at (rows ++ row ∷ []) j)
each_more P rows row n long each p j lt = elim (same_or_below j n (omega arith)) [
  | inl before ↦ subst (P j) (sym (get_or_append_left rows (row ∷ []) [] j (omega arith))) (each j before)
  | inr same ↦ subst (λ k. P k (row_at (rows ++ row ∷ []) k)) (sym same) (subst (P n) (sym (get_or_push rows row [] n long)) p)
]

pub add_none : (rows : List (List ℕ)) (xs : List ℕ) (i : ℕ) → HasAddedAll rows rows (take 0 xs) i
add_none rows xs i = record { same_length = refl; keeps = λ y j h. h; only = λ y j h. inl h; has = λ m lt. absurd (omega arith) }

pub add_more : (old mid new : List (List ℕ)) (xs : List ℕ) (n i : ℕ) → n < length xs → HasAddedAll old mid (take n xs) i → HasAdded mid new (slice_index xs n) i → HasAddedAll old new (take (n + 1) xs) i
add_more old mid new xs n i lt a b = record {
  same_length = b.same_length ∙ a.same_length;
  keeps = λ y j h. b.keeps y j (a.keeps y j h);
  only = λ y j h. elim (b.only y j h) [ inl before ↦ a.only y j before | inr (at, now) ↦ inr now ];
  has = λ m below.
      let long : length (take (n + 1) xs) ≡ n + 1 = grind (arith, length-take-le) in
      let now : slice_index (take (n + 1) xs) m ≡ slice_index xs m = get_or-take (n + 1) xs m 0 (omega arith) in
      elim (same_or_below m n (omega arith)) [
        | inl before ↦
            let before_is : slice_index (take n xs) m ≡ slice_index xs m = get_or-take n xs m 0 before in
            let few : length (take n xs) ≡ n = grind (arith, length-take-le) in
            b.keeps (slice_index (take (n + 1) xs) m) i (subst (λ y. Contains (row_at mid y) i) (before_is ∙ sym now) (a.has m (omega arith)))
        | inr same ↦ subst (λ y. Contains (row_at new y) i) (sym (now ∙ ap (slice_index xs) same)) b.has
      ];
}

pub places_none : (cs : List Clause) (rows : List (List ℕ)) → ((x : ℕ) → row_at rows x ≡ []) → HasPlacesTo cs rows 0
places_none cs rows e = record {
  within = λ x i h. let none : Contains [] i = subst (λ l. Contains l i) (e x) h in absurd (empty i none);
  all = λ i m lt. absurd (omega arith);
}
  where
    empty : (i : ℕ) → Contains [] i → ⊥
    empty i (k, lt, e) = omega arith

pub places_more : (cs : List Clause) (old new : List (List ℕ)) (n : ℕ) → n < length cs → HasPlacesTo cs old n → HasAddedAll old new (clause_at cs n).body n → HasPlacesTo cs new (n + 1)
places_more cs old new n lt p a = record {
  within = λ x i h. elim (a.only x i h) [ inl before ↦ p.within x i before | inr now ↦ omega arith ];
  all = λ i m below more. elim (same_or_below i n below) [
    | inl before ↦ a.keeps (slice_index (clause_at cs i).body m) i (p.all i m before more)
    | inr same ↦ subst (λ i. m < length (clause_at cs i).body → Contains (row_at new (slice_index (clause_at cs i).body m)) i) (sym same) (a.has m) more
  ];
}
