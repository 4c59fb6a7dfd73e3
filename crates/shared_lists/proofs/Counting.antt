-- What is below each bound, counted list by list.
use Rattle.std.proofs.Common.{◌≡◌, inl, inr, ℕ, ◌+◌, ◌<◌, ◌≤◌, ◌++◌, List, [], ◌∷◌, length, get_or, Some, slice_get, sym, ◌∙◌, ap, subst, arith, length-append}
use Rattle.std.proofs.lemmas.Bool.{cases_lt}
use Rattle.std.proofs.lemmas.List.{get_or_past}
use Rattle.std.proofs.Math.ListN.{get_or-append}
use Rattle.std.proofs.Math.Seq.{get_or-append_seam}
use Rattle.finite_sets.proofs.Lists.{get_pushed}
use Rattle.jagged.specs.Rows.{row_at}
use Rattle.kernels.specs.Slots.{Rises}
use Rattle.shared_lists.specs.Counted.{IsCount, AreCounts, AreCounted, AddsCounts}

module _ {A : Type 0} (xs : List A) (x d : A) where
  pub old_at : (k : ℕ) → k < length xs → get_or (xs ++ x ∷ []) k d ≡ get_or xs k d
  old_at k lt = get_or-append xs (x ∷ []) d k lt

  pub new_at : get_or (xs ++ x ∷ []) (length xs) d ≡ x
  new_at = get_or-append_seam xs x [] d

pub one_longer : {A : Type 0} (xs : List A) (x : A) → length (xs ++ x ∷ []) ≡ length xs + 1
one_longer xs x = length-append xs (x ∷ [])

-- counts of one list
pub no_counts : (list : List ℕ) → AreCounts list []
no_counts list bound count e = absurd (cc)

pub counts_more : (list counts new : List ℕ) (bound n : ℕ) → AreCounts list counts → length counts ≡ bound → IsCount list bound n → new ≡ counts ++ n ∷ [] → AreCounts list new
counts_more list counts new bound n are long is e b c h = elim (get_pushed counts n b c (subst (λ (l : List ℕ). slice_get l b ≡ Some c) e h)) [
  | inl a ↦ are b c a
  | inr (there, same) ↦ subst (IsCount list b) same (subst (λ z. IsCount list z n) (sym (there ∙ long)) is)
]

-- counts of all lists
module _ (lists counts : List (List ℕ)) where
  past : (k : ℕ) → length counts ≤ k → (list : List ℕ) → AreCounts list (row_at counts k)
  past k le list = subst (AreCounts list) (sym (get_or_past counts k [] le)) (no_counts list)

  module _ (are : AreCounted lists counts) (list : List ℕ) (rises : Rises list) where
    rise_more : (k : ℕ) → k < length (lists ++ list ∷ []) → Rises (row_at (lists ++ list ∷ []) k)
    rise_more k lt = elim (cases_lt k (length lists)) [
      | inl l ↦ subst Rises (sym (old_at lists list [] k l)) (are.rise k l)
      | inr le ↦
          let m = one_longer lists list in
          let same : k ≡ length lists = omega arith in
          subst Rises (sym (ap (row_at (lists ++ list ∷ [])) same ∙ new_at lists list [])) rises
    ]

    pub counted_list : AreCounted (lists ++ list ∷ []) counts
    counted_list = record {
      few = (let m = one_longer lists list in let f = are.few in omega arith);
      rise = rise_more;
      are = λ k. elim (cases_lt k (length lists)) [
        | inl l ↦ subst (λ z. AreCounts z (row_at counts k)) (sym (old_at lists list [] k l)) (are.are k)
        | inr le ↦ past k (let f = are.few in omega arith) (row_at (lists ++ list ∷ []) k)
      ];
    }

    counted_both : (row : List ℕ) → length counts ≡ length lists → AreCounts list row → AreCounted (lists ++ list ∷ []) (counts ++ row ∷ [])
    counted_both row same is = record {
      few = (let m = one_longer lists list in let n = one_longer counts row in omega arith);
      rise = rise_more;
      are = λ k. at k;
    }
      where
        later : (k : ℕ) → length (counts ++ row ∷ []) ≤ k → AreCounts (row_at (lists ++ list ∷ []) k) (row_at (counts ++ row ∷ []) k)
        later k le = subst (AreCounts (row_at (lists ++ list ∷ []) k)) (sym (get_or_past (counts ++ row ∷ []) k [] le)) (no_counts (row_at (lists ++ list ∷ []) k))

        here : (k : ℕ) → k ≡ length counts → AreCounts (row_at (lists ++ list ∷ []) k) (row_at (counts ++ row ∷ []) k)
        here k e =
            subst (AreCounts (row_at (lists ++ list ∷ []) k)) (sym (ap (row_at (counts ++ row ∷ [])) e ∙ new_at counts row []))
            (subst (λ z. AreCounts z row) (sym (ap (row_at (lists ++ list ∷ [])) (e ∙ same) ∙ new_at lists list [])) is)

        at : (k : ℕ) → AreCounts (row_at (lists ++ list ∷ []) k) (row_at (counts ++ row ∷ []) k)
        at k = elim (cases_lt k (length counts)) [
          | inl l ↦
              subst (λ z. AreCounts z (row_at (counts ++ row ∷ []) k)) (sym (old_at lists list [] k (omega arith)))
              (subst (AreCounts (row_at lists k)) (sym (old_at counts row [] k l)) (are.are k))
          | inr le ↦ elim (cases_lt (length counts) k) [
            | inl l ↦ later k (let n = one_longer counts row in omega arith)
            | inr ge ↦ here k (omega arith)
          ]
        ]

    pub counted_more : (place : ℕ) (new : List (List ℕ)) → place ≡ length lists → AddsCounts place list counts new → AreCounted (lists ++ list ∷ []) new
    counted_more place new e more = elim more [
      | inl same ↦ subst (AreCounted (lists ++ list ∷ [])) (sym same) counted_list
      | inr (long, row, is, counted) ↦ subst (AreCounted (lists ++ list ∷ [])) (sym is) (counted_both row (long ∙ e) counted)
    ]

pub none_counted : AreCounted [] []
none_counted = record {
  few = omega arith;
  rise = λ k lt. absurd (omega arith);
  are = λ k. past [] [] k (omega arith) (row_at [] k);
}
