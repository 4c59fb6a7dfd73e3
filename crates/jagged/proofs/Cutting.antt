-- Rows that are kept end to end.
use Rattle.std.proofs.Common.{◌≡◌, ℕ, zero, suc, ◌+◌, ◌-◌, ◌<◌, ◌≤◌, ◌++◌, List, [], ◌∷◌, length, take, drop, get_or, refl, sym, ap, ◌∙◌, subst, arith, length-append}
use Rattle.std.proofs.lemmas.List.{drop-take, length-take-le, take-take}
use Rattle.std.proofs.Math.Seq.{take-length, drop-append_seam}
use Rattle.finite_sets.proofs.Lists.{take_prefix}
use Rattle.jagged.specs.Rows.{row_at, cut, AreEnds, last_end}

take_as : {A : Type 0} (e n : ℕ) (xs ys : List A) → e ≤ n → take n xs ≡ take n ys → take e xs ≡ take e ys
take_as e n xs ys le h = sym (take-take e n xs le) ∙ (ap (take e) h ∙ take-take e n ys le)

last_within : (s : ℕ) (ends : List ℕ) (n : ℕ) → AreEnds s ends n → last_end s ends ≤ n
last_within s [] n h = h
last_within s (e ∷ es) n (a, h) = last_within e es n h

last_above : (s : ℕ) (ends : List ℕ) (n : ℕ) → AreEnds s ends n → s ≤ last_end s ends
last_above s [] n h = omega arith
last_above s (e ∷ es) n (a, h) = let c = last_above e es n h in omega arith

-- another length that is not below the last end
ends_other : (s : ℕ) (ends : List ℕ) (n m : ℕ) → AreEnds s ends n → last_end s ends ≤ m → AreEnds s ends m
ends_other s [] n m h a = a
ends_other s (e ∷ es) n m (c, h) a = (c, ends_other e es n m h a)

ends_more : (s : ℕ) (ends : List ℕ) (e n m : ℕ) → AreEnds s ends n → last_end s ends ≤ e → e ≤ m → AreEnds s (ends ++ e ∷ []) m
ends_more s [] e n m h a b = (a, b)
ends_more s (f ∷ es) e n m (x, h) a b = (x, ends_more f es e n m h a b)

-- the rows are told by what is below the last end
cut_same : {A : Type 0} (s : ℕ) (ends : List ℕ) (xs ys : List A) (n : ℕ) → AreEnds s ends n → take (last_end s ends) xs ≡ take (last_end s ends) ys → cut s ends xs ≡ cut s ends ys
cut_same s [] xs ys n h a = refl
cut_same s (e ∷ es) xs ys n (c, h) a =
    let i = last_above e es n h in
    ap (λ r. r ∷ cut e es xs) (ap (drop s) (take_as e (last_end e es) xs ys i a)) ∙ ap (λ l. drop s (take e ys) ∷ l) (cut_same e es xs ys n h a)

cut_append : {A : Type 0} (s : ℕ) (ends : List ℕ) (e : ℕ) (xs : List A) → cut s (ends ++ e ∷ []) xs ≡ cut s ends xs ++ drop (last_end s ends) (take e xs) ∷ []
cut_append s [] e xs = refl
cut_append s (f ∷ es) e xs = ap (λ l. drop s (take f xs) ∷ l) (cut_append f es e xs)

part_new : {A : Type 0} (n e : ℕ) (xs row : List A) → n ≤ length xs → e ≡ length (take n xs ++ row) → drop n (take e (take n xs ++ row)) ≡ row
part_new n e xs row le same =
    ap (λ k. drop n (take k (take n xs ++ row))) same ∙ (ap (drop n) (take-length (take n xs ++ row))
    ∙ (ap (λ k. drop k (take n xs ++ row)) (sym (length-take-le n xs le)) ∙ drop-append_seam (take n xs) row))

pub cut_length : {A : Type 0} (s : ℕ) (ends : List ℕ) (xs : List A) → length (cut s ends xs) ≡ length ends
cut_length s [] xs = refl
cut_length s (e ∷ es) xs = ap suc (cut_length e es xs)

drop_take : {A : Type 0} (s e : ℕ) (xs : List A) → s ≤ e → drop s (take e xs) ≡ take (e - s) (drop s xs)
drop_take s e xs le = ap (λ k. drop s (take k xs)) (let same : e ≡ s + (e - s) = omega arith in same) ∙ drop-take s (e - s) xs

pub record IsRowAt {A : Type 0} (s e : ℕ) (xs row : List A) : Type 0 where
  pub order : s ≤ e
  pub bound : e ≤ length xs
  pub items : take (e - s) (drop s xs) ≡ row

pub cut_at : {A : Type 0} (s : ℕ) (ends : List ℕ) (xs : List A) → AreEnds s ends (length xs) → (j : ℕ) → j < length ends →
    IsRowAt (get_or (s ∷ ends) j 0) (get_or ends j 0) xs (row_at (cut s ends xs) j)
cut_at s [] xs h j lt = absurd (omega arith)
cut_at s (e ∷ es) xs (a, h) zero lt = record {
  order = a;
  bound = let c = last_above e es (length xs) h in let i = last_within e es (length xs) h in omega arith;
  items = sym (drop_take s e xs a);
}
cut_at s (e ∷ es) xs (a, h) (suc j) lt = cut_at e es xs h j (omega arith)

pub row_between : {A : Type 0} (ends : List ℕ) (xs : List A) → AreEnds 0 ends (length xs) → (j : ℕ) → j < length ends → (start end : ℕ) → start ≡ get_or (0 ∷ ends) j 0 → end ≡ get_or ends j 0 → IsRowAt start end xs (row_at (cut 0 ends xs) j)
row_between ends xs h j lt start end s e =
    subst (λ z. IsRowAt z end xs (row_at (cut 0 ends xs) j)) (sym s) (subst (λ z. IsRowAt (get_or (0 ∷ ends) j 0) z xs (row_at (cut 0 ends xs) j)) (sym e) (cut_at 0 ends xs h j lt))

-- the same of lists that are equal to these
module _ {A : Type 0} (ends : List ℕ) (xs : List A) (h : AreEnds 0 ends (length xs)) (lists : List (List A)) (is : cut 0 ends xs ≡ lists) (j : ℕ) (lt : j < length lists) where
  pub in_ends : (ends' : List ℕ) → ends' ≡ ends → j < length ends'
  in_ends ends' e = let l = cut_length 0 ends xs in let v = ap (λ (z : List (List A)). length z) is in let d = ap (λ (z : List ℕ). length z) e in omega arith

  pub row_here : (first second : List ℕ) (xs' : List A) → first ≡ ends → second ≡ ends → xs' ≡ xs → (start end : ℕ) → start ≡ get_or (0 ∷ first) j 0 → end ≡ get_or second j 0 → IsRowAt start end xs' (row_at lists j)
  row_here first second xs' f s x start end a b =
      subst (λ l. IsRowAt start end xs' (row_at l j)) is
      (subst (λ z. IsRowAt start end z (row_at (cut 0 ends xs) j)) (sym x)
      (row_between ends xs h j (in_ends ends refl) start end (a ∙ ap (λ l. get_or (0 ∷ l) j 0) f) (b ∙ ap (λ l. get_or l j 0) s)))

last_get : (s : ℕ) (ends : List ℕ) → get_or (s ∷ ends) (length ends) 0 ≡ last_end s ends
last_get s [] = refl
last_get s (e ∷ es) = last_get e es

pub last_index : (s : ℕ) (ends : List ℕ) → (length ends ≡ 0 → ⊥) → get_or ends (length ends - 1) 0 ≡ last_end s ends
last_index s [] some = absurd (some refl)
last_index s (e ∷ es) some = ap (λ k. get_or (e ∷ es) k 0) (let same : suc (length es) - 1 ≡ length es = omega arith in same) ∙ last_get e es

-- a row is put after the last end
module _ {A : Type 0} (ends : List ℕ) (xs : List A) (h : AreEnds 0 ends (length xs)) (last : ℕ) (is : last ≡ last_end 0 ends) where
  pub put_within : last ≤ length xs
  put_within = let w = last_within 0 ends (length xs) h in omega arith

  pub put_view : (ys : List A) (ends' : List ℕ) → ends' ≡ ends → take last ys ≡ take last xs → cut 0 ends' ys ≡ cut 0 ends xs
  put_view ys ends' same a = ap (λ e. cut 0 e ys) same ∙ cut_same 0 ends ys xs (length xs) h (subst (λ z. take z ys ≡ take z xs) is a)

  pub put_ends : (n : ℕ) (ends' : List ℕ) → ends' ≡ ends → last ≤ n → AreEnds 0 ends' n
  put_ends n ends' same a = subst (λ e. AreEnds 0 e n) (sym same) (ends_other 0 ends (length xs) n h (omega arith))

  module _ (row ys : List A) (ends' : List ℕ) (put : ys ≡ take last xs ++ row) (n : ℕ) (n_is : n ≡ length row) (more : ends' ≡ ends ++ (last + n) ∷ []) where
    long : last + n ≡ length (take last xs ++ row)
    long = let l = length-append (take last xs) row in let k = length-take-le last xs put_within in omega arith

    pub put_more_ends : AreEnds 0 ends' (length ys)
    put_more_ends =
        let i = long in
        let p = ap (λ (l : List A). length l) put in
        subst (λ e. AreEnds 0 e (length ys)) (sym more) (ends_more 0 ends (last + n) (length xs) (length ys) h (omega arith) (omega arith))

    pub put_more_view : cut 0 ends' ys ≡ cut 0 ends xs ++ row ∷ []
    put_more_view =
        let one : drop last (take (last + n) (take last xs ++ row)) ≡ row = part_new last (last + n) xs row put_within long in
        let end : drop (last_end 0 ends) (take (last + n) (take last xs ++ row)) ≡ row = subst (λ z. drop z (take (last + n) (take last xs ++ row)) ≡ row) is one in
        let tail : cut 0 ends (take last xs ++ row) ≡ cut 0 ends xs = put_view (take last xs ++ row) ends refl (take_prefix last xs row put_within) in
        ap (λ e. cut 0 e ys) more ∙ (ap (cut 0 (ends ++ (last + n) ∷ [])) put ∙ (cut_append 0 ends (last + n) (take last xs ++ row)
        ∙ (ap (λ r. cut 0 ends (take last xs ++ row) ++ r ∷ []) end ∙ ap (λ l. l ++ row ∷ []) tail)))

-- the first row alone
module _ {A : Type 0} (xs : List A) where
  pub first_ends : (s : ℕ) (ends : List ℕ) → AreEnds s ends (length xs) → AreEnds s (take 1 ends) (length xs)
  first_ends s [] h = h
  first_ends s (e ∷ es) (a, h) = let c = last_above e es (length xs) h in let i = last_within e es (length xs) h in (a, omega arith)

  pub first_cut : (s : ℕ) (ends : List ℕ) → cut s (take 1 ends) xs ≡ take 1 (cut s ends xs)
  first_cut s [] = refl
  first_cut s (e ∷ es) = refl
