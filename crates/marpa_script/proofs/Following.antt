-- Lines that are written one after another, and what was written where that fails.
use Rattle.std.proofs.Common.{◌≡◌, ◌∙◌, ℕ, zero, suc, ◌+◌, ◌<◌, ◌≤◌, ◌++◌, List, [], ◌∷◌, Option, Some, length, map, take, get_or, refl, sym, ap, subst, arith, append_assoc, append-nil}
use Rattle.std.specs.List.{concat}
use Rattle.std.specs.Io.KnownBytes.{Appends}
use Rattle.std.proofs.lemmas.List.{take_more, take_all, map-append}
use Rattle.std.proofs.lemmas.List.Folds.{concat-append}
use Rattle.outside_model.specs.Told.{AppendsPrefix}
use Rattle.slif_base.proofs.Bytes.{appends_none, appends_twice}

one_line : (line : List ℕ) → concat (line ∷ []) ≡ line
one_line line = append-nil line

pub nothing_of : (text : List ℕ) (old : Option (List ℕ)) → AppendsPrefix old old text
nothing_of text old = record { bytes = []; rest = text; split = refl; appends = appends_none old }

module _ (xs : List (List ℕ)) (y : List ℕ) (old mid new : Option (List ℕ)) where
  pub then_written : Appends old mid (concat xs) → Appends mid new y → Appends old new (concat (xs ++ y ∷ []))
  then_written before more =
      subst (Appends old new) (sym (concat-append xs (y ∷ []) ∙ ap (λ l. concat xs ++ l) (one_line y))) (appends_twice old mid new (concat xs) y before more)

  pub then_broken : Appends old mid (concat xs) → AppendsPrefix mid new y → AppendsPrefix old new (concat (xs ++ y ∷ []))
  then_broken before part = record {
    bytes = concat xs ++ part.bytes;
    rest = part.rest;
    split = concat-append xs (y ∷ []) ∙ ap (λ l. concat xs ++ l) (one_line y ∙ part.split) ∙ sym (append_assoc (concat xs) part.bytes part.rest);
    appends = appends_twice old mid new (concat xs) part.bytes before part.appends;
  }

-- a prefix of some lines is one of these and others
pub broken_before : (xs ys : List (List ℕ)) (old new : Option (List ℕ)) → AppendsPrefix old new (concat xs) → AppendsPrefix old new (concat (xs ++ ys))
broken_before xs ys old new part = record {
  bytes = part.bytes;
  rest = part.rest ++ concat ys;
  split = concat-append xs ys ∙ ap (λ l. l ++ concat ys) part.split ∙ append_assoc part.bytes part.rest (concat ys);
  appends = part.appends;
}

-- the lines that a function tells of items
module _ {X : Type 0} (f : X → List ℕ) (items : List X) where
  pub none_told : (old : Option (List ℕ)) → Appends old old (concat (map f (take 0 items)))
  none_told old = appends_none old

  told_more : (k : ℕ) (d : X) → k < length items → map f (take (k + 1) items) ≡ map f (take k items) ++ f (get_or items k d) ∷ []
  told_more k d lt = ap (map f) (take_more items k d lt) ∙ map-append f (take k items) (get_or items k d ∷ [])

  -- the lines of all items are those of the first and of others
  others : (k : ℕ) → (tail : List (List ℕ)) × (map f items ≡ map f (take k items) ++ tail)
  others k = split items k
    where
      split : (xs : List X) (k : ℕ) → (tail : List (List ℕ)) × (map f xs ≡ map f (take k xs) ++ tail)
      split [] zero = ([], refl)
      split [] (suc k) = ([], refl)
      split (x ∷ xs) zero = (map f (x ∷ xs), refl)
      split (x ∷ xs) (suc k) = let (tail, is) = split xs k in (tail, ap (λ l. f x ∷ l) is)

  module _ (k : ℕ) (d : X) (old mid new : Option (List ℕ)) (lt : k < length items) (before : Appends old mid (concat (map f (take k items)))) where
    pub one_more_told : Appends mid new (f (get_or items k d)) → Appends old new (concat (map f (take (k + 1) items)))
    one_more_told more = subst (λ l. Appends old new (concat l)) (sym (told_more k d lt)) (then_written (map f (take k items)) (f (get_or items k d)) old mid new before more)

    pub broken_told : AppendsPrefix mid new (f (get_or items k d)) → AppendsPrefix old new (concat (map f items))
    broken_told part =
        let (tail, is) = others (k + 1) in
        let here = subst (λ l. AppendsPrefix old new (concat l)) (sym (told_more k d lt)) (then_broken (map f (take k items)) (f (get_or items k d)) old mid new before part) in
        subst (λ l. AppendsPrefix old new (concat l)) (sym is) (broken_before (map f (take (k + 1) items)) tail old new here)

  pub all_told : (k : ℕ) (old new : Option (List ℕ)) → length items ≤ k → Appends old new (concat (map f (take k items))) → Appends old new (concat (map f items))
  all_told k old new end so_far = subst (λ (xs : List X). Appends old new (concat (map f xs))) (take_all k items end) so_far
