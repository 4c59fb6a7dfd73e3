-- What is told to one teller after another is told to all.
use Rattle.std.proofs.Common.{◌≡◌, ℕ, ◌+◌, ◌<◌, ◌≤◌, List, [], ◌∷◌, ◌++◌, length, map, take, drop, set, get_or, sym, ap, ◌∙◌, arith, subst, length-drop, get_or-drop}
use Rattle.std.proofs.Math.Seq.{take-append_seam}
use Rattle.std.proofs.lemmas.List.{take_more, take_more_set, take-map, map-append, get_or-map, take_all, drop-drop, drop-set-lt, length-map}

module _ {X S : Type 0} (view : X → S) (f : S → S) where
  same_place : (olds items : List X) (i : ℕ) (x : X) → drop i items ≡ drop i olds → get_or items i x ≡ get_or olds i x
  same_place olds items i x e =
      let at : i + 0 ≡ i = omega arith in
      ap (λ k. get_or items k x) (sym at) ∙ sym (get_or-drop i items 0 x) ∙ ap (λ (xs : List X). get_or xs 0 x) e ∙ get_or-drop i olds 0 x ∙ ap (λ k. get_or olds k x) at

  next_drop : (xs : List X) (i : ℕ) → drop (i + 1) xs ≡ drop 1 (drop i xs)
  next_drop xs i = sym (drop-drop 1 i xs)

  longer : (olds items : List X) (i : ℕ) → i < length items → drop i items ≡ drop i olds → i < length olds
  longer olds items i b e = omega (arith, b, ap length e, length-drop i items, length-drop i olds)

  pub told_more : (olds items : List X) (i : ℕ) (x d y : X) → i < length items → x ≡ get_or items i d → drop i items ≡ drop i olds → take i (map view items) ≡ take i (map f (map view olds)) → view y ≡ f (view x) →
      take (i + 1) (map view (set items i y)) ≡ take (i + 1) (map f (map view olds))
  told_more olds items i x d y b at rest told new =
      let old : x ≡ get_or olds i d = at ∙ same_place olds items i d rest in
      let inside = longer olds items i b rest in
      let inside2 : i < length (map view olds) = omega (arith, inside, length-map olds view) in
      let inside3 : i < length (map f (map view olds)) = omega (arith, inside2, length-map (map view olds) f) in
      take-map view (i + 1) (set items i y) ∙ ap (map view) (take_more_set items i y b) ∙ map-append view (take i items) (y ∷ [])
      ∙ (λ k. (sym (take-map view i items) ∙ told) k ++ (new ∙ ap (λ o. f (view o)) old) k ∷ [])
      ∙ ap (λ s. take i (map f (map view olds)) ++ s ∷ []) (sym (get_or-map f (map view olds) i (view x) (f (view x)) inside2 ∙ ap f (get_or-map view olds i d (view x) inside)))
      ∙ sym (take_more (map f (map view olds)) i (f (view x)) inside3)

  pub rest_more : (olds items : List X) (i : ℕ) (y : X) → drop i items ≡ drop i olds → drop (i + 1) (set items i y) ≡ drop (i + 1) olds
  rest_more olds items i y rest = drop-set-lt (i + 1) items i y (omega arith) ∙ next_drop items i ∙ ap (drop 1) rest ∙ sym (next_drop olds i)

  pub told_whole : (olds items : List X) (i : ℕ) → length items ≤ i → drop i items ≡ drop i olds → take i (map view items) ≡ take i (map f (map view olds)) → map view items ≡ map f (map view olds)
  told_whole olds items i b rest told =
      let short : length olds ≤ i = omega (arith, b, ap length rest, length-drop i items, length-drop i olds) in
      sym (take_all i (map view items) (omega (arith, b, length-map items view))) ∙ told
      ∙ take_all i (map f (map view olds)) (omega (arith, short, length-map olds view, length-map (map view olds) f))

  -- what holds of each view holds of the one at a place
  pub at_place : (P : S → Type 0) (olds items : List X) (i : ℕ) (x d : X) → ((k : ℕ) (d : S) → k < length (map view olds) → P (get_or (map view olds) k d)) → i < length items → x ≡ get_or items i d → drop i items ≡ drop i olds → P (view x)
  at_place P olds items i x d each b at rest =
      let inside = longer olds items i b rest in
      let inside2 : i < length (map view olds) = omega (arith, inside, length-map olds view) in
      subst P (get_or-map view olds i d (view x) inside ∙ ap view (sym (at ∙ same_place olds items i d rest))) (each i (view x) inside2)

-- the elements that a loop has written are the list's again
pub written_back : {X : Type 0} (olds items : List X) (n : ℕ) → length items ≡ n → take n (items ++ drop (length items) olds) ≡ items
written_back olds items n e = (λ i. take (sym e i) (items ++ drop (length items) olds)) ∙ take-append_seam items (drop (length items) olds)
