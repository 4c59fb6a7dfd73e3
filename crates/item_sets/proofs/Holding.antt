-- Sets of items as they are held.
use Rattle.std.proofs.Common.{◌≡◌, ◌≢◌, ◌↔◌, ◌⊎◌, inl, inr, ℕ, ◌+◌, ◌<◌, ◌≤◌, ◌++◌, ◌∷◌, List, [], length, take, drop, min, get_or, Contains, sym, ◌∙◌, ap, subst, arith, length-append}
use Rattle.std.specs.List.{AllPairs}
use Rattle.std.proofs.lemmas.List.{take_more, take-append-le, take-append-drop, get_or_default}
use Rattle.std.proofs.lemmas.List.Elements.{Contains-append_left, Contains-append_right, Contains-append_cases, Contains-push, Contains-push_cases}
use Rattle.std.proofs.lemmas.List.Quantifiers.{all_pairs_push}
use Rattle.finite_sets.proofs.Lists.{Contains-none}
use Rattle.recognizer_model.specs.declared.Item.{Item}
use Rattle.std.specs.Prelude.{slice_index_or}
use Rattle.item_sets.specs.Held.{place_of, HasFirst, IsHeld, AreMarked}

-- an item that is not among the first ones, nor the one after them
pub not_more : (items : List Item) (i : ℕ) (d item : Item) → i < length items → (¬ Contains (take i items) item) → (¬ (get_or items i d ≡ item)) → ¬ Contains (take (i + 1) items) item
not_more items i d item lt none other there =
    elim (Contains-push_cases (take i items) (get_or items i d) item (subst (λ l. Contains l item) (take_more items i d lt) there)) [ inl h ↦ none h | inr e ↦ other e ]

pub first_none : (table items : List Item) (filled : ℕ) → table ≡ [] → filled ≡ 0 → HasFirst table items filled
first_none table items filled e none x = (
  λ h. absurd (Contains-none x (subst (λ l. Contains l x) e h)),
  λ h. absurd (Contains-none x (subst (λ n. Contains (take n items) x) none h)),
)

pub first_more : (table new items : List Item) (i : ℕ) (d : Item) → i < length items → HasFirst table items i → ((x : Item) → Contains new x ↔ (Contains table x ⊎ (get_or items i d ≡ x))) → HasFirst new items (i + 1)
first_more table new items i d lt are adds x = subst (λ l. Contains new x ↔ Contains l x) (sym (take_more items i d lt)) (
  λ h. elim ((adds x).0 h) [
    | inl o ↦ Contains-append_left (take i items) (get_or items i d ∷ []) x ((are x).0 o)
    | inr e ↦ subst (Contains (take i items ++ get_or items i d ∷ [])) e (Contains-push (take i items) (get_or items i d))
  ],
  λ h. (adds x).1 (elim (Contains-push_cases (take i items) (get_or items i d) x h) [ inl o ↦ inl ((are x).1 o) | inr e ↦ inr e ]),
)

pub once_push : (items : List Item) (item : Item) → AllPairs (λ x y. x ≢ y) items → (¬ Contains items item) → AllPairs (λ x y. x ≢ y) (items ++ item ∷ [])
once_push items item once apart = all_pairs_push (λ x y. x ≢ y) items item once (λ k d lt e. apart (k, lt, get_or_default items k item d lt ∙ e))

-- no items
pub held_none : (items table : List Item) (filled least : ℕ) → items ≡ [] → filled ≡ 0 → HasFirst table [] 0 → IsHeld items table filled least
held_none items table filled least e none first =
    let short : length items ≡ 0 = ap (λ (l : List Item). length l) e in
    record {
      once = λ i j d lt below same. absurd (omega (arith, short));
      within = omega arith;
      first = subst (HasFirst table items) (sym none) first;
      begun = λ item there. absurd (Contains-none item (subst (λ l. Contains l item) e there));
    }

-- another table with first items
pub held_filled : (items table new : List Item) (filled count least : ℕ) → IsHeld items table filled least → count ≤ length items → HasFirst new items count → IsHeld items new count least
held_filled items table new filled count least held within first = record { once = held.once; within = within; first = first; begun = held.begun }

-- one item more
pub held_push : (items table : List Item) (filled least new : ℕ) (item : Item) → (¬ Contains items item) → IsHeld items table filled least → new ≡ min least item.origin → IsHeld (items ++ item ∷ []) table filled new
held_push items table filled least new item apart held is =
    let within = held.within in
    let more = length-append items (item ∷ []) in
    record {
      once = once_push items item held.once apart;
      within = omega arith;
      first = λ x. subst (λ l. Contains table x ↔ Contains l x) (sym (take-append-le filled items (item ∷ []) within)) (held.first x);
      begun = λ x there. elim (Contains-push_cases items item x there) [
        | inl old ↦ let le = held.begun x old in omega arith
        | inr e ↦ subst (λ (y : Item). new ≤ y.origin) e (omega arith)
      ];
    }

-- an item that begins before all of them
pub not_below : (items table : List Item) (filled least : ℕ) (item : Item) → IsHeld items table filled least → item.origin < least → ¬ Contains items item
not_below items table filled least item held below there = let le = held.begun item there in omega arith

-- the first ones, and the rest
pub there_first : (items : List Item) (n : ℕ) (x : Item) → Contains items x ↔ (Contains (take n items) x ⊎ Contains (drop n items) x)
there_first items n x = (
  λ h. Contains-append_cases (take n items) (drop n items) x (subst (λ l. Contains l x) (sym (take-append-drop n items)) h),
  λ h. subst (λ l. Contains l x) (take-append-drop n items) (elim h [
    | inl a ↦ Contains-append_left (take n items) (drop n items) x a
    | inr b ↦ Contains-append_right (take n items) (drop n items) x b
  ]),
)

-- no items have no marks
pub marked_none : (marks : List ℕ) (items : List Item) → items ≡ [] → AreMarked marks items
marked_none marks items none item there = absurd (Contains-none item (subst (λ l. Contains l item) none there))

-- one item more, that is marked
pub marked_push : (marks new : List ℕ) (items more : List Item) (item : Item) → AreMarked marks items → 0 < slice_index_or new (place_of item) 1 → ((place : ℕ) → 0 < slice_index_or marks place 1 → 0 < slice_index_or new place 1) → more ≡ items ++ item ∷ [] → AreMarked new more
marked_push marks new items more item are here kept is x there =
    elim (Contains-push_cases items item x (subst (λ l. Contains l x) is there)) [
      | inl old ↦ kept (place_of x) (are x old)
      | inr e ↦ subst (λ (y : Item). 0 < slice_index_or new (place_of y) 1) e here
    ]
