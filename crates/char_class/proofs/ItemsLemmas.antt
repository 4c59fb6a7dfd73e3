-- Reading on after an item.
use Rattle.std.proofs.Common.{◌≡◌, ℕ, ◌<◌, ◌≤◌, ◌+◌, ◌-◌, List, take, Option, append-nil, drop-drop, [], ◌∷◌, ◌++◌, length, drop, refl, sym, subst, ap, Some, None, ◌∙◌, arith, Result, Ok, Err, append_assoc}
use Rattle.std.proofs.lemmas.List.{take_rest, length-drop}
use Rattle.std.proofs.Math.ListN.{drop_of_length-le}
use Rattle.language_model.specs.declared.class.Piece.{Piece}
use Rattle.language_model.specs.declared.class.ClassItem.{ClassItem}
use Rattle.language_model.specs.declared.class.ClassFault.{ClassFault}
use Rattle.language_model.specs.Classes.{items_of, item_then, range_start}
use Rattle.char_class.specs.Reading.{item_at}

-- the items before, and those that are read
abbrev pub with_prefix : List ClassItem → Result (List ClassItem) ClassFault → Result (List ClassItem) ClassFault
with_prefix prefix (Ok items) = Ok (prefix ++ items)
with_prefix prefix (Err f) = Err f

by_start : (p q r : Piece) (ps : List Piece) (o : Option ℕ) → range_start p q ≡ o → items_of (p ∷ q ∷ r ∷ ps) ≡ item_then (item_at (p ∷ q ∷ r ∷ ps)).0 (items_of (drop (item_at (p ∷ q ∷ r ∷ ps)).1 (p ∷ q ∷ r ∷ ps)))
unfolding items_of
by_start p q r ps (Some low) e = rw (e, items_of) refl
by_start p q r ps None e = rw (e, items_of) refl

pub items_of-step : (ps : List Piece) → 0 < length ps → items_of ps ≡ item_then (item_at ps).0 (items_of (drop (item_at ps).1 ps))
unfolding items_of
items_of-step [] h = absurd (omega arith)
items_of-step (p ∷ []) h = refl
items_of-step (p ∷ q ∷ []) h = refl
items_of-step (p ∷ q ∷ r ∷ ps) h = by_start p q r ps (range_start p q) refl

pub with_prefix-ok : (prefix : List ClassItem) (i : ClassItem) (rest : Result (List ClassItem) ClassFault) → with_prefix prefix (item_then (Ok i) rest) ≡ with_prefix (prefix ++ i ∷ []) rest
with_prefix-ok prefix i (Ok is) = ap Ok (sym (append_assoc prefix (i ∷ []) is))
with_prefix-ok prefix i (Err f) = refl

items_here : (ps : List Piece) (at : ℕ) (found : Result ClassItem ClassFault × ℕ) → at < length ps → found ≡ item_at (take (length ps - at) (drop at ps)) → items_of (drop at ps) ≡ item_then found.0 (items_of (drop (at + found.1) ps))
items_here ps at found within is =
    let here : found ≡ item_at (drop at ps) = is ∙ ap item_at (take_rest ps at) in
    let some : 0 < length (drop at ps) = omega (arith, length-drop at ps) in
    subst (λ (f : Result ClassItem ClassFault × ℕ). items_of (drop at ps) ≡ item_then f.0 (items_of (drop (at + f.1) ps))) (sym here)
    (items_of-step (drop at ps) some ∙ ap (λ t. item_then (item_at (drop at ps)).0 (items_of t)) (drop-drop _ _ ps))

-- a step of the loop, where there is an item
pub items_next : (ps : List Piece) (at : ℕ) (prefix : List ClassItem) (found : Result ClassItem ClassFault × ℕ) (i : ClassItem) → at < length ps → found ≡ item_at (take (length ps - at) (drop at ps)) → found.0 ≡ Ok i → with_prefix prefix (items_of (drop at ps)) ≡ items_of ps → with_prefix (prefix ++ i ∷ []) (items_of (drop (at + found.1) ps)) ≡ items_of ps
items_next ps at prefix found i within is ok so_far = sym (with_prefix-ok prefix i _) ∙ ap (with_prefix prefix) (sym (items_here ps at found within is ∙ ap (λ r. item_then r (items_of (drop (at + found.1) ps))) ok)) ∙ so_far

-- where there is none
pub items_end : (ps : List Piece) (at : ℕ) (prefix : List ClassItem) (found : Result ClassItem ClassFault × ℕ) (f : ClassFault) → at < length ps → found ≡ item_at (take (length ps - at) (drop at ps)) → found.0 ≡ Err f → with_prefix prefix (items_of (drop at ps)) ≡ items_of ps → items_of ps ≡ Err f
items_end ps at prefix found f within is err so_far = sym so_far ∙ ap (with_prefix prefix) (items_here ps at found within is ∙ ap (λ r. item_then r (items_of (drop (at + found.1) ps))) err)

-- past the end
pub items_all : (ps : List Piece) (at : ℕ) (prefix : List ClassItem) → length ps ≤ at → with_prefix prefix (items_of (drop at ps)) ≡ items_of ps → items_of ps ≡ Ok prefix
unfolding items_of
items_all ps at prefix past so_far = sym so_far ∙ ap (λ t. with_prefix prefix (items_of t)) (drop_of_length-le ps past) ∙ ap Ok (append-nil prefix)
