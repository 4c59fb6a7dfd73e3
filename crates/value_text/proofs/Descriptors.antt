-- The parts of a descriptor between commas, one after the other.
use Rattle.std.proofs.Common.{◌≡◌, ℕ, suc, ◌+◌, ◌≤◌, ◌<◌, Bool, true, false, cond, List, [], ◌∷◌, ◌++◌, length, take, drop, Option, Some, None, refl, sym, ap, ◌∙◌, arith, length-drop, append_assoc, ◌-◌}
use Rattle.std.proofs.lemmas.Bool.{lt-leb, le-leb, ltb-true, ltb-false}
use Rattle.std.proofs.lemmas.List.{drop-drop, take_rest}
use Rattle.std.proofs.Math.Dec.{leb-suc-suc, leb-zero}
use Rattle.std.specs.Prelude.{not, ◌==◌, option_map, nat_lt, nat_le}
use Rattle.std.specs.List.{list_all, prefix_len}
use Rattle.unicode.specs.Binary.{is_white_space}
use Rattle.grammar_model.specs.declared.DescItem.{DescItem}
use Rattle.language_model.specs.Tokens.{spaced}
use Rattle.language_model.specs.Actions.{item_named, items_named, between_commas, is_blank, item_and, on_first}

pub blank_all : (xs : List ℕ) → is_blank xs ≡ list_all is_white_space xs
blank_all [] = refl
blank_all (x ∷ xs) = let e = blank_all xs in cc

abbrev pub commas : List ℕ → ℕ
commas text = prefix_len (λ c. not (c == 44)) text

abbrev behind : List ℕ → List (List ℕ)
behind text = cond (nat_lt (commas text) (length text)) (between_commas (drop (suc (commas text)) text)) []

parts : (text : List ℕ) → between_commas text ≡ take (commas text) text ∷ behind text
parts [] = refl
parts (c ∷ cs) = go (c == 44) (parts cs)
  where
    go : (b : Bool) → between_commas cs ≡ take (commas cs) cs ∷ behind cs →
        cond b ([] ∷ between_commas cs) (on_first c (between_commas cs)) ≡
        take (cond (not b) (1 + commas cs) 0) (c ∷ cs) ∷ cond (nat_lt (cond (not b) (1 + commas cs) 0) (suc (length cs))) (between_commas (drop (suc (cond (not b) (1 + commas cs) 0)) (c ∷ cs))) []
    go true e = rw (leb-suc-suc 0 (length cs), leb-zero) refl
    go false e = let s : 1 + commas cs ≡ suc (commas cs) = omega arith in rw (s, leb-suc-suc (suc (commas cs)) (length cs)) (ap (on_first c) e)

-- the items of the parts from a place on; past the end there are none
abbrev pub left_items : List ℕ → ℕ → Option (List DescItem)
left_items text from = cond (nat_le from (length text)) (items_named (between_commas (drop from text))) (Some [])

abbrev pub with_prefix : List DescItem → Option (List DescItem) → Option (List DescItem)
with_prefix items left = option_map (λ is. items ++ is) left

past_end : (text : List ℕ) (from : ℕ) → length text < from → left_items text from ≡ Some []
past_end text from lt = ap (λ b. cond b (items_named (between_commas (drop from text))) (Some [])) (lt-leb from (length text) lt)

within : (text : List ℕ) (from : ℕ) → from ≤ length text → left_items text from ≡ items_named (between_commas (drop from text))
within text from le = ap (λ b. cond b (items_named (between_commas (drop from text))) (Some [])) (le-leb from (length text) le)

abbrev first_part : List ℕ → Option DescItem
first_part rest = item_named (spaced (take (commas rest) rest) false false)

left_behind : (text : List ℕ) (from : ℕ) → from ≤ length text → items_named (behind (drop from text)) ≡ left_items text (from + (commas (drop from text) + 1))
left_behind text from le = go (nat_lt (commas (drop from text)) (length (drop from text))) refl
  where
    go : (b : Bool) → nat_lt (commas (drop from text)) (length (drop from text)) ≡ b →
        items_named (cond b (between_commas (drop (suc (commas (drop from text))) (drop from text))) []) ≡ left_items text (from + (commas (drop from text) + 1))
    go true e =
        let lt = ltb-true _ _ e in
        let long = length-drop from text in
        let at : from + suc (commas (drop from text)) ≡ from + (commas (drop from text) + 1) = omega arith in
        ap (λ xs. items_named (between_commas xs)) (drop-drop (suc (commas (drop from text))) from text ∙ ap (λ k. drop k text) at)
        ∙ sym (within text (from + (commas (drop from text) + 1)) (omega arith))
    go false e =
        let le' = ltb-false _ _ e in
        let long = length-drop from text in
        sym (past_end text (from + (commas (drop from text) + 1)) (omega arith))

next_items : (text : List ℕ) (from : ℕ) → from ≤ length text → left_items text from ≡ item_and (first_part (drop from text)) (left_items text (from + (commas (drop from text) + 1)))
next_items text from le =
    within text from le ∙ ap items_named (parts (drop from text)) ∙ ap (item_and (first_part (drop from text))) (left_behind text from le)

part_is : (text : List ℕ) (from len : ℕ) → len ≡ commas (take (length text - from) (drop from text)) →
    item_named (spaced (take (from + len - from) (drop from text)) false false) ≡ first_part (drop from text)
part_is text from len e =
    let same : from + len - from ≡ commas (drop from text) = omega (arith, e, ap commas (take_rest text from)) in
    ap (λ k. item_named (spaced (take k (drop from text)) false false)) same

pub no_item : (text : List ℕ) (items : List DescItem) (from len : ℕ) (found : Option DescItem) → from ≤ length text → len ≡ commas (take (length text - from) (drop from text)) →
    found ≡ item_named (spaced (take (from + len - from) (drop from text)) false false) → found ≡ None → with_prefix items (left_items text from) ≡ None
no_item text items from len found le e is none =
    let none' : first_part (drop from text) ≡ None = sym (part_is text from len e) ∙ sym is ∙ none in
    ap (with_prefix items) (next_items text from le ∙ ap (λ o. item_and o (left_items text (from + (commas (drop from text) + 1)))) none')

prefix_moves : (items : List DescItem) (i : DescItem) (left : Option (List DescItem)) → with_prefix (items ++ i ∷ []) left ≡ with_prefix items (item_and (Some i) left)
prefix_moves items i None = refl
prefix_moves items i (Some is) = ap Some (append_assoc items (i ∷ []) is)

pub one_item : (text : List ℕ) (items : List DescItem) (from len : ℕ) (found : Option DescItem) (i : DescItem) → from ≤ length text → len ≡ commas (take (length text - from) (drop from text)) →
    found ≡ item_named (spaced (take (from + len - from) (drop from text)) false false) → found ≡ Some i → with_prefix (items ++ i ∷ []) (left_items text (from + (len + 1))) ≡ with_prefix items (left_items text from)
one_item text items from len found i le e is some =
    let some' : first_part (drop from text) ≡ Some i = sym (part_is text from len e) ∙ sym is ∙ some in
    let same : len ≡ commas (drop from text) = e ∙ ap commas (take_rest text from) in
    prefix_moves items i (left_items text (from + (len + 1)))
    ∙ ap (λ k. with_prefix items (item_and (Some i) (left_items text (from + (k + 1))))) same
    ∙ sym (ap (with_prefix items) (next_items text from le ∙ ap (λ o. item_and o (left_items text (from + (commas (drop from text) + 1)))) some'))
