-- The codes that fold as one character does, found in the table of pairs.
use Rattle.std.proofs.Common.{◌≡◌, ◌≢◌, ◌∙◌, sym, ap, refl, ℕ, zero, suc, ◌+◌, ◌-◌, ◌<◌, ◌≤◌, Bool, true, false, ◌&&◌, List, [], ◌∷◌, length, map, get_or, take, drop, Any, arith, subst, eqb-true, eq-eqb, length-drop, length-take-le}
use Rattle.std.proofs.Math.Bool.{or-false}
use Rattle.std.proofs.lemmas.List.{get_or-take, get_or-drop, take-append-drop}
use Rattle.std.specs.Prelude.{◌||◌, ◌==◌, nat_lt, nat_le}
use Rattle.std.specs.List.{list_any}
use Rattle.std.specs.List.Sorted.{IsPartitionPoint}
use Rattle.std.proofs.lemmas.Bool.{and_parts, leb-true, leb-false, le-leb, ltb-true, ltb-false, lt-ltb, ne_eqb}
use Rattle.std.proofs.lemmas.List.Folds.{list_any-append, Any-from_list_any, list_any-from_Any}
use Rattle.std.specs.Cmp.Derive.{both_true}
use Rattle.ucd_case.specs.FoldOtherRows.{fold_other_rows}
use Rattle.ucd_case.proofs.FoldPairsLemmas.{IsFoldPairs-fold_pairs}
use Rattle.unicode.specs.CaseFolding.{fold_pairs, simple_fold}
use Rattle.language_model.specs.declared.class.ClassItem.TheVariants.{Span}
use Rattle.language_model.specs.Classes.{some_item_has}
use Rattle.char_class.specs.Members.{folded_has, has_code}

abbrev Pairs : Type 0
Pairs = List (ℕ × ℕ)

-- the first codes do not fall

rises_from : ℕ → Pairs → Bool
rises_from low [] = true
rises_from low (p ∷ ps) = nat_le low p.0 && rises_from p.0 ps

table_rises : rises_from 0 fold_pairs ≡ true
unfolding fold_pairs fold_other_rows rises_from
table_rises = refl

above : (low : ℕ) (ps : Pairs) → rises_from low ps ≡ true → (j : ℕ) (d : ℕ × ℕ) → j < length ps → low ≤ (get_or ps j d).0
unfolding rises_from
above low [] h j d lt = absurd (omega arith)
above low (p ∷ ps) h zero d lt = leb-true low p.0 (and_parts _ _ h).0
above low (p ∷ ps) h (suc j) d lt =
    let b = and_parts (nat_le low p.0) (rises_from p.0 ps) h in
    let first = leb-true low p.0 b.0 in
    let rest = above p.0 ps b.1 j d (omega arith) in omega arith

rises : (low : ℕ) (ps : Pairs) → rises_from low ps ≡ true → (i j : ℕ) (d : ℕ × ℕ) → i ≤ j → j < length ps → (get_or ps i d).0 ≤ (get_or ps j d).0
unfolding rises_from
rises low [] h i j d le lt = absurd (omega arith)
rises low (p ∷ ps) h zero zero d le lt = omega arith
rises low (p ∷ ps) h zero (suc j) d le lt = above p.0 ps (and_parts (nat_le low p.0) _ h).1 j d (omega arith)
rises low (p ∷ ps) h (suc i) zero d le lt = absurd (omega arith)
rises low (p ∷ ps) h (suc i) (suc j) d le lt = rises p.0 ps (and_parts (nat_le low p.0) _ h).1 i j d (omega arith) (omega arith)

pub partitioned : (pairs : Pairs) → pairs ≡ fold_pairs → (code : ℕ) → (i j : ℕ) (d : ℕ × ℕ) → i ≤ j → j < length pairs → nat_lt (get_or pairs j d).0 code ≡ true → nat_lt (get_or pairs i d).0 code ≡ true
partitioned pairs same code i j d le lt h =
    let up = rises 0 pairs (ap (rises_from 0) same ∙ table_rises) i j d le lt in
    let below = ltb-true (get_or pairs j d).0 code h in
    lt-ltb (get_or pairs i d).0 code (omega arith)

-- the pairs of a code stand between two places

none_passes : (q : ℕ × ℕ → Bool) (ps : Pairs) → ((k : ℕ) (d : ℕ × ℕ) → k < length ps → q (get_or ps k d) ≡ false) → list_any q ps ≡ false
none_passes q [] f = refl
none_passes q (p ∷ ps) f = ap (λ b. b || list_any q ps) (f 0 p (omega arith)) ∙ none_passes q ps (λ k d lt. f (suc k) d (omega arith))

abbrev leads : ℕ → ℕ → ℕ × ℕ → Bool
leads code x pair = (pair.0 == code) && (pair.1 == x)

only_second : (code x : ℕ) (ps : Pairs) → ((k : ℕ) (d : ℕ × ℕ) → k < length ps → (get_or ps k d).0 ≡ code) → has_code (map (λ pair. pair.1) ps) x ≡ list_any (leads code x) ps
only_second code x [] f = refl
only_second code x (p ∷ ps) f =
    ap (λ b. (p.1 == x) || b) (only_second code x ps (λ k d lt. f (suc k) d (omega arith)))
    ∙ ap (λ b. (b && (p.1 == x)) || list_any (leads code x) ps) (sym (eq-eqb p.0 code (f 0 p (omega arith))))

within_is : (code x : ℕ) (ps : Pairs) (from to : ℕ) → from ≤ to → to ≤ length ps →
    ((k : ℕ) (d : ℕ × ℕ) → k < from → (get_or ps k d).0 < code) → ((k : ℕ) (d : ℕ × ℕ) → from ≤ k → k < to → (get_or ps k d).0 ≡ code) → ((k : ℕ) (d : ℕ × ℕ) → to ≤ k → k < length ps → code < (get_or ps k d).0) →
    has_code (map (λ pair. pair.1) (take (to - from) (drop from ps))) x ≡ list_any (leads code x) ps
within_is code x ps from to le le' low here high =
    let q = leads code x in
    let inner = take (to - from) (drop from ps) in
    let outer = drop (to - from) (drop from ps) in
    let prefix : list_any q (take from ps) ≡ false =
    none_passes q (take from ps) (λ k d lt. let k' : k < from = omega (arith, length-take-le from ps (omega arith)) in
    ap (λ b. b && ((get_or (take from ps) k d).1 == x)) (ne_eqb _ code (λ e. let a = low k d k' in let g = ap (λ (p : ℕ × ℕ). p.0) (get_or-take from ps k d k') in omega (arith, e, a, g)))) in
    let rest : list_any q outer ≡ false =
    none_passes q outer (λ k d lt.
    let n = length-drop from ps in let m = length-drop (to - from) (drop from ps) in
    let g = ap (λ (p : ℕ × ℕ). p.0) (get_or-drop (to - from) (drop from ps) k d ∙ get_or-drop from ps (to - from + k) d) in
    let a = high (from + (to - from + k)) d (omega arith) (omega arith) in
    ap (λ b. b && ((get_or outer k d).1 == x)) (ne_eqb _ code (λ e. omega (arith, e, a, g)))) in
    only_second code x inner (λ k d lt.
    let n = length-drop from ps in let m = length-take-le (to - from) (drop from ps) (omega arith) in
    let k' : k < to - from = omega arith in
    ap (λ (p : ℕ × ℕ). p.0) (get_or-take (to - from) (drop from ps) k d k' ∙ get_or-drop from ps k d) ∙ here (from + k) d (omega arith) (omega arith))
    ∙ sym (
    ap (list_any q) (sym (take-append-drop from ps)) ∙ list_any-append q (take from ps) (drop from ps) ∙ ap (λ b. b || list_any q (drop from ps)) prefix
    ∙ ap (list_any q) (sym (take-append-drop (to - from) (drop from ps))) ∙ list_any-append q inner outer ∙ ap (λ b. list_any q inner || b) rest ∙ or-false (list_any q inner))

-- pairs stand in both orders

equal_tests : (a b : Bool) → (a ≡ true → b ≡ true) → (b ≡ true → a ≡ true) → a ≡ b
equal_tests true b f g = sym (f refl)
equal_tests false true f g = g refl
equal_tests false false f g = refl

found_pair : (q : ℕ × ℕ → Bool) (a b : ℕ) → a ≢ b → simple_fold a ≡ simple_fold b → q (a, b) ≡ true → list_any q fold_pairs ≡ true
found_pair q a b other same h = let at = (IsFoldPairs-fold_pairs a b).1 (other, same) in list_any-from_Any q fold_pairs (at.0, (a, b), at.1, at.2, h)

abbrev from_one : ℕ → ℕ → ℕ × ℕ → Bool
from_one code x pair = (pair.0 == x) && some_item_has (Span code code ∷ []) pair.1

alone : (code c : ℕ) → some_item_has (Span code code ∷ []) c ≡ true → c ≡ code
alone code c h =
    let b = and_parts (nat_le code c) (nat_le c code) (sym (or-false (nat_le code c && nat_le c code)) ∙ h) in
    let low = leb-true code c b.0 in let high = leb-true c code b.1 in omega arith

itself : (code : ℕ) → some_item_has (Span code code ∷ []) code ≡ true
itself code = let e = le-leb code code (omega arith) in or-false (nat_le code code && nat_le code code) ∙ both_true e e

-- a class of one character has that one
pub only_itself : (code c : ℕ) → some_item_has (Span code code ∷ []) c ≡ (code == c)
only_itself code c =
    equal_tests (some_item_has (Span code code ∷ []) c) (code == c)
    (λ h. eq-eqb code c (sym (alone code c h))) (λ h. subst (λ x. some_item_has (Span code code ∷ []) x ≡ true) (eqb-true code c h) (itself code))

to_folded : (code x : ℕ) → Any (λ (pair : ℕ × ℕ). leads code x pair ≡ true) fold_pairs → folded_has (Span code code ∷ []) x ≡ true
to_folded code x (k, pair, within, is, passes) =
    let parts = and_parts (pair.0 == code) (pair.1 == x) passes in
    let first = eqb-true pair.0 code parts.0 in
    let second = eqb-true pair.1 x parts.1 in
    let told = (IsFoldPairs-fold_pairs pair.0 pair.1).0 (k, within, is) in
    found_pair (from_one code x) x code (λ e. told.0 (first ∙ sym e ∙ sym second)) (ap simple_fold (sym second) ∙ sym told.1 ∙ ap simple_fold first) (both_true (eq-eqb x x refl) (itself code))

to_listed : (code x : ℕ) → Any (λ (pair : ℕ × ℕ). from_one code x pair ≡ true) fold_pairs → list_any (leads code x) fold_pairs ≡ true
to_listed code x (k, pair, within, is, passes) =
    let parts = and_parts (pair.0 == x) (some_item_has (Span code code ∷ []) pair.1) passes in
    let first = eqb-true pair.0 x parts.0 in
    let second = alone code pair.1 parts.1 in
    let told = (IsFoldPairs-fold_pairs pair.0 pair.1).0 (k, within, is) in
    found_pair (leads code x) code x (λ e. told.0 (first ∙ sym e ∙ sym second)) (ap simple_fold (sym second) ∙ sym told.1 ∙ ap simple_fold first) (both_true (eq-eqb code code refl) (eq-eqb x x refl))

both_orders : (code x : ℕ) → list_any (leads code x) fold_pairs ≡ folded_has (Span code code ∷ []) x
both_orders code x =
    equal_tests (list_any (leads code x) fold_pairs) (folded_has (Span code code ∷ []) x)
    (λ h. to_folded code x (Any-from_list_any (leads code x) fold_pairs h)) (λ h. to_listed code x (Any-from_list_any (from_one code x) fold_pairs h))

-- what stands between the two places

abbrev Split : Pairs → ℕ → ℕ → Type 0
Split pairs code at = IsPartitionPoint (λ (pair : ℕ × ℕ). nat_lt pair.0 code ≡ true) (λ pair. nat_lt pair.0 code ≡ false) pairs at

pub in_order : (pairs : Pairs) (code from to : ℕ) → from ≤ length pairs → to ≤ length pairs → Split pairs code from → Split pairs (code + 1) to → from ≤ to
in_order pairs code from to fits fits' a b = go (nat_le from to) refl
  where
    go : (t : Bool) → nat_le from to ≡ t → from ≤ to
    go true e = leb-true from to e
    go false e =
        let lt = leb-false from to e in
        let low = ltb-true _ code (a.0 to (0, 0) (omega arith) lt) in
        let high = ltb-false _ (code + 1) (b.1 to (0, 0) (omega arith) (omega arith)) in absurd (omega arith)

pub others_are : (pairs : Pairs) → pairs ≡ fold_pairs → (code from to : ℕ) → from ≤ to → to ≤ length pairs → Split pairs code from → Split pairs (code + 1) to → (x : ℕ) →
    has_code (map (λ pair. pair.1) (take (to - from) (drop from pairs))) x ≡ folded_has (Span code code ∷ []) x
others_are pairs same code from to le fits a b x =
    within_is code x pairs from to le fits (λ k d lt. ltb-true _ code (a.0 k d (omega arith) lt))
    (λ k d ge lt. let low = ltb-false _ code (a.1 k d ge (omega arith)) in let high = ltb-true _ (code + 1) (b.0 k d (omega arith) lt) in omega arith)
    (λ k d ge lt. let high = ltb-false _ (code + 1) (b.1 k d ge lt) in omega arith)
    ∙ ap (list_any (leads code x)) same ∙ both_orders code x
