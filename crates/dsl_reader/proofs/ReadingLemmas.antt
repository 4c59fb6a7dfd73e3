-- Reading, one step further.
use Rattle.std.proofs.Common.{◌≡◌, ◌∙◌, sym, ap, subst, refl, ℕ, zero, suc, ◌+◌, ◌<◌, ◌≤◌, Bool, true, false, not, cond, ◌&&◌, ◌||◌, List, [], ◌∷◌, ◌++◌, length, drop, take, codes, map, Option, Some, None, append_assoc, append-nil, arith, length-append, add-one, nat_lt, ltb-true, ltb-false}
use Rattle.std.specs.Prelude.{if◌then◌else◌, option_map, IfSome}
use Rattle.std.specs.List.{list_all, prefix_len}
use Rattle.language_model.specs.Tokens.{Spelled}
use Rattle.language_model.specs.Description.{Element, Bare, Hidden, Adverb, Comma, Pair, Alternative, is_some, is_mark, onto_first}
use Rattle.dsl_reader.specs.Pieces.{first_is, first_of, first_place, is_part, is_unlike}
use Rattle.dsl_reader.specs.Reading.{adverbs_of, add_adverb, is_pair, alternative_of, add_element, only_adverbs, begins_adverb}
use Rattle.dsl_reader.specs.Forms.{pair_of, hidden_behind, ends_elements, both_some, all_read, between}
use Rattle.dsl_statement.specs.declared.statement.Adverb.{Adverb as HeldAdverb}
use Rattle.dsl_statement.specs.declared.statement.Element.{Element as HeldElement}
use Rattle.dsl_statement.specs.Statements.{adverb_of as adverb_seen, element_of as element_seen}
use Rattle.std.proofs.lemmas.List.{length-drop, map-append, drop-take}
use Rattle.std.proofs.Math.ListN.{drop_of_length-le}
use Rattle.std.proofs.Math.Bool.{and-false}
use Rattle.std.proofs.Math.Seq.{take-length}
use Rattle.std.specs.Cmp.Derive.{both_true}
use Rattle.dsl_reader.proofs.AdverbLemmas.{comma_step, pair_step}
use Rattle.dsl_reader.proofs.AlternativeLemmas.{bare_step, open_step, adverb_step, part_step, close_step}
use Rattle.dsl_reader.proofs.BetweenLemmas.{other_step, mark_step, between_last}

abbrev pub onto_elements : List Element → Option Alternative → Option Alternative
onto_elements es None = None
onto_elements es (Some a) = Some (record { elements = es ++ a.elements; adverbs = a.adverbs })

-- THE FIRST TOKEN

pub first_inside : (p : Spelled → Bool) (ts : List Spelled) (i : ℕ) → first_is p (drop i ts) ≡ true → i < length ts
first_inside p [] zero h = cc
first_inside p [] (suc i) h = cc
first_inside p (t ∷ ts) zero h = omega arith
first_inside p (t ∷ ts) (suc i) h = omega (arith, first_inside p ts i h)

-- a step further in a list
nothing : {A : Type 0} (i n : ℕ) → drop i [] ≡ drop n (let l : List A = [] in l)
nothing zero zero = refl
nothing zero (suc n) = refl
nothing (suc i) zero = refl
nothing (suc i) (suc n) = refl

drop_after : {A : Type 0} (i n : ℕ) (xs : List A) → drop (i + n) xs ≡ drop n (drop i xs)
drop_after zero n xs = ap (λ k. drop k xs) (let e : 0 + n ≡ n = omega arith in e)
drop_after (suc i) n [] = nothing (suc i + n) n
drop_after (suc i) n (x ∷ xs) = ap (λ k. drop k (x ∷ xs)) (let e : suc i + n ≡ suc (i + n) = omega arith in e) ∙ drop_after i n xs

pub drop_more : {A : Type 0} (n i : ℕ) (xs : List A) → drop (i + n) xs ≡ drop n (drop i xs)
drop_more n i xs = drop_after i n xs

arrow_first : (xs : List Spelled) (a b : Bool) → a ≡ first_is (is_mark (codes ",")) xs → a ≡ false → b ≡ first_is (is_mark (codes "=>")) (drop 1 xs) → b ≡ begins_adverb xs
arrow_first [] a b e f g = g
arrow_first (t ∷ []) a b e f g = g ∙ sym f ∙ e
arrow_first (t ∷ u ∷ ts) a b e f g = g ∙ ap (λ c. c || is_mark (codes "=>") u) (sym f ∙ e)

pub arrow_begins : (ts : List Spelled) (i : ℕ) (a b : Bool) → a ≡ first_is (is_mark (codes ",")) (drop i ts) → a ≡ false → b ≡ first_is (is_mark (codes "=>")) (drop (i + 1) ts) → b ≡ begins_adverb (drop i ts)
arrow_begins ts i a b e f g = arrow_first (drop i ts) a b e f (g ∙ ap (first_is (is_mark (codes "=>"))) (drop_more 1 i ts))

unlike_first : (m : List ℕ) (xs : List Spelled) → 0 < length xs → first_is (is_mark m) xs ≡ false → prefix_len (is_unlike m) xs ≡ 1 + prefix_len (is_unlike m) (drop 1 xs)
unlike_first m [] h e = absurd (omega arith)
unlike_first m (t ∷ ts) h e = ap (λ b. cond (not b) (1 + prefix_len (is_unlike m) ts) 0) e

pub unlike_step : (m : List ℕ) (ts : List Spelled) (i : ℕ) → i < length ts → first_is (is_mark m) (drop i ts) ≡ false → prefix_len (is_unlike m) (drop i ts) ≡ 1 + prefix_len (is_unlike m) (drop (i + 1) ts)
unlike_step m ts i h e = unlike_first m (drop i ts) (omega (arith, length-drop i ts)) e ∙ ap (λ xs. 1 + prefix_len (is_unlike m) xs) (sym (drop_more 1 i ts))

-- ADVERBS

pub comma_first : (xs : List Spelled) → first_is (is_mark (codes ",")) xs ≡ true → adverbs_of xs ≡ add_adverb (Comma (first_place xs)) (adverbs_of (drop 1 xs))
comma_first [] h = cc
comma_first (t ∷ ts) h = comma_step t ts h

-- what the tokens are, if they begin with an adverb
abbrev PairRead : List Spelled → Option Adverb → Type 0
PairRead xs None = adverbs_of xs ≡ None
PairRead xs (Some a) = (adverbs_of xs ≡ add_adverb a (adverbs_of (drop 3 xs))) × (3 ≤ length xs)

pair_if : (t u v : Spelled) (ts : List Spelled) (b : Bool) → is_mark (codes ",") t ≡ false → is_pair t u v ≡ b → PairRead (t ∷ u ∷ v ∷ ts) (if b then Some (Pair t v) else None)
unfolding adverbs_of
pair_if t u v ts true e f = (pair_step t u v ts e f, omega arith)
pair_if t u v ts false e f = rw (e, f) refl

pair_read : (xs : List Spelled) → 0 < length xs → first_is (is_mark (codes ",")) xs ≡ false → PairRead xs (pair_of xs)
unfolding adverbs_of
pair_read [] h e = absurd (omega arith)
pair_read (t ∷ []) h e = rw e refl
pair_read (t ∷ u ∷ []) h e = rw e refl
pair_read (t ∷ u ∷ v ∷ ts) h e = pair_if t u v ts (is_pair t u v) e refl

pub pair_first : (xs : List Spelled) (a : Adverb) → 0 < length xs → first_is (is_mark (codes ",")) xs ≡ false → Some a ≡ pair_of xs → (adverbs_of xs ≡ add_adverb a (adverbs_of (drop 3 xs))) × (3 ≤ length xs)
pair_first xs a h e is = subst (PairRead xs) (sym is) (pair_read xs h e)

pub pair_none : (xs : List Spelled) → 0 < length xs → first_is (is_mark (codes ",")) xs ≡ false → None ≡ pair_of xs → adverbs_of xs ≡ None
pair_none xs h e is = subst (PairRead xs) (sym is) (pair_read xs h e)

add_prefix : (prefix : List Adverb) (a : Adverb) (o : Option (List Adverb)) → option_map (λ r. (prefix ++ a ∷ []) ++ r) o ≡ option_map (λ r. prefix ++ r) (add_adverb a o)
add_prefix prefix a None = refl
add_prefix prefix a (Some r) = ap Some (append_assoc prefix (a ∷ []) r)

pub adverbs_next : (ts : List Spelled) (i n : ℕ) (old new : List HeldAdverb) (x : HeldAdverb) (W : Option (List Adverb)) → new ≡ old ++ x ∷ [] → adverbs_of (drop i ts) ≡ add_adverb (adverb_seen x) (adverbs_of (drop n (drop i ts)))
    → option_map (λ r. map adverb_seen old ++ r) (adverbs_of (drop i ts)) ≡ W → option_map (λ r. map adverb_seen new ++ r) (adverbs_of (drop (i + n) ts)) ≡ W
adverbs_next ts i n old new x W e step w =
    ap (λ (l : List HeldAdverb). option_map (λ r. map adverb_seen l ++ r) (adverbs_of (drop (i + n) ts))) e
    ∙ ap (λ l. option_map (λ r. l ++ r) (adverbs_of (drop (i + n) ts))) (map-append adverb_seen old (x ∷ []))
    ∙ ap (λ l. option_map (λ r. (map adverb_seen old ++ adverb_seen x ∷ []) ++ r) (adverbs_of l)) (drop_more n i ts)
    ∙ add_prefix (map adverb_seen old) (adverb_seen x) (adverbs_of (drop n (drop i ts)))
    ∙ ap (option_map (λ r. map adverb_seen old ++ r)) (sym step) ∙ w

pub adverbs_none : (ts : List Spelled) (i : ℕ) (prefix : List Adverb) (W : Option (List Adverb)) → adverbs_of (drop i ts) ≡ None → option_map (λ r. prefix ++ r) (adverbs_of (drop i ts)) ≡ W → None ≡ W
adverbs_none ts i prefix W e w = ap (option_map (λ r. prefix ++ r)) (sym e) ∙ w

pub adverbs_end : (ts : List Spelled) (i : ℕ) (prefix : List Adverb) (W : Option (List Adverb)) → length ts ≤ i → option_map (λ r. prefix ++ r) (adverbs_of (drop i ts)) ≡ W → Some prefix ≡ W
unfolding adverbs_of
adverbs_end ts i prefix W h w = ap Some (sym (append-nil prefix)) ∙ ap (λ l. option_map (λ r. prefix ++ r) (adverbs_of l)) (sym (drop_of_length-le ts h)) ∙ w

-- PARTS IN ROUND BRACKETS

some_same : {A : Type 0} (x y : A) → (let o : Option A = Some x in o) ≡ Some y → x ≡ y
some_same x y e = cc

hidden_first : (xs parts : List Spelled) (part : Spelled) → first_is is_part xs ≡ true → Some part ≡ first_of xs → alternative_of (drop 1 xs) (Some (parts ++ part ∷ [])) ≡ alternative_of xs (Some parts)
hidden_first [] parts part h e = cc
hidden_first (t ∷ ts) parts part h e = ap (λ x. alternative_of ts (Some (parts ++ x ∷ []))) (some_same part t e) ∙ sym (part_step t ts parts h)

pub hidden_next : (ts parts new : List Spelled) (part : Spelled) (W : Option Alternative) → first_is is_part (drop (length parts) ts) ≡ true → Some part ≡ first_of (drop (length parts) ts) → new ≡ parts ++ part ∷ []
    → alternative_of (drop (length parts) ts) (Some parts) ≡ W → (length new ≤ length ts) × (alternative_of (drop (length new) ts) (Some new) ≡ W)
hidden_next ts parts new part W h e is w =
    let inside = first_inside is_part ts (length parts) h in
    let longer : length new ≡ length parts + 1 = omega (arith, ap length is, length-append parts (part ∷ [])) in
    (omega (arith, inside, longer), (λ i. alternative_of (drop (longer i) ts) (Some (is i))) ∙ ap (λ l. alternative_of l (Some (parts ++ part ∷ []))) (drop_more 1 (length parts) ts) ∙ hidden_first (drop (length parts) ts) parts part h e ∙ w)

close_first : (xs parts : List Spelled) → first_is is_part xs ≡ false → first_is (is_mark (codes ")")) xs ≡ true → is_some parts ≡ true → alternative_of xs (Some parts) ≡ add_element (Hidden parts) (alternative_of (drop 1 xs) None)
close_first [] parts h e some = cc
close_first (t ∷ ts) parts h e some = close_step t ts parts h (both_true e some)

some_length : {A : Type 0} (xs : List A) → 0 < length xs → is_some xs ≡ true
some_length [] h = absurd (omega arith)
some_length (x ∷ xs) h = refl

pub hidden_closed : (ts parts : List Spelled) (W : Option Alternative) → first_is is_part (drop (length parts) ts) ≡ false → 0 < length parts → first_is (is_mark (codes ")")) (drop (length parts) ts) ≡ true
    → alternative_of (drop (length parts) ts) (Some parts) ≡ W → hidden_behind (Some parts) ts ≡ W
hidden_closed ts parts W h some e w =
    ap (λ l. add_element (Hidden parts) (alternative_of l None)) (ap (λ n. drop n ts) (sym (add-one (length parts))) ∙ drop_more 1 (length parts) ts)
    ∙ sym (close_first (drop (length parts) ts) parts h e (some_length parts some)) ∙ w

open_first : (xs parts : List Spelled) → first_is is_part xs ≡ false → (first_is (is_mark (codes ")")) xs && is_some parts) ≡ false → alternative_of xs (Some parts) ≡ None
unfolding alternative_of
open_first [] parts h e = refl
open_first (t ∷ ts) parts h e = rw (h, e) refl

pub hidden_empty : (ts parts : List Spelled) (W : Option Alternative) → first_is is_part (drop (length parts) ts) ≡ false → length parts ≤ 0 → alternative_of (drop (length parts) ts) (Some parts) ≡ W → None ≡ W
hidden_empty ts [] W h e w = sym (open_first ts [] h (and-false (first_is (is_mark (codes ")")) ts))) ∙ w
hidden_empty ts (t ∷ parts) W h e w = absurd (omega arith)

pub hidden_open : (ts parts : List Spelled) (W : Option Alternative) → first_is is_part (drop (length parts) ts) ≡ false → first_is (is_mark (codes ")")) (drop (length parts) ts) ≡ false → alternative_of (drop (length parts) ts) (Some parts) ≡ W → None ≡ W
hidden_open ts parts W h e w = sym (open_first (drop (length parts) ts) parts h (ap (λ b. b && is_some parts) e)) ∙ w

-- ELEMENTS

ends_facts : (xs : List Spelled) → ends_elements xs ≡ false → (0 < length xs) × (begins_adverb xs ≡ false)
ends_facts [] h = cc
ends_facts (t ∷ ts) h = (omega arith, h)

bare_first : (xs : List Spelled) (part : Spelled) → ends_elements xs ≡ false → first_is (is_mark (codes "(")) xs ≡ false → first_is is_part xs ≡ true → Some part ≡ first_of xs → alternative_of xs None ≡ add_element (Bare part) (alternative_of (drop 1 xs) None)
bare_first [] part ends opens is e = cc
bare_first (t ∷ ts) part ends opens is e = bare_step t ts ends opens is ∙ ap (λ x. add_element (Bare x) (alternative_of ts None)) (sym (some_same part t e))

open_read : (xs : List Spelled) → ends_elements xs ≡ false → first_is (is_mark (codes "(")) xs ≡ true → alternative_of xs None ≡ alternative_of (drop 1 xs) (Some [])
open_read [] ends opens = cc
open_read (t ∷ ts) ends opens = open_step t ts ends opens

hidden_taken : (xs parts : List Spelled) → ends_elements xs ≡ false → first_is (is_mark (codes "(")) xs ≡ true → hidden_behind (Some parts) (drop 1 xs) ≡ alternative_of (drop 1 xs) (Some []) → alternative_of xs None ≡ add_element (Hidden parts) (alternative_of (drop (2 + length parts) xs) None)
hidden_taken xs parts ends opens h =
    open_read xs ends opens ∙ sym h ∙ ap (λ l. add_element (Hidden parts) (alternative_of l None)) (sym (drop_more (suc (length parts)) 1 xs) ∙ ap (λ n. drop n xs) (let e : 1 + suc (length parts) ≡ 2 + length parts = omega arith in e))

onto_next : (prefix : List Element) (e : Element) (o : Option Alternative) → onto_elements (prefix ++ e ∷ []) o ≡ onto_elements prefix (add_element e o)
onto_next prefix e None = refl
onto_next prefix e (Some a) = ap (λ l. Some (record { elements = l; adverbs = a.adverbs })) (append_assoc prefix (e ∷ []) a.elements)

elements_next : (ts : List Spelled) (i n : ℕ) (old new : List HeldElement) (x : HeldElement) (W : Option Alternative) → new ≡ old ++ x ∷ [] → alternative_of (drop i ts) None ≡ add_element (element_seen x) (alternative_of (drop n (drop i ts)) None)
    → onto_elements (map element_seen old) (alternative_of (drop i ts) None) ≡ W → onto_elements (map element_seen new) (alternative_of (drop (i + n) ts) None) ≡ W
elements_next ts i n old new x W e step w =
    ap (λ (l : List HeldElement). onto_elements (map element_seen l) (alternative_of (drop (i + n) ts) None)) e
    ∙ ap (λ l. onto_elements l (alternative_of (drop (i + n) ts) None)) (map-append element_seen old (x ∷ []))
    ∙ ap (λ l. onto_elements (map element_seen old ++ element_seen x ∷ []) (alternative_of l None)) (drop_more n i ts)
    ∙ onto_next (map element_seen old) (element_seen x) (alternative_of (drop n (drop i ts)) None)
    ∙ ap (onto_elements (map element_seen old)) (sym step) ∙ w

pub bare_next : (ts : List Spelled) (i : ℕ) (old new : List HeldElement) (part : Spelled) (x : HeldElement) (W : Option Alternative) → element_seen x ≡ Bare part → new ≡ old ++ x ∷ [] → ends_elements (drop i ts) ≡ false → first_is (is_mark (codes "(")) (drop i ts) ≡ false → first_is is_part (drop i ts) ≡ true → Some part ≡ first_of (drop i ts)
    → onto_elements (map element_seen old) (alternative_of (drop i ts) None) ≡ W → onto_elements (map element_seen new) (alternative_of (drop (i + 1) ts) None) ≡ W
bare_next ts i old new part x W seen e ends opens is found w = elements_next ts i 1 old new x W e (bare_first (drop i ts) part ends opens is found ∙ ap (λ y. add_element y (alternative_of (drop 1 (drop i ts)) None)) (sym seen)) w

pub hidden_on : (ts : List Spelled) (i : ℕ) (old new : List HeldElement) (parts : List Spelled) (x : HeldElement) (W : Option Alternative) → element_seen x ≡ Hidden parts → new ≡ old ++ x ∷ [] → ends_elements (drop i ts) ≡ false → first_is (is_mark (codes "(")) (drop i ts) ≡ true
    → hidden_behind (Some parts) (drop (i + 1) ts) ≡ alternative_of (drop (i + 1) ts) (Some [])
    → onto_elements (map element_seen old) (alternative_of (drop i ts) None) ≡ W → onto_elements (map element_seen new) (alternative_of (drop (i + (2 + length parts)) ts) None) ≡ W
hidden_on ts i old new parts x W seen e ends opens h w =
    let here : hidden_behind (Some parts) (drop 1 (drop i ts)) ≡ alternative_of (drop 1 (drop i ts)) (Some []) = subst (λ l. hidden_behind (Some parts) l ≡ alternative_of l (Some [])) (drop_more 1 i ts) h in
    elements_next ts i (2 + length parts) old new x W e (hidden_taken (drop i ts) parts ends opens here ∙ ap (λ y. add_element y (alternative_of (drop (2 + length parts) (drop i ts)) None)) (sym seen)) w

pub hidden_none : (ts : List Spelled) (i : ℕ) (prefix : List Element) (W : Option Alternative) → ends_elements (drop i ts) ≡ false → first_is (is_mark (codes "(")) (drop i ts) ≡ true → None ≡ alternative_of (drop (i + 1) ts) (Some []) → onto_elements prefix (alternative_of (drop i ts) None) ≡ W → None ≡ W
hidden_none ts i prefix W ends opens h w =
    ap (onto_elements prefix) (h ∙ ap (λ l. alternative_of l (Some [])) (drop_more 1 i ts) ∙ sym (open_read (drop i ts) ends opens)) ∙ w

other_read : (xs : List Spelled) → ends_elements xs ≡ false → first_is (is_mark (codes "(")) xs ≡ false → first_is is_part xs ≡ false → alternative_of xs None ≡ None
unfolding alternative_of
other_read [] ends opens is = cc
other_read (t ∷ ts) ends opens is = rw (ends, opens, is) refl

pub other_none : (ts : List Spelled) (i : ℕ) (prefix : List Element) (W : Option Alternative) → ends_elements (drop i ts) ≡ false → first_is (is_mark (codes "(")) (drop i ts) ≡ false → first_is is_part (drop i ts) ≡ false → onto_elements prefix (alternative_of (drop i ts) None) ≡ W → None ≡ W
other_none ts i prefix W ends opens is w = ap (onto_elements prefix) (sym (other_read (drop i ts) ends opens is)) ∙ w

ends_read : (xs : List Spelled) → ends_elements xs ≡ true → alternative_of xs None ≡ only_adverbs (adverbs_of xs)
unfolding alternative_of adverbs_of
ends_read [] h = refl
ends_read (t ∷ ts) h = adverb_step t ts h

onto_ended : (prefix : List Element) (o : Option (List Adverb)) (x : Option Alternative) → onto_elements prefix (only_adverbs o) ≡ x → option_map (λ as'. record { elements = prefix; adverbs = as' }) o ≡ x
onto_ended prefix None x e = e
onto_ended prefix (Some as') x e = ap (λ l. Some (record { elements = l; adverbs = as' })) (sym (append-nil prefix)) ∙ e

pub ended : (ts : List Spelled) (i : ℕ) (prefix : List Element) (o : Option (List Adverb)) (W : Option Alternative) → ends_elements (drop i ts) ≡ true → o ≡ adverbs_of (drop i ts) → onto_elements prefix (alternative_of (drop i ts) None) ≡ W → option_map (λ as'. record { elements = prefix; adverbs = as' }) o ≡ W
ended ts i prefix o W ends e w = onto_ended prefix o W (ap (λ x. onto_elements prefix (only_adverbs x)) e ∙ ap (onto_elements prefix) (sym (ends_read (drop i ts) ends)) ∙ w)

-- BETWEEN MARKS

one_more : (n : ℕ) (t : Spelled) (ts : List Spelled) → take (1 + n) (t ∷ ts) ≡ t ∷ take n ts
one_more n t ts = ap (λ k. take k (t ∷ ts)) (let e : 1 + n ≡ suc n = omega arith in e)

mark_at : (m : List ℕ) (t : Spelled) (ts : List Spelled) → is_mark m t ≡ true → between m (t ∷ ts) ≡ take (prefix_len (is_unlike m) (t ∷ ts)) (t ∷ ts) ∷ between m (drop (suc (prefix_len (is_unlike m) (t ∷ ts))) (t ∷ ts))
mark_at m t ts e =
    let none : prefix_len (is_unlike m) (t ∷ ts) ≡ 0 = ap (λ b. cond (not b) (1 + prefix_len (is_unlike m) ts) 0) e in
    mark_step m t ts e ∙ ap (λ n. take n (t ∷ ts) ∷ between m (drop (suc n) (t ∷ ts))) (sym none)

one_unlike : (m : List ℕ) (t : Spelled) (ts : List Spelled) → is_mark m t ≡ false → prefix_len (is_unlike m) (t ∷ ts) ≡ suc (prefix_len (is_unlike m) ts)
one_unlike m t ts e = ap (λ b. cond (not b) (1 + prefix_len (is_unlike m) ts) 0) e ∙ (let g : 1 + prefix_len (is_unlike m) ts ≡ suc (prefix_len (is_unlike m) ts) = omega arith in g)

other_at : (m : List ℕ) (t : Spelled) (ts : List Spelled) → is_mark m t ≡ false → between m ts ≡ take (prefix_len (is_unlike m) ts) ts ∷ between m (drop (suc (prefix_len (is_unlike m) ts)) ts) → between m (t ∷ ts) ≡ take (prefix_len (is_unlike m) (t ∷ ts)) (t ∷ ts) ∷ between m (drop (suc (prefix_len (is_unlike m) (t ∷ ts))) (t ∷ ts))
other_at m t ts e rest = other_step m t ts e ∙ ap (onto_first t) rest ∙ ap (λ n. take n (t ∷ ts) ∷ between m (drop (suc n) (t ∷ ts))) (sym (one_unlike m t ts e))

fewer : (m : List ℕ) (t : Spelled) (ts : List Spelled) → is_mark m t ≡ false → prefix_len (is_unlike m) (t ∷ ts) < suc (length ts) → prefix_len (is_unlike m) ts < length ts
fewer m t ts e h = omega (arith, one_unlike m t ts e)

between_at : (m : List ℕ) (xs : List Spelled) → prefix_len (is_unlike m) xs < length xs → between m xs ≡ take (prefix_len (is_unlike m) xs) xs ∷ between m (drop (suc (prefix_len (is_unlike m) xs)) xs)
between_at m [] h = absurd (omega arith)
between_at m (t ∷ ts) h = by_mark (is_mark m t) refl h (λ k. between_at m ts k)
  where
    by_mark : (b : Bool) → is_mark m t ≡ b → prefix_len (is_unlike m) (t ∷ ts) < suc (length ts) → (prefix_len (is_unlike m) ts < length ts → between m ts ≡ take (prefix_len (is_unlike m) ts) ts ∷ between m (drop (suc (prefix_len (is_unlike m) ts)) ts)) → between m (t ∷ ts) ≡ take (prefix_len (is_unlike m) (t ∷ ts)) (t ∷ ts) ∷ between m (drop (suc (prefix_len (is_unlike m) (t ∷ ts))) (t ∷ ts))
    by_mark true e g rest = mark_at m t ts e
    by_mark false e g rest = other_at m t ts e (rest (fewer m t ts e g))

all_unlike : (m : List ℕ) (xs : List Spelled) → length xs ≤ prefix_len (is_unlike m) xs → list_all (is_unlike m) xs ≡ true
all_unlike m [] h = refl
all_unlike m (t ∷ ts) h = by_mark (is_mark m t) refl h (λ k. all_unlike m ts k)
  where
    by_mark : (b : Bool) → is_mark m t ≡ b → suc (length ts) ≤ prefix_len (is_unlike m) (t ∷ ts) → (length ts ≤ prefix_len (is_unlike m) ts → list_all (is_unlike m) ts ≡ true) → (not (is_mark m t) && list_all (is_unlike m) ts) ≡ true
    by_mark true e g rest = absurd (let none : prefix_len (is_unlike m) (t ∷ ts) ≡ 0 = ap (λ b. cond (not b) (1 + prefix_len (is_unlike m) ts) 0) e in omega arith)
    by_mark false e g rest = both_true (ap not e) (rest (omega (arith, one_unlike m t ts e)))

onto_read : {A : Type 0} (prefix : List A) (x : A) (o : Option (List A)) → option_map (λ r. (prefix ++ x ∷ []) ++ r) o ≡ option_map (λ r. prefix ++ r) (both_some (Some x) o)
onto_read prefix x None = refl
onto_read prefix x (Some r) = ap Some (append_assoc prefix (x ∷ []) r)

-- what stands between two places, the second of which is the next mark or the end
part_is : (m : List ℕ) (ts : List Spelled) (at to : ℕ) → to ≡ at + prefix_len (is_unlike m) (drop at ts) → drop at (take to ts) ≡ take (prefix_len (is_unlike m) (drop at ts)) (drop at ts)
part_is m ts at to e = ap (λ n. drop at (take n ts)) e ∙ drop-take at (prefix_len (is_unlike m) (drop at ts)) ts

pub split_next : {A : Type 0} (m : List ℕ) (read : List Spelled → Option A) (ts : List Spelled) (at to : ℕ) (x : A) (prefix new : List A) (W : Option (List A)) → at ≤ length ts → to ≡ at + prefix_len (is_unlike m) (drop at ts) → to < length ts → Some x ≡ read (drop at (take to ts)) → new ≡ prefix ++ x ∷ []
    → option_map (λ r. prefix ++ r) (all_read read (between m (drop at ts))) ≡ W → option_map (λ r. new ++ r) (all_read read (between m (drop (to + 1) ts))) ≡ W
split_next m read ts at to x prefix new W h e l is made w =
    let xs = drop at ts in
    let n = prefix_len (is_unlike m) xs in
    let inside : n < length xs = omega (arith, length-drop at ts) in
    let rest : drop (to + 1) ts ≡ drop (suc n) xs = ap (λ k. drop k ts) (let g : to + 1 ≡ at + suc n = omega arith in g) ∙ drop_more (suc n) at ts in
    ap (λ l. option_map (λ r. l ++ r) (all_read read (between m (drop (to + 1) ts)))) made
    ∙ ap (λ l. option_map (λ r. (prefix ++ x ∷ []) ++ r) (all_read read (between m l))) rest
    ∙ onto_read prefix x (all_read read (between m (drop (suc n) xs)))
    ∙ ap (λ o. option_map (λ r. prefix ++ r) (both_some o (all_read read (between m (drop (suc n) xs))))) (is ∙ ap read (part_is m ts at to e))
    ∙ ap (λ l. option_map (λ r. prefix ++ r) (all_read read l)) (sym (between_at m xs inside)) ∙ w

pub split_last : {A : Type 0} (m : List ℕ) (read : List Spelled → Option A) (ts : List Spelled) (at to : ℕ) (x : A) (prefix new : List A) (W : Option (List A)) → at ≤ length ts → to ≡ at + prefix_len (is_unlike m) (drop at ts) → to ≡ length ts → Some x ≡ read (drop at (take to ts)) → new ≡ prefix ++ x ∷ []
    → option_map (λ r. prefix ++ r) (all_read read (between m (drop at ts))) ≡ W → Some new ≡ W
split_last m read ts at to x prefix new W h e l is made w =
    let xs = drop at ts in
    let quiet = all_unlike m xs (omega (arith, length-drop at ts)) in
    let whole : drop at (take to ts) ≡ xs = ap (λ k. drop at (take k ts)) l ∙ ap (drop at) (take-length ts) in
    ap Some made
    ∙ ap (λ o. option_map (λ r. prefix ++ r) (both_some o (Some []))) (is ∙ ap read whole)
    ∙ ap (λ l. option_map (λ r. prefix ++ r) (all_read read l)) (sym (between_last m xs quiet)) ∙ w

pub split_none : {A : Type 0} (m : List ℕ) (read : List Spelled → Option A) (ts : List Spelled) (at to : ℕ) (prefix : List A) (W : Option (List A)) → at ≤ length ts → to ≡ at + prefix_len (is_unlike m) (drop at ts) → to ≤ length ts → None ≡ read (drop at (take to ts))
    → option_map (λ r. prefix ++ r) (all_read read (between m (drop at ts))) ≡ W → None ≡ W
split_none m read ts at to prefix W h e l is w = by_end (nat_lt to (length ts)) refl
  where
    by_end : (b : Bool) → nat_lt to (length ts) ≡ b → None ≡ W
    by_end true f =
        let inside : prefix_len (is_unlike m) (drop at ts) < length (drop at ts) = omega (arith, length-drop at ts, ltb-true to (length ts) f) in
        ap (λ o. option_map (λ r. prefix ++ r) (both_some o (all_read read (between m (drop (suc (prefix_len (is_unlike m) (drop at ts))) (drop at ts)))))) (is ∙ ap read (part_is m ts at to e))
        ∙ ap (λ l. option_map (λ r. prefix ++ r) (all_read read l)) (sym (between_at m (drop at ts) inside)) ∙ w
    by_end false f =
        let same : to ≡ length ts = omega (arith, ltb-false to (length ts) f) in
        let quiet = all_unlike m (drop at ts) (omega (arith, length-drop at ts)) in
        let whole : drop at (take to ts) ≡ drop at ts = ap (λ k. drop at (take k ts)) same ∙ ap (drop at) (take-length ts) in
        ap (λ o. option_map (λ r. prefix ++ r) (both_some o (Some []))) (is ∙ ap read whole)
        ∙ ap (λ l. option_map (λ r. prefix ++ r) (all_read read l)) (sym (between_last m (drop at ts) quiet)) ∙ w

pub begins_ends : (ts : List Spelled) (i : ℕ) → i < length ts → begins_adverb (drop i ts) ≡ ends_elements (drop i ts)
begins_ends ts i h = some_begins (drop i ts) (omega (arith, length-drop i ts))
  where
    some_begins : (xs : List Spelled) → 0 < length xs → begins_adverb xs ≡ ends_elements xs
    some_begins [] h = absurd (omega arith)
    some_begins (t ∷ xs) h = refl

pub nothing_before : {A : Type 0} (o : Option (List A)) → option_map (λ r. [] ++ r) o ≡ o
nothing_before None = refl
nothing_before (Some r) = refl

-- WHAT A CALL GAVE

pub none_given : {V W : Type 0} (f : V → W) (o : Option V) → o ≡ None → None ≡ option_map f o
none_given f o e = ap (option_map f) (sym e)

pub some_given : {V W : Type 0} (f : V → W) (o : Option V) (v : V) → o ≡ Some v → Some (f v) ≡ option_map f o
some_given f o v e = ap (option_map f) (sym e)

pub no_hidden : {V : Type 0} (items : V → List Spelled) (o : Option V) (l k : List Spelled) → o ≡ None → hidden_behind (option_map items o) l ≡ alternative_of l (Some []) → l ≡ k → None ≡ alternative_of k (Some [])
no_hidden items o l k e h same = ap (λ x. hidden_behind x l) (none_given items o e) ∙ h ∙ ap (λ x. alternative_of x (Some [])) same

pub some_hidden : {V : Type 0} (items : V → List Spelled) (o : Option V) (v : V) (l k : List Spelled) → o ≡ Some v → hidden_behind (option_map items o) l ≡ alternative_of l (Some []) → l ≡ k → hidden_behind (Some (items v)) k ≡ alternative_of k (Some [])
some_hidden items o v l k e h same = subst (λ x. hidden_behind (Some (items v)) x ≡ alternative_of x (Some [])) same (ap (λ x. hidden_behind x l) (some_given items o v e) ∙ h)

pub held_within : {V : Type 0} (items : V → List Spelled) (o : Option V) (v : V) (n : ℕ) → o ≡ Some v → IfSome o (λ v. length (items v) < n) → length (items v) < n
held_within items o v n e h = subst (λ o. IfSome o (λ v. length (items v) < n)) e h
