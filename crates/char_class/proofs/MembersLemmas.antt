-- What the stored bits and codes say of members.
use Rattle.std.proofs.Common.{◌≡◌, ⊎_elim, ◌↔◌, ℕ, ◌<◌, Bool, true, false, not, ◌&&◌, ◌||◌, ◌==◌, ◌≢◌, ◌+◌, ◌++◌, List, [], ◌∷◌, length, take, get_or, refl, sym, ap, subst, ◌∙◌, arith, eqb-true, eq-eqb, Any, ◌≤◌, ◌*◌, ◌^◌, ◌%◌, bit_or, bit_and, ◌/◌, below_more}
use Rattle.std.specs.Prelude.{suc, ◌⊎◌, MatchResult, Result, Ok, Err, is_ok, IsPermutation, if◌then◌else◌, IsTrue, MatchBool}
use Rattle.std.specs.List.{list_any, list_all}
use Rattle.std.proofs.lemmas.List.Sorted.{list_any-IsPermutation}
use Rattle.std.proofs.lemmas.Bool.{and_parts, or_cases, or_left, or_right, cases_lt}
use Rattle.std.proofs.lemmas.List.Folds.{list_any-append, list_any_more, list_any_at, Any-from_list_any, list_any-from_Any}
use Rattle.std.proofs.Math.Bool.{or-false, and-true, and-false}
use Rattle.std.specs.Cmp.Derive.{both_true}
use Rattle.std.specs.Int.{bit_at, w128}
use Rattle.std.proofs.lemmas.List.Folds.{list_all_at}
use Rattle.std.proofs.lemmas.Nat.Bits.{bit_at_set_same, bit_at_set_other, shr_and_one}
use lib.Utf8.{scalar}
use Rattle.ucd_case.specs.FoldOtherRows.{fold_other_rows}
use Rattle.ucd_case.proofs.FoldPairsLemmas.{IsFoldPairs-fold_pairs}
use Rattle.unicode.specs.CaseFolding.{fold_pairs, simple_fold}
use Rattle.language_model.specs.declared.class.ClassItem.{ClassItem}
use Rattle.language_model.specs.Classes.{Class, Matches, HasMember, some_item_has}
use Rattle.char_class.specs.Members.{bit_of, folded_has, has_code, class_has, HasBits, HasCodes}

-- a pair of the list leads from the code to one that an item has
abbrev pub folded_among : List (ℕ × ℕ) → List ClassItem → ℕ → Bool
folded_among pairs items c = list_any (λ pair. (pair.0 == c) && some_item_has items pair.1) pairs

abbrev pub tested : Bool → List ClassItem → List ℕ → ℕ → Bool
tested negated items folded c = if negated then not (some_item_has items c || has_code folded c) else (some_item_has items c || has_code folded c)

-- each code of the table is a character
pub fold_pairs_scalar : list_all (λ pair. scalar pair.1) fold_pairs ≡ true
unfolding fold_pairs fold_other_rows
fold_pairs_scalar = refl

-- a step of the loop over the pairs
pub among_next : (pairs : List (ℕ × ℕ)) (items : List ClassItem) (folded : List ℕ) (i : ℕ) (c : ℕ) → i < length pairs → has_code folded c ≡ folded_among (take i pairs) items c → (b : Bool) → b ≡ some_item_has items (get_or pairs i (0, 0)).1 → has_code (if b then folded ++ (get_or pairs i (0, 0)).0 ∷ [] else folded) c ≡ folded_among (take (i + 1) pairs) items c
among_next pairs items folded i c within so_far true is =
    list_any-append (λ x. x == c) folded _ ∙ ap (λ b. b || (((get_or pairs i (0, 0)).0 == c) || false)) so_far
    ∙ ap (λ b. folded_among (take i pairs) items c || b) (or-false _ ∙ sym (ap (λ b. ((get_or pairs i (0, 0)).0 == c) && b) (sym is) ∙ and-true _))
    ∙ sym (list_any_more (λ pair. (pair.0 == c) && some_item_has items pair.1) pairs i (0, 0) within)
among_next pairs items folded i c within so_far false is =
    so_far ∙ sym (or-false _) ∙ ap (λ b. folded_among (take i pairs) items c || b) (sym (ap (λ b. ((get_or pairs i (0, 0)).0 == c) && b) (sym is) ∙ and-false _))
    ∙ sym (list_any_more (λ pair. (pair.0 == c) && some_item_has items pair.1) pairs i (0, 0) within)

-- a character, or another with its simple folding
abbrev pub FoldsInto : List ClassItem → ℕ → Type 0
FoldsInto items c = (m : ℕ) × (simple_fold m ≡ simple_fold c) × IsTrue (some_item_has items m)

folds_from : (items : List ClassItem) (c : ℕ) → (some_item_has items c || folded_has items c) ≡ true → FoldsInto items c
folds_from items c h = ⊎_elim (λ here. (c, refl, here)) (λ found. through (Any-from_list_any (λ pair. (pair.0 == c) && some_item_has items pair.1) fold_pairs found)) (or_cases _ _ h)
  where
    through : Any (λ (pair : ℕ × ℕ). ((pair.0 == c) && some_item_has items pair.1) ≡ true) fold_pairs → FoldsInto items c
    through (k, pair, within, is, passes) =
        let parts = and_parts (pair.0 == c) (some_item_has items pair.1) passes in
        (pair.1, sym ((IsFoldPairs-fold_pairs pair.0 pair.1).0 (k, within, is)).1 ∙ ap simple_fold (eqb-true pair.0 c parts.0), parts.1)

folds_to : (items : List ClassItem) (c m : ℕ) → simple_fold m ≡ simple_fold c → some_item_has items m ≡ true → (b : Bool) → (c == m) ≡ b → (some_item_has items c || folded_has items c) ≡ true
folds_to items c m same has true e = or_left _ _ (subst (λ x. some_item_has items x ≡ true) (sym (eqb-true c m e)) has)
folds_to items c m same has false e =
    let other : c ≢ m = λ alike. let both = eq-eqb c m alike in cc in
    let at = (IsFoldPairs-fold_pairs c m).1 (other, sym same) in
    or_right _ _ (list_any-from_Any (λ pair. (pair.0 == c) && some_item_has items pair.1) fold_pairs (at.0, (c, m), at.1, at.2, both_true (eq-eqb c c refl) has))

folds_iff : (items : List ClassItem) (c : ℕ) → ((some_item_has items c || folded_has items c) ≡ true) ↔ FoldsInto items c
folds_iff items c = (folds_from items c, λ w. folds_to items c w.0 w.1 w.2 (c == w.0) refl)

yes_or_no : (negated found : Bool) (M : Type 0) → ((found ≡ true) ↔ M) → ((if negated then not found else found) ≡ true) ↔ MatchBool negated (M → ⊥) M
yes_or_no true true M i = (λ h. absurd cc, λ h. absurd (h (i.0 refl)))
yes_or_no true false M i = (λ h m. let e = i.1 m in cc, λ h. refl)
yes_or_no false found M i = i

found_iff : (caseless : Bool) (items : List ClassItem) (c : ℕ) → ((some_item_has items c || (caseless && folded_has items c)) ≡ true) ↔ MatchBool caseless (FoldsInto items c) (IsTrue (some_item_has items c))
found_iff true items c = folds_iff items c
found_iff false items c = (λ h. sym (or-false _) ∙ h, λ h. or-false _ ∙ h)

-- the test is membership
pub class_has_iff : (k : Class) (c : ℕ) → (class_has k c ≡ true) ↔ HasMember k c
class_has_iff k c = yes_or_no k.negated _ (Matches k c) (found_iff k.caseless k.items c)

-- the stored parts answer the test
pub tested_is : (negated caseless : Bool) (items : List ClassItem) (folded : List ℕ) (c : ℕ) → has_code folded c ≡ (caseless && folded_has items c) → tested negated items folded c ≡ class_has (record { negated = negated; caseless = caseless; items = items }) c
tested_is negated caseless items folded c h = ap (λ b. if negated then not (some_item_has items c || b) else (some_item_has items c || b)) h

pub bit_iff : (n : ℕ) (b : Bool) → n ≡ bit_of b → (n ≡ 1) ↔ (b ≡ true)
bit_iff n true is = (λ h. refl, λ h. is)
bit_iff n false is = (λ h. absurd (omega arith), λ h. absurd cc)

-- an element passes what all pass
passes_at : (p : (ℕ × ℕ) → Bool) (xs : List (ℕ × ℕ)) (i : ℕ) → list_all p xs ≡ true → i < length xs → (b : Bool) → p (get_or xs i (0, 0)) ≡ b → b ≡ true
passes_at p xs i all within true e = refl
passes_at p xs i all within false e = let none = list_all_at p xs i (0, 0) within e in cc

pub pair_scalar : (pairs : List (ℕ × ℕ)) → pairs ≡ fold_pairs → (i : ℕ) → i < length pairs → scalar (get_or pairs i (0, 0)).1 ≡ true
pair_scalar pairs same i within = passes_at (λ pair. scalar pair.1) pairs i (subst (λ l. list_all (λ pair. scalar pair.1) l ≡ true) (sym same) fold_pairs_scalar) within _ refl

-- a step of the loop over the bits
pub bits_next : (p : ℕ → Bool) (bits k : ℕ) → k < 128 → ((c : ℕ) → c < k → bit_at bits c ≡ bit_of (p c)) × ((c : ℕ) → k ≤ c → bit_at bits c ≡ 0) → (b : Bool) → b ≡ p k → (new : ℕ) → new ≡ (if b then bit_or bits (1 * 2 ^ k % 2 ^ 128) else bits) → ((c : ℕ) → c < k + 1 → bit_at new c ≡ bit_of (p c)) × ((c : ℕ) → k + 1 ≤ c → bit_at new c ≡ 0)
bits_next p bits k within so_far true is new new_is = (
  below_more (λ c. bit_at new c ≡ bit_of (p c)) k (λ c lt. ap (λ n. bit_at n c) new_is ∙ bit_at_set_other w128 bits k within c (λ e. absurd (omega arith)) ∙ so_far.0 c lt) (ap (λ n. bit_at n k) new_is ∙ bit_at_set_same w128 bits k within ∙ ap bit_of is),
  λ c ge. ap (λ n. bit_at n c) new_is ∙ bit_at_set_other w128 bits k within c (λ e. absurd (omega arith)) ∙ so_far.1 c (omega arith),
)
bits_next p bits k within so_far false is new new_is = (
  below_more (λ c. bit_at new c ≡ bit_of (p c)) k (λ c lt. ap (λ n. bit_at n c) new_is ∙ so_far.0 c lt) (ap (λ n. bit_at n k) new_is ∙ so_far.1 k (omega arith) ∙ ap bit_of is),
  λ c ge. ap (λ n. bit_at n c) new_is ∙ so_far.1 c (omega arith),
)

-- a bit that is set, and the others
pub bit_set : (bits code : ℕ) → code < 128 → (c : ℕ) → bit_at (bit_or bits (1 * 2 ^ code % 2 ^ 128)) c ≡ (if code == c then 1 else bit_at bits c)
bit_set bits code within c = go (code == c) refl
  where
    go : (b : Bool) → (code == c) ≡ b → bit_at (bit_or bits (1 * 2 ^ code % 2 ^ 128)) c ≡ (if b then 1 else bit_at bits c)
    go true e = subst (λ x. bit_at (bit_or bits (1 * 2 ^ code % 2 ^ 128)) x ≡ 1) (eqb-true code c e) (bit_at_set_same w128 bits code within)
    go false e = bit_at_set_other w128 bits code within c (λ alike. let both = eq-eqb code c (sym alike) in cc)

-- a bit that is set beside those of a test
pub bit_more : (b here : Bool) (new old : ℕ) → old ≡ bit_of b → new ≡ (if here then 1 else old) → new ≡ bit_of (b || here)
bit_more true true new old o n = n
bit_more true false new old o n = n ∙ o
bit_more false true new old o n = n
bit_more false false new old o n = n ∙ o

-- what a stored bit answers
pub bit_answers : (k now : Class) (bits c : ℕ) → HasBits k bits → k ≡ now → c < 128 → ((bit_and (bits / 2 ^ c) 1 == 1) ≡ true) ↔ HasMember now c
bit_answers k now bits c has same below =
    let P : Class → Type 0 = λ n. ((bit_and (bits / 2 ^ c) 1 == 1) ≡ true) ↔ HasMember n c in
    let iff = bit_iff (bit_at bits c) (class_has k c) (has c below) in
    let member = class_has_iff k c in
    subst P same (λ h. member.0 (iff.0 (sym (shr_and_one bits c) ∙ eqb-true _ _ h)), λ m. eq-eqb _ _ (shr_and_one bits c ∙ iff.1 (member.1 m)))

-- what the other parts answer
pub parts_answer : (negated caseless : Bool) (items : List ClassItem) (folded : List ℕ) (now : Class) (c : ℕ) (result : Bool) → HasCodes caseless items folded → (let k : Class = record { negated = negated; caseless = caseless; items = items } in k) ≡ now → result ≡ tested negated items folded c → (result ≡ true) ↔ HasMember now c
parts_answer negated caseless items folded now c result has same is =
    let k : Class = record { negated = negated; caseless = caseless; items = items } in
    let P : Class → Type 0 = λ n. (result ≡ true) ↔ HasMember n c in
    let member = class_has_iff k c in
    let e = is ∙ tested_is negated caseless items folded c (has c) in
    subst P same (λ h. member.0 (sym e ∙ h), λ m. e ∙ member.1 m)

none_there : (codes : List ℕ) (c : ℕ) → ((k : ℕ) → k < length codes → get_or codes k 0 ≡ c → ⊥) → has_code codes c ≡ false
none_there [] c h = refl
none_there (x ∷ xs) c h = go (x == c) refl ∙ none_there xs c (λ k lt e. h (suc k) (omega arith) e)
  where
    go : (b : Bool) → (x == c) ≡ b → (b || has_code xs c) ≡ has_code xs c
    go true e = absurd (h 0 (omega arith) (eqb-true x c e))
    go false e = refl

-- what a search in codes that do not fall answers
pub among_is : (codes : List ℕ) (c : ℕ) (r : Result ℕ ℕ) → MatchResult r (λ i. (i < length codes) × (get_or codes i 0 ≡ c)) (λ i. (i ≤ length codes) × ((k : ℕ) → k < i → get_or codes k 0 < c) × ((k : ℕ) → i ≤ k → k < length codes → c < get_or codes k 0)) → is_ok r ≡ has_code codes c
among_is codes c (Ok i) h = sym (list_any_at (λ x. x == c) codes i 0 h.0 (eq-eqb _ _ h.1))
among_is codes c (Err i) h = sym (none_there codes c either)
  where
    either : (k : ℕ) → k < length codes → get_or codes k 0 ≡ c → ⊥
    either k lt e = ⊎_elim (λ a. (let b = h.1 k a in absurd (omega arith))) (λ a. (let b = h.2 k a lt in absurd (omega arith))) (cases_lt k i)

pub same_codes : (folded sorted : List ℕ) (c : ℕ) → IsPermutation folded sorted → has_code sorted c ≡ has_code folded c
same_codes folded sorted c p = sym (list_any-IsPermutation (λ x. x == c) folded sorted p)
