-- Names that stand between commas, one after another.
use Rattle.std.proofs.Common.{◌≡◌, ◌∙◌, ℕ, ◌+◌, ◌<◌, ◌≤◌, Bool, true, false, not, ◌&&◌, ◌||◌, refl, sym, ap, ap₂, subst, List, [], ◌∷◌, ◌++◌, take, length, length-append, Option, Some, None, bytes_eq, true≢false, nat_le, nat_lt, leb-true, append_assoc, append-nil, arith, Bor, eqb}
use Rattle.std.specs.Prelude.{slice_set, ◌==◌}
use Rattle.std.specs.List.{list_all, slice_split}
use Rattle.std.specs.Iterator.{AlwaysYields}
use Rattle.std.specs.Str.Iter.{split_steps}
use Rattle.std.specs.Str.Pattern.{FindsChar}
use Rattle.std.specs.declared.str.Split.{Split}
use Rattle.std.proofs.lemmas.List.{take_more_set, length-set, length-map, length-take-le, map-append}
use Rattle.std.proofs.lemmas.List.Folds.{list_all-append, list_any-append}
use Rattle.std.proofs.lemmas.Bool.Decides.{nat_tests}
use Rattle.language_model.specs.Building.{is_one_of}
use Rattle.words_model.specs.Words.{are_different, are_names, names_between}
use Rattle.words_model.proofs.Settings.{same_test}
use Rattle.command_line.specs.Jobs.{names_of}

-- ---- the pieces that are left

abbrev pub Cuts : Split ℕ → Option (Bor (List ℕ)) → Split ℕ → Type 0
Cuts = split_steps FindsChar (λ a b. b ≡ a)

abbrev pub Yields : Split ℕ → List (List ℕ) → Type 0
Yields s left = AlwaysYields Cuts (λ (x : Bor (List ℕ)). x.now) s left

pub record IsTurn (t : Split ℕ) (piece : List ℕ) (left : List (List ℕ)) : Type 0 where
  pub rest : List (List ℕ)
  pub is : left ≡ piece ∷ rest
  pub yields : Yields t rest

pub turned : (s t : Split ℕ) (r : Option (Bor (List ℕ))) (x : Bor (List ℕ)) (left : List (List ℕ)) → Yields s left → Cuts s r t → r ≡ Some x → IsTurn t x.now left
turned s t r x [] y k e = absurd (y x t (subst (λ o. Cuts s o t) e k))
turned s t r x (p ∷ rest) y k e =
    let h = y.1 x t (subst (λ o. Cuts s o t) e k) in
    record { rest = rest; is = ap (λ q. q ∷ rest) (sym h.0); yields = h.1 }

pub ended : (s t : Split ℕ) (r : Option (Bor (List ℕ))) (left : List (List ℕ)) → Yields s left → Cuts s r t → r ≡ None → left ≡ []
ended s t r [] y k e = refl
ended s t r (p ∷ rest) y k e = absurd (y.0 t (subst (λ o. Cuts s o t) e k))

-- ---- different names

-- a new one is different from all before
pub one_more : (names : List (List ℕ)) (name : List ℕ) → are_different names ≡ true → is_one_of names name ≡ false → are_different (names ++ name ∷ []) ≡ true
one_more [] name e none = refl
one_more (n ∷ ns) name e none = go (bytes_eq n name) refl (is_one_of ns name) refl (is_one_of ns n) refl (one_more ns name)
  where
    go : (b : Bool) → bytes_eq n name ≡ b → (d : Bool) → is_one_of ns name ≡ d → (f : Bool) → is_one_of ns n ≡ f
        → (are_different ns ≡ true → is_one_of ns name ≡ false → are_different (ns ++ name ∷ []) ≡ true) → are_different ((n ∷ ns) ++ name ∷ []) ≡ true
    go true i d j f k more = absurd (true≢false (rw i at none))
    go false i true j f k more = absurd (true≢false (rw (i, j) at none))
    go false i false j true k more = absurd (true≢false (sym (rw k at e)))
    go false i false j false k more =
        let apart : is_one_of (ns ++ name ∷ []) n ≡ false =
        list_any-append (λ u. bytes_eq u n) ns (name ∷ []) ∙ ap₂ (λ x y. x || (y || false)) k (same_test name n ∙ i) in
        rw (apart, more (rw k at e) j) refl

-- one that stands before is not
pub once_more : (names : List (List ℕ)) (name : List ℕ) (others : List (List ℕ)) → is_one_of names name ≡ true → are_different (names ++ name ∷ others) ≡ false
once_more [] name others e = absurd (true≢false (sym e))
once_more (n ∷ ns) name others e = go (bytes_eq n name) refl (once_more ns name others)
  where
    last : (b d : Bool) → (b || (true || d)) ≡ true
    last true d = refl
    last false d = refl

    both : (b : Bool) → (b && false) ≡ false
    both true = refl
    both false = refl

    go : (b : Bool) → bytes_eq n name ≡ b → (is_one_of ns name ≡ true → are_different (ns ++ name ∷ others) ≡ false) → are_different ((n ∷ ns) ++ name ∷ others) ≡ false
    go true i more =
        let here : is_one_of (ns ++ name ∷ others) n ≡ true =
        list_any-append (λ u. bytes_eq u n) ns (name ∷ others) ∙ (ap (λ b. is_one_of ns n || (b || is_one_of others n)) (same_test name n ∙ i) ∙ last (is_one_of ns n) (is_one_of others n)) in
        rw here refl
    go false i more = ap (λ b. not (is_one_of (ns ++ name ∷ others) n) && b) (more (rw i at e)) ∙ both (not (is_one_of (ns ++ name ∷ others) n))

-- ---- the names so far

abbrev is_some_text : List ℕ → Bool
is_some_text name = nat_lt 0 (length name)

pub record AreTried (text : List ℕ) (names : List (Bor (List ℕ))) (count : ℕ) (left : List (List ℕ)) : Type 0 where
  pub room : length names ≡ 8
  pub few : count ≤ 8
  pub is : names_between text ≡ names_of (take count names) ++ left
  pub some : list_all is_some_text (names_of (take count names)) ≡ true
  pub once : are_different (names_of (take count names)) ≡ true

pub none_tried : (text : List ℕ) (names : List (Bor (List ℕ))) → length names ≡ 8 → AreTried text names 0 (slice_split (λ b. eqb b 44) text)
none_tried text names room = record { room = room; few = omega arith; is = refl; some = refl; once = refl }

count_is : (text : List ℕ) (names : List (Bor (List ℕ))) (count : ℕ) (left : List (List ℕ)) → AreTried text names count left → length (names_of (take count names)) ≡ count
count_is text names count left t =
    let within : count ≤ length names = omega (arith, t.few, t.room) in
    length-map (take count names) (λ (n : Bor (List ℕ)). n.now) ∙ length-take-le count names within

-- the name that comes next is tried, too
pub one_tried : (text : List ℕ) (names : List (Bor (List ℕ))) (count : ℕ) (name : Bor (List ℕ)) (left rest : List (List ℕ)) → AreTried text names count left → left ≡ name.now ∷ rest
    → (count ≡ 8 → ⊥) → (length name.now == 0) ≡ false → is_one_of (names_of (take count names)) name.now ≡ false → AreTried text (slice_set names count name) (count + 1) rest
one_tried text names count name left rest t e room some new =
    let within : count < length names = omega (arith, t.few, t.room, room) in
    let more : names_of (take (count + 1) (slice_set names count name)) ≡ names_of (take count names) ++ name.now ∷ [] =
    ap names_of (take_more_set names count name within) ∙ map-append (λ (n : Bor (List ℕ)). n.now) (take count names) (name ∷ []) in
    let one : is_some_text name.now ≡ true = grind (arith, nat_tests) in
    record {
      room = length-set names count name ∙ t.room;
      few = omega (arith, t.few, room);
      is = t.is ∙ ap (λ l. names_of (take count names) ++ l) e ∙ append_assoc' (names_of (take count names)) name.now rest ∙ ap (λ l. l ++ rest) (sym more);
      some = ap (list_all is_some_text) more ∙ list_all-append is_some_text (names_of (take count names)) (name.now ∷ []) ∙ ap₂ (λ x y. x && (y && true)) t.some one;
      once = ap are_different more ∙ one_more (names_of (take count names)) name.now t.once new;
    }
  where
    append_assoc' : (xs : List (List ℕ)) (x : List ℕ) (ys : List (List ℕ)) → xs ++ x ∷ ys ≡ (xs ++ x ∷ []) ++ ys
    append_assoc' xs x ys = sym (append_assoc xs (x ∷ []) ys)

judged : (few some once : Bool) → (few ≡ true → some ≡ true → once ≡ true → ⊥) → false ≡ (few && some && once)
judged true true true wrong = absurd (wrong refl refl refl)
judged true true false wrong = refl
judged true false once wrong = refl
judged false some once wrong = refl

-- a name too many, an empty one, or one that stands before
pub wrong_name : (text : List ℕ) (names : List (Bor (List ℕ))) (count : ℕ) (name : List ℕ) (left rest : List (List ℕ)) → AreTried text names count left → left ≡ name ∷ rest
    → (nat_le (length (names_between text)) 8 ≡ true → list_all is_some_text (names_between text) ≡ true → are_different (names_between text) ≡ true → ⊥)
    → false ≡ are_names (names_between text)
wrong_name text names count name left rest t e wrong =
    judged (nat_le (length (names_between text)) 8) (list_all is_some_text (names_between text)) (are_different (names_between text)) wrong

pub too_many : (text : List ℕ) (names : List (Bor (List ℕ))) (count : ℕ) (name : List ℕ) (left rest : List (List ℕ)) → AreTried text names count left → left ≡ name ∷ rest
    → count ≡ 8 → nat_le (length (names_between text)) 8 ≡ true → ⊥
too_many text names count name left rest t e full within =
    let all : length (names_between text) ≡ length (names_of (take count names)) + length left = ap (λ (l : List (List ℕ)). length l) t.is ∙ length-append (names_of (take count names)) left in
    let one : length left ≡ length (name ∷ rest) = ap (λ (l : List (List ℕ)). length l) e in
    let same : length (name ∷ rest) ≡ 1 + length rest = omega arith in
    omega (arith, leb-true (length (names_between text)) 8 within, all, one, same, full, count_is text names count left t)

pub too_short : (text : List ℕ) (names : List (Bor (List ℕ))) (count : ℕ) (name : List ℕ) (left rest : List (List ℕ)) → AreTried text names count left → left ≡ name ∷ rest
    → (length name == 0) ≡ true → list_all is_some_text (names_between text) ≡ true → ⊥
too_short text names count name left rest t e empty all =
    let none : is_some_text name ≡ false = grind (arith, nat_tests) in
    let parted : list_all is_some_text (names_between text) ≡ (list_all is_some_text (names_of (take count names)) && (is_some_text name && list_all is_some_text rest)) =
    ap (list_all is_some_text) (t.is ∙ ap (λ l. names_of (take count names) ++ l) e) ∙ list_all-append is_some_text (names_of (take count names)) (name ∷ rest) in
    let fails : list_all is_some_text (names_between text) ≡ false = parted ∙ ap₂ (λ x y. x && (y && list_all is_some_text rest)) t.some none in
    true≢false (sym all ∙ fails)

pub stands_twice : (text : List ℕ) (names : List (Bor (List ℕ))) (count : ℕ) (name : List ℕ) (left rest : List (List ℕ)) → AreTried text names count left → left ≡ name ∷ rest
    → is_one_of (names_of (take count names)) name ≡ true → are_different (names_between text) ≡ true → ⊥
stands_twice text names count name left rest t e stands once =
    true≢false (sym once ∙ ap are_different (t.is ∙ ap (λ l. names_of (take count names) ++ l) e) ∙ once_more (names_of (take count names)) name rest stands)

-- all are tried
pub all_tried : (text : List ℕ) (names : List (Bor (List ℕ))) (count : ℕ) (left : List (List ℕ)) → AreTried text names count left → left ≡ [] → true ≡ are_names (names_between text)
all_tried text names count left t e =
    let is : names_between text ≡ names_of (take count names) = t.is ∙ ap (λ l. names_of (take count names) ++ l) e ∙ append-nil (names_of (take count names)) in
    let few : length (names_of (take count names)) ≤ 8 = omega (arith, count_is text names count left t, t.few) in
    let within : nat_le (length (names_of (take count names))) 8 ≡ true = grind (arith, nat_tests) in
    sym (ap are_names is ∙ rw (within, t.some, t.once) refl)
