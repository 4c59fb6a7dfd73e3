-- Facts of each option, and both spellings of one.
use Rattle.std.proofs.Common.{◌≡◌, ◌∙◌, ℕ, Bool, true, false, not, refl, sym, ap, ap₂, subst, List, [], ◌∷◌, ◌++◌, Some, None, codes, bytes_eq, true≢false, ◌+◌, suc, arith}
use Rattle.std.specs.Prelude.{◌==◌, take, drop}
use Rattle.std.proofs.lemmas.Slice.Eq.{bytes_eq-Decides}
use Rattle.std.specs.List.{list_all, list_any, position_or_len, before_first, after_first}
use Rattle.language_model.specs.Building.{is_one_of}
use Rattle.words_model.specs.Words.{and_then, is_dashed, option_sets, option_value, set, with_value, words_set}

-- what holds of all names holds of one of them
pub of_each : (p : List ℕ → Bool) (us : List (List ℕ)) → list_all p us ≡ true → (name : List ℕ) → is_one_of us name ≡ true → p name ≡ true
of_each p [] ps name h = absurd (true≢false (sym h))
of_each p (u ∷ us) ps name h = go (bytes_eq u name) refl (p u) refl (of_each p us)
  where
    go : (b : Bool) → bytes_eq u name ≡ b → (d : Bool) → p u ≡ d → (list_all p us ≡ true → (n : List ℕ) → is_one_of us n ≡ true → p n ≡ true) → p name ≡ true
    go b e false f more = absurd (true≢false (sym (rw f at ps)))
    go true e true f more = subst (λ n. p n ≡ true) ((bytes_eq-Decides u name).0 e) f
    go false e true f more = more (rw f at ps) name (rw e at h)

abbrev is_equals : ℕ → Bool
is_equals c = c == 61

before_all : (cs : List ℕ) → list_any is_equals cs ≡ false → before_first is_equals cs ≡ cs
before_all [] e = refl
before_all (c ∷ cs) e = go (c == 61) refl (before_all cs)
  where
    go : (b : Bool) → (c == 61) ≡ b → (list_any is_equals cs ≡ false → before_first is_equals cs ≡ cs) → before_first is_equals (c ∷ cs) ≡ c ∷ cs
    go true i more = absurd (true≢false (rw i at e))
    go false i more =
        let n = position_or_len is_equals cs in
        let one_more : 1 + n ≡ suc n = omega arith in
        rw i (ap (λ k. take k (c ∷ cs)) one_more ∙ ap (λ l. c ∷ l) (more (rw i at e)))

parted : (cs value : List ℕ) → list_any is_equals cs ≡ false
    → (before_first is_equals (cs ++ 61 ∷ value) ≡ cs) × (list_any is_equals (cs ++ 61 ∷ value) ≡ true) × (after_first is_equals (cs ++ 61 ∷ value) ≡ value)
parted [] value e = (refl, refl, refl)
parted (c ∷ cs) value e = go (c == 61) refl (parted cs value)
  where
    go : (b : Bool) → (c == 61) ≡ b
        → (list_any is_equals cs ≡ false → (before_first is_equals (cs ++ 61 ∷ value) ≡ cs) × (list_any is_equals (cs ++ 61 ∷ value) ≡ true) × (after_first is_equals (cs ++ 61 ∷ value) ≡ value))
        → (before_first is_equals (c ∷ cs ++ 61 ∷ value) ≡ c ∷ cs) × (list_any is_equals (c ∷ cs ++ 61 ∷ value) ≡ true) × (after_first is_equals (c ∷ cs ++ 61 ∷ value) ≡ value)
    go true i more = absurd (true≢false (rw i at e))
    go false i more =
        let rest = more (rw i at e) in
        let n = position_or_len is_equals (cs ++ 61 ∷ value) in
        let one_more : 1 + n ≡ suc n = omega arith in
        let two_more : 1 + n + 1 ≡ suc (n + 1) = omega arith in
        (rw i (ap (λ k. take k (c ∷ cs ++ 61 ∷ value)) one_more ∙ ap (λ l. c ∷ l) rest.0), rw i rest.1, rw i (ap (λ k. drop k (c ∷ cs ++ 61 ∷ value)) two_more ∙ rest.2))

-- a name of an option can be told apart from the end of the options and from its value
abbrev is_name : List ℕ → Bool
is_name [] = false
is_name (c ∷ cs) = not (list_any is_equals (c ∷ cs))

both_spellings : (name value : List ℕ) (words : List (List ℕ)) → is_name name ≡ true → is_one_of with_value name ≡ true → is_dashed value ≡ false
    → words_set ((codes "--" ++ name) ∷ value ∷ words) None ≡ words_set ((codes "--" ++ name ++ 61 ∷ value) ∷ words) None
both_spellings [] value words i h e = absurd (true≢false (sym i))
both_spellings (c ∷ cs) value words i h e = go (list_any is_equals (c ∷ cs)) refl i
  where
    go : (b : Bool) → list_any is_equals (c ∷ cs) ≡ b → not b ≡ true
        → words_set ((codes "--" ++ c ∷ cs) ∷ value ∷ words) None ≡ words_set ((codes "--" ++ c ∷ cs ++ 61 ∷ value) ∷ words) None
    go true f i = absurd (true≢false (sym i))
    go false f i =
        let parts = parted (c ∷ cs) value f in
        let no_value : option_value (codes "--" ++ c ∷ cs) ≡ None = rw f refl in
        let with_one : option_value (codes "--" ++ c ∷ cs ++ 61 ∷ value) ≡ Some value = rw parts.1 (ap (λ v. Some v) parts.2) in
        let waits : option_sets (c ∷ cs) None (words_set (value ∷ words)) ≡ words_set (value ∷ words) (Some (c ∷ cs)) = rw h refl in
        let sets : words_set (value ∷ words) (Some (c ∷ cs)) ≡ and_then (set (c ∷ cs) value) (words_set words None) = rw e refl in
        let at_once : option_sets (c ∷ cs) (Some value) (words_set words) ≡ and_then (set (c ∷ cs) value) (words_set words None) = rw h refl in
        ap₂ (λ n v. option_sets n v (words_set (value ∷ words))) (before_all (c ∷ cs) f) no_value ∙ waits ∙ sets
        ∙ sym (ap₂ (λ n v. option_sets n v (words_set words)) parts.0 with_one ∙ at_once)

pub spellings : (name value : List ℕ) (words : List (List ℕ)) → is_one_of with_value name ≡ true → is_dashed value ≡ false
    → words_set ((codes "--" ++ name) ∷ value ∷ words) None ≡ words_set ((codes "--" ++ name ++ 61 ∷ value) ∷ words) None
spellings name value words h e = both_spellings name value words (of_each is_name with_value refl name h) h e
