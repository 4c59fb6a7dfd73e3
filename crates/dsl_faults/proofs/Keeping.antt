-- Texts in a table, each once.
use Rattle.std.proofs.Common.{◌≡◌, ℕ, Bool, true, false, cond, List, [], ◌∷◌, ◌++◌, refl, sym, ap, ◌∙◌, subst, append-nil, ◌<◌, ◌+◌, length, take, get_or}
use Rattle.std.specs.Prelude.{flat_map}
use Rattle.std.specs.Prelude.{◌||◌}
use Rattle.std.specs.List.{list_any}
use Rattle.std.specs.Str.{bytes_eq}
use Rattle.std.proofs.lemmas.Bool.Decides.{same_from_decides}
use Rattle.std.proofs.lemmas.Slice.Eq.{bytes_eq-Decides}
use Rattle.std.proofs.Math.Bool.{or-false}
use Rattle.std.proofs.lemmas.Bool.{true≢false}
use Rattle.finite_sets.proofs.Clauses.{or_moves}
use Rattle.language_model.specs.Building.{is_one_of, new_texts}
use Rattle.dsl_faults.specs.Texts.{with_text}
use Rattle.dsl_faults.specs.declared.uses.Use.{Use}
use Rattle.dsl_faults.specs.declared.uses.Which.{Which}
use Rattle.dsl_faults.specs.Uses.{used_of, is_asked, texts_asked}
use Rattle.dsl_faults.proofs.Lists.{flat_more}

pub bytes_eq_sym : (xs ys : List ℕ) → bytes_eq xs ys ≡ bytes_eq ys xs
bytes_eq_sym xs ys =
    let d = bytes_eq-Decides ys xs in
    same_from_decides _ _ (bytes_eq-Decides xs ys) ((λ (t : bytes_eq ys xs ≡ true). sym (d.0 t)), (λ (e : xs ≡ ys). d.1 (sym e)))

pub is_one_of_any : (t : List ℕ) (names : List (List ℕ)) → is_one_of names t ≡ list_any (bytes_eq t) names
is_one_of_any t [] = refl
is_one_of_any t (n ∷ ns) = let e = is_one_of_any t ns in let s = bytes_eq_sym n t in cc

-- one more text
new_more : (seen xs : List (List ℕ)) (t : List ℕ) → new_texts seen (xs ++ t ∷ []) ≡ new_texts seen xs ++ cond (is_one_of seen t || is_one_of (new_texts seen xs) t) [] (t ∷ [])
new_more seen [] t = ap (λ b. cond b [] (t ∷ [])) (sym (or-false (is_one_of seen t)))
new_more seen (x ∷ xs) t = go (is_one_of seen x) (new_more seen xs t) (new_more (x ∷ seen) xs t)
  where
    go : (b : Bool) → new_texts seen (xs ++ t ∷ []) ≡ new_texts seen xs ++ cond (is_one_of seen t || is_one_of (new_texts seen xs) t) [] (t ∷ []) →
        new_texts (x ∷ seen) (xs ++ t ∷ []) ≡ new_texts (x ∷ seen) xs ++ cond (is_one_of (x ∷ seen) t || is_one_of (new_texts (x ∷ seen) xs) t) [] (t ∷ []) →
        cond b (new_texts seen (xs ++ t ∷ [])) (x ∷ new_texts (x ∷ seen) (xs ++ t ∷ [])) ≡
        cond b (new_texts seen xs) (x ∷ new_texts (x ∷ seen) xs) ++ cond (is_one_of seen t || is_one_of (cond b (new_texts seen xs) (x ∷ new_texts (x ∷ seen) xs)) t) [] (t ∷ [])
    go true e f = e
    go false e f = ap (λ ys. x ∷ ys) (f ∙ ap (λ b. new_texts (x ∷ seen) xs ++ cond b [] (t ∷ [])) (sym (or_moves (is_one_of seen t) (bytes_eq x t) (is_one_of (new_texts (x ∷ seen) xs) t))))

pub added : (xs : List (List ℕ)) (t : List ℕ) → new_texts [] (xs ++ t ∷ []) ≡ with_text (new_texts [] xs) t
added xs t = new_more [] xs t ∙ go (is_one_of (new_texts [] xs) t)
  where
    go : (b : Bool) → new_texts [] xs ++ cond b [] (t ∷ []) ≡ cond b (new_texts [] xs) (new_texts [] xs ++ t ∷ [])
    go true = append-nil (new_texts [] xs)
    go false = refl

among_new : (seen xs : List (List ℕ)) (t : List ℕ) → (is_one_of seen t || is_one_of (new_texts seen xs) t) ≡ (is_one_of seen t || is_one_of xs t)
among_new seen [] t = refl
among_new seen (x ∷ xs) t = go (is_one_of seen x) refl (among_new seen xs t) (among_new (x ∷ seen) xs t)
  where
    known : is_one_of seen x ≡ true → bytes_eq x t ≡ true → is_one_of seen t ≡ true
    known e f = subst (λ y. is_one_of seen y ≡ true) ((bytes_eq-Decides x t).0 f) e

    held : (a b c : Bool) → (b ≡ true → a ≡ true) → (a || c) ≡ (a || (b || c))
    held true b c h = refl
    held false true c h = absurd (true≢false (sym (h refl)))
    held false false c h = refl

    go : (b : Bool) → is_one_of seen x ≡ b → (is_one_of seen t || is_one_of (new_texts seen xs) t) ≡ (is_one_of seen t || is_one_of xs t) →
        (is_one_of (x ∷ seen) t || is_one_of (new_texts (x ∷ seen) xs) t) ≡ (is_one_of (x ∷ seen) t || is_one_of xs t) → (is_one_of seen t || is_one_of (cond b (new_texts seen xs) (x ∷ new_texts (x ∷ seen) xs)) t) ≡ (is_one_of seen t || (bytes_eq x t || is_one_of xs t))
    go true e f g = f ∙ held (is_one_of seen t) (bytes_eq x t) (is_one_of xs t) (known e)
    go false e f g = or_moves (is_one_of seen t) (bytes_eq x t) (is_one_of (new_texts (x ∷ seen) xs) t) ∙ g ∙ sym (or_moves (is_one_of seen t) (bytes_eq x t) (is_one_of xs t))

-- the texts of a list, each once, are the texts of the list
pub among_texts : (xs : List (List ℕ)) (t : List ℕ) → is_one_of (new_texts [] xs) t ≡ is_one_of xs t
among_texts xs t = among_new [] xs t

pub among_more : (names : List (List ℕ)) (t u : List ℕ) → is_one_of (with_text names t) u ≡ (is_one_of names u || bytes_eq t u)
among_more names t u = go (is_one_of names t) refl
  where
    ends : (ns : List (List ℕ)) → is_one_of (ns ++ t ∷ []) u ≡ (is_one_of ns u || bytes_eq t u)
    ends [] = or-false (bytes_eq t u)
    ends (n ∷ ns) = ap (λ b. bytes_eq n u || b) (ends ns) ∙ assoc (bytes_eq n u) (is_one_of ns u) (bytes_eq t u)
      where
        assoc : (a b c : Bool) → (a || (b || c)) ≡ ((a || b) || c)
        assoc true b c = refl
        assoc false b c = refl

    held : (a b : Bool) → (b ≡ true → a ≡ true) → a ≡ (a || b)
    held true b h = refl
    held false true h = absurd (true≢false (sym (h refl)))
    held false false h = refl

    go : (b : Bool) → is_one_of names t ≡ b → is_one_of (cond b names (names ++ t ∷ [])) u ≡ (is_one_of names u || bytes_eq t u)
    go true e = held (is_one_of names u) (bytes_eq t u) (λ (f : bytes_eq t u ≡ true). subst (λ y. is_one_of names y ≡ true) ((bytes_eq-Decides t u).0 f) e)
    go false e = ends names

pub texts_on : (which : Which) (us : List Use) (i : ℕ) (u : Use) (names after : List (List ℕ)) (b : Bool) → i < length us → u ≡ get_or us i u →
    names ≡ new_texts [] (flat_map (λ x. texts_asked which (used_of x)) (take i us)) → b ≡ is_asked which (used_of u) →
    after ≡ cond b (with_text names u.token.now.content) names → after ≡ new_texts [] (flat_map (λ x. texts_asked which (used_of x)) (take (i + 1) us))
texts_on which us i u names after b lt is before asked kept =
    let texts = λ (x : Use). texts_asked which (used_of x) in
    kept ∙ go b asked before ∙ ap (new_texts []) (sym (flat_more texts us i u lt is))
  where
    go : (b : Bool) → b ≡ is_asked which (used_of u) → names ≡ new_texts [] (flat_map (λ x. texts_asked which (used_of x)) (take i us)) →
        cond b (with_text names u.token.now.content) names ≡ new_texts [] (flat_map (λ x. texts_asked which (used_of x)) (take i us) ++ texts_asked which (used_of u))
    go true e f =
        let ts = flat_map (λ (x : Use). texts_asked which (used_of x)) (take i us) in
        ap (λ ns. with_text ns u.token.now.content) f ∙ sym (added ts u.token.now.content) ∙ ap (λ c. new_texts [] (ts ++ cond c (u.token.now.content ∷ []) [])) e
    go false e f =
        let ts = flat_map (λ (x : Use). texts_asked which (used_of x)) (take i us) in
        f ∙ ap (new_texts []) (sym (append-nil ts)) ∙ ap (λ c. new_texts [] (ts ++ cond c (u.token.now.content ∷ []) [])) e
