-- Texts of which none stands twice.
use Rattle.std.proofs.Common.{◌≡◌, ℕ, zero, suc, Bool, true, false, cond, List, [], ◌∷◌, ◌++◌, Some, refl, sym, ap, ◌∙◌, subst, map, take}
use Rattle.std.specs.Prelude.{filter, not, ◌||◌, bytes_eq, slice_get}
use Rattle.std.proofs.lemmas.Bool.{true≢false, or_parts, or_from}
use Rattle.std.proofs.lemmas.Slice.Eq.{bytes_eq-Decides}
use Rattle.std.specs.List.{AllByRecursion}
use Rattle.language_model.specs.Tokens.{Spelled}
use Rattle.language_model.specs.Description.{Statement}
use Rattle.language_model.specs.Building.{is_one_of, new_texts, new_tokens, symbols_g1, lexemes, discarded, start_texts, texts_l0, named_l0, left_names}
use Rattle.dsl_faults.specs.Texts.{AllNew}

-- none of the texts is one of those seen
abbrev pub Apart : List (List ℕ) → List (List ℕ) → Type 0
Apart seen = AllByRecursion (λ t. is_one_of seen t ≡ false)

pub new_all : (seen xs : List (List ℕ)) → AllNew seen (new_texts seen xs)
new_all seen [] = tt
new_all seen (x ∷ xs) = go (is_one_of seen x) refl (new_all seen xs) (new_all (x ∷ seen) xs)
  where
    go : (b : Bool) → is_one_of seen x ≡ b → AllNew seen (new_texts seen xs) → AllNew (x ∷ seen) (new_texts (x ∷ seen) xs) → AllNew seen (cond b (new_texts seen xs) (x ∷ new_texts (x ∷ seen) xs))
    go true e here behind = here
    go false e here behind = (e, behind)

pub new_tokens_all : (seen : List (List ℕ)) (ts : List Spelled) → AllNew seen (map (λ t. t.content) (new_tokens seen ts))
new_tokens_all seen [] = tt
new_tokens_all seen (t ∷ ts) = go (is_one_of seen t.content) refl (new_tokens_all seen ts) (new_tokens_all (t.content ∷ seen) ts)
  where
    go : (b : Bool) → is_one_of seen t.content ≡ b → AllNew seen (map (λ u. u.content) (new_tokens seen ts)) → AllNew (t.content ∷ seen) (map (λ u. u.content) (new_tokens (t.content ∷ seen) ts)) →
        AllNew seen (map (λ u. u.content) (cond b (new_tokens seen ts) (t ∷ new_tokens (t.content ∷ seen) ts)))
    go true e here behind = here
    go false e here behind = (e, behind)

pub not_seen : (seen names : List (List ℕ)) (i : ℕ) (t : List ℕ) → AllNew seen names → slice_get names i ≡ Some t → is_one_of seen t ≡ false
not_seen seen [] i t new e = cc
not_seen seen (n ∷ ns) zero t new e = let same : n ≡ t = cc in subst (λ x. is_one_of seen x ≡ false) same new.0
not_seen seen (n ∷ ns) (suc i) t new e = (or_parts (bytes_eq n t) (is_one_of seen t) (not_seen (n ∷ seen) ns i t new.1 e)).1

never_again : (seen names : List (List ℕ)) (n t : List ℕ) (j : ℕ) → n ≡ t → AllNew (n ∷ seen) names → slice_get names j ≡ Some t → ⊥
never_again seen names n t j same new e = true≢false (sym ((bytes_eq-Decides n t).1 same) ∙ (or_parts (bytes_eq n t) (is_one_of seen t) (not_seen (n ∷ seen) names j t new e)).0)

pub differ : (seen names : List (List ℕ)) (i j : ℕ) (t : List ℕ) → AllNew seen names → slice_get names i ≡ Some t → slice_get names j ≡ Some t → i ≡ j
differ seen [] i j t new e f = cc
differ seen (n ∷ ns) zero zero t new e f = refl
differ seen (n ∷ ns) zero (suc j) t new e f = let same : n ≡ t = cc in absurd (never_again seen ns n t j same new.1 f)
differ seen (n ∷ ns) (suc i) zero t new e f = let same : n ≡ t = cc in absurd (never_again seen ns n t i same new.1 e)
differ seen (n ∷ ns) (suc i) (suc j) t new e f = ap suc (differ (n ∷ seen) ns i j t new.1 e f)

-- fewer texts that were seen
fewer : (seen less names : List (List ℕ)) → ((t : List ℕ) → is_one_of seen t ≡ false → is_one_of less t ≡ false) → AllNew seen names → AllNew less names
fewer seen less [] h new = tt
fewer seen less (n ∷ ns) h new =
    (h n new.0, fewer (n ∷ seen) (n ∷ less) ns (λ (t : List ℕ) (e : (bytes_eq n t || is_one_of seen t) ≡ false). or_from (bytes_eq n t) (is_one_of less t) (or_parts (bytes_eq n t) (is_one_of seen t) e).0 (h t (or_parts (bytes_eq n t) (is_one_of seen t) e).1)) new.1)

pub filter_new : (p : List ℕ → Bool) (seen names : List (List ℕ)) → AllNew seen names → AllNew seen (filter p names)
filter_new p seen [] new = tt
filter_new p seen (n ∷ ns) new = go (p n) (filter_new p (n ∷ seen) ns new.1)
  where
    go : (b : Bool) → AllNew (n ∷ seen) (filter p ns) → AllNew seen (cond b (n ∷ filter p ns) (filter p ns))
    go true rest = (new.0, rest)
    go false rest = fewer (n ∷ seen) seen (filter p ns) (λ (t : List ℕ) (e : (bytes_eq n t || is_one_of seen t) ≡ false). (or_parts (bytes_eq n t) (is_one_of seen t) e).1) rest

-- more texts that were seen
more : (seen others all names : List (List ℕ)) → ((t : List ℕ) → is_one_of seen t ≡ false → is_one_of others t ≡ false → is_one_of all t ≡ false) → AllNew seen names → Apart others names → AllNew all names
more seen others all [] h new apart = tt
more seen others all (n ∷ ns) h new apart = (
  h n new.0 apart.0,
  more (n ∷ seen) others (n ∷ all) ns
      (λ (t : List ℕ) (e : (bytes_eq n t || is_one_of seen t) ≡ false) (f : is_one_of others t ≡ false). or_from (bytes_eq n t) (is_one_of all t) (or_parts (bytes_eq n t) (is_one_of seen t) e).0 (h t (or_parts (bytes_eq n t) (is_one_of seen t) e).1 f))
      new.1 apart.1,
)

apart_one : (x : List ℕ) (xs ys : List (List ℕ)) → Apart (x ∷ xs) ys → Apart xs ys
apart_one x xs [] a = tt
apart_one x xs (y ∷ ys) a = ((or_parts (bytes_eq x y) (is_one_of xs y) a.0).1, apart_one x xs ys a.1)

apart_both : (x : List ℕ) (xs seen ys : List (List ℕ)) → Apart (x ∷ xs) ys → Apart seen ys → Apart (x ∷ seen) ys
apart_both x xs seen [] a b = tt
apart_both x xs seen (y ∷ ys) a b = (or_from (bytes_eq x y) (is_one_of seen y) (or_parts (bytes_eq x y) (is_one_of xs y) a.0).0 b.0, apart_both x xs seen ys a.1 b.1)

pub append_new : (seen xs ys : List (List ℕ)) → AllNew seen xs → AllNew [] ys → Apart seen ys → Apart xs ys → AllNew seen (xs ++ ys)
append_new seen [] ys new news apart others = more [] seen seen ys (λ (t : List ℕ) (e : false ≡ false) (f : is_one_of seen t ≡ false). f) news apart
append_new seen (x ∷ xs) ys new news apart others = (new.0, append_new (x ∷ seen) xs ys new.1 news (apart_both x xs seen ys others apart) (apart_one x xs ys others))

pub apart_nothing : (ys : List (List ℕ)) → Apart [] ys
apart_nothing [] = tt
apart_nothing (y ∷ ys) = (refl, apart_nothing ys)

pub apart_others : (texts ys : List (List ℕ)) → Apart texts (filter (λ t. not (is_one_of texts t)) ys)
apart_others texts [] = tt
apart_others texts (y ∷ ys) = go (is_one_of texts y) refl (apart_others texts ys)
  where
    go : (b : Bool) → is_one_of texts y ≡ b → Apart texts (filter (λ t. not (is_one_of texts t)) ys) → Apart texts (cond (not b) (y ∷ filter (λ t. not (is_one_of texts t)) ys) (filter (λ t. not (is_one_of texts t)) ys))
    go true e rest = rest
    go false e rest = (e, rest)

-- first texts, and those of others that are none of them
pub joined_new : (first second : List (List ℕ)) → AllNew [] first → AllNew [] second → AllNew [] (first ++ filter (λ t. not (is_one_of first t)) second)
joined_new first second f s =
    let others = filter (λ t. not (is_one_of first t)) second in
    append_new [] first others f (filter_new (λ t. not (is_one_of first t)) [] second s) (apart_nothing others) (apart_others first second)

-- THE TEXTS OF A DESCRIPTION

pub symbols_new : (d : List Statement) → AllNew [] (symbols_g1 d)
symbols_new d = new_all [] _

pub lexemes_new : (d : List Statement) → AllNew [] (lexemes d)
lexemes_new d = filter_new (λ t. not (is_one_of (left_names false d) t)) [] (symbols_g1 d) (symbols_new d)

pub starts_new : (d : List Statement) → AllNew [] (start_texts d)
starts_new d = joined_new (lexemes d) (discarded d) (lexemes_new d) (new_all [] _)

pub named_new : (d : List Statement) → AllNew [] (named_l0 d)
named_new d = joined_new (texts_l0 d) (lexemes d) (new_tokens_all [] _) (lexemes_new d)

-- A TEXT BEHIND OTHERS

pub unseen : (seen xs : List (List ℕ)) (i : ℕ) (t : List ℕ) → AllNew seen xs → slice_get xs i ≡ Some t → is_one_of (take i xs) t ≡ false
unseen seen [] i t new e = cc
unseen seen (x ∷ xs) zero t new e = refl
unseen seen (x ∷ xs) (suc i) t new e = or_from (bytes_eq x t) (is_one_of (take i xs) t) (or_parts (bytes_eq x t) (is_one_of seen t) (not_seen (x ∷ seen) xs i t new.1 e)).0 (unseen (x ∷ seen) xs i t new.1 e)

not_seen_behind : (seen prefix xs : List (List ℕ)) (i : ℕ) (t : List ℕ) → AllNew seen (prefix ++ xs) → slice_get xs i ≡ Some t → is_one_of seen t ≡ false
not_seen_behind seen [] xs i t new e = not_seen seen xs i t new e
not_seen_behind seen (f ∷ fs) xs i t new e = (or_parts (bytes_eq f t) (is_one_of seen t) (not_seen_behind (f ∷ seen) fs xs i t new.1 e)).1

pub unseen_behind : (seen prefix xs : List (List ℕ)) (i : ℕ) (t : List ℕ) → AllNew seen (prefix ++ xs) → slice_get xs i ≡ Some t → is_one_of (prefix ++ take i xs) t ≡ false
unseen_behind seen [] xs i t new e = unseen seen xs i t new e
unseen_behind seen (f ∷ fs) xs i t new e =
    or_from (bytes_eq f t) (is_one_of (fs ++ take i xs) t) (or_parts (bytes_eq f t) (is_one_of seen t) (not_seen_behind (f ∷ seen) fs xs i t new.1 e)).0 (unseen_behind (f ∷ seen) fs xs i t new.1 e)

pub prefix_new : (seen prefix xs : List (List ℕ)) → AllNew seen (prefix ++ xs) → AllNew seen prefix
prefix_new seen [] xs new = tt
prefix_new seen (f ∷ fs) xs new = (new.0, prefix_new (f ∷ seen) fs xs new.1)

pub unseen_kept : (p : List ℕ → Bool) (xs : List (List ℕ)) (t : List ℕ) → is_one_of xs t ≡ false → is_one_of (filter p xs) t ≡ false
unseen_kept p [] t e = refl
unseen_kept p (x ∷ xs) t e = go (p x) (unseen_kept p xs t (or_parts (bytes_eq x t) (is_one_of xs t) e).1)
  where
    go : (b : Bool) → is_one_of (filter p xs) t ≡ false → is_one_of (cond b (x ∷ filter p xs) (filter p xs)) t ≡ false
    go true rest = or_from (bytes_eq x t) (is_one_of (filter p xs) t) (or_parts (bytes_eq x t) (is_one_of xs t) e).0 rest
    go false rest = rest
