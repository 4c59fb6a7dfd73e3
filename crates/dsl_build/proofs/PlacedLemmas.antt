-- Tokens and texts, each once.
use Rattle.std.proofs.Common.{◌≡◌, ℕ, ◌+◌, ◌<◌, Bool, true, false, cond, List, [], ◌∷◌, ◌++◌, length, take, get_or, Some, sym, ap, ◌∙◌, map, append-nil, append_assoc}
use Rattle.std.specs.Prelude.{flat_map, filter, ◌||◌, ◌&&◌, not, bytes_eq, slice_get}
use Rattle.std.proofs.Math.Bool.{or-false}
use Rattle.std.proofs.lemmas.List.Elements.{filter-append}
use Rattle.finite_sets.proofs.Clauses.{or_moves}
use Rattle.language_model.specs.Tokens.{Spelled}
use Rattle.language_model.specs.Building.{is_one_of, new_tokens}
use Rattle.dsl_faults.specs.declared.uses.Use.{Use}
use Rattle.dsl_faults.specs.Uses.{used_of}
use Rattle.dsl_faults.specs.Texts.{AllNew, with_text}
use Rattle.dsl_build.specs.Lexical.{is_placed, placed_part}
use Rattle.dsl_build.proofs.Differing.{unseen, unseen_kept}
use Rattle.dsl_faults.proofs.Lists.{flat_more, take_get}

abbrev contents : List Spelled → List (List ℕ)
contents ts = map (λ t. t.content) ts

tokens_more : (seen : List (List ℕ)) (ts : List Spelled) (t : Spelled) → new_tokens seen (ts ++ t ∷ []) ≡ new_tokens seen ts ++ cond (is_one_of seen t.content || is_one_of (contents (new_tokens seen ts)) t.content) [] (t ∷ [])
tokens_more seen [] t = ap (λ b. cond b [] (t ∷ [])) (sym (or-false (is_one_of seen t.content)))
tokens_more seen (x ∷ xs) t = go (is_one_of seen x.content) (tokens_more seen xs t) (tokens_more (x.content ∷ seen) xs t)
  where
    go : (b : Bool) → new_tokens seen (xs ++ t ∷ []) ≡ new_tokens seen xs ++ cond (is_one_of seen t.content || is_one_of (contents (new_tokens seen xs)) t.content) [] (t ∷ []) →
        new_tokens (x.content ∷ seen) (xs ++ t ∷ []) ≡ new_tokens (x.content ∷ seen) xs ++ cond (is_one_of (x.content ∷ seen) t.content || is_one_of (contents (new_tokens (x.content ∷ seen) xs)) t.content) [] (t ∷ []) →
        cond b (new_tokens seen (xs ++ t ∷ [])) (x ∷ new_tokens (x.content ∷ seen) (xs ++ t ∷ [])) ≡
        cond b (new_tokens seen xs) (x ∷ new_tokens (x.content ∷ seen) xs) ++ cond (is_one_of seen t.content || is_one_of (contents (cond b (new_tokens seen xs) (x ∷ new_tokens (x.content ∷ seen) xs))) t.content) [] (t ∷ [])
    go true e f = e
    go false e f = ap (λ ys. x ∷ ys) (f ∙ ap (λ b. new_tokens (x.content ∷ seen) xs ++ cond b [] (t ∷ [])) (sym (or_moves (is_one_of seen t.content) (bytes_eq x.content t.content) (is_one_of (contents (new_tokens (x.content ∷ seen) xs)) t.content))))

-- one more use
abbrev pub placed_to : List Use → ℕ → List Spelled
placed_to us i = new_tokens [] (flat_map (λ u. placed_part (used_of u)) (take i us))

pub placed_on : (us : List Use) (i : ℕ) (u : Use) (names : List (List ℕ)) (b : Bool) → i < length us → u ≡ get_or us i u → names ≡ contents (placed_to us i) →
    b ≡ (is_placed (used_of u) && not (is_one_of names u.token.now.content)) → placed_to us (i + 1) ≡ placed_to us i ++ cond b (u.token.now ∷ []) []
placed_on us i u names b lt is e taken =
    ap (new_tokens []) (flat_more (λ (x : Use). placed_part (used_of x)) us i u lt is) ∙ go (is_placed (used_of u)) (is_one_of names u.token.now.content) (ap (λ ns. is_one_of ns u.token.now.content) e)
    ∙ ap (λ c. placed_to us i ++ cond c (u.token.now ∷ []) []) (sym taken)
  where
    go : (p h : Bool) → h ≡ is_one_of (contents (placed_to us i)) u.token.now.content →
        new_tokens [] (flat_map (λ x. placed_part (used_of x)) (take i us) ++ cond p (u.token.now ∷ []) []) ≡ placed_to us i ++ cond (p && not h) (u.token.now ∷ []) []
    go true true e = tokens_more [] (flat_map (λ (x : Use). placed_part (used_of x)) (take i us)) u.token.now ∙ ap (λ c. placed_to us i ++ cond c [] (u.token.now ∷ [])) (sym e)
    go true false e = tokens_more [] (flat_map (λ (x : Use). placed_part (used_of x)) (take i us)) u.token.now ∙ ap (λ c. placed_to us i ++ cond c [] (u.token.now ∷ [])) (sym e)
    go false h e = ap (new_tokens []) (append-nil (flat_map (λ (x : Use). placed_part (used_of x)) (take i us))) ∙ sym (append-nil (placed_to us i))

pub filter_more : (p : List ℕ → Bool) (xs : List (List ℕ)) (i : ℕ) (x : List ℕ) → slice_get xs i ≡ Some x → filter p (take (i + 1) xs) ≡ filter p (take i xs) ++ cond (p x) (x ∷ []) []
filter_more p xs i x e = ap (filter p) (take_get xs i x e) ∙ filter-append p (take i xs) (x ∷ [])

-- one more text after the names, unless it is there
one_among : (first ys : List (List ℕ)) (t : List ℕ) → is_one_of ys t ≡ false → is_one_of (first ++ ys) t ≡ is_one_of first t
one_among [] ys t e = e
one_among (x ∷ xs) ys t e = ap (λ b. bytes_eq x t || b) (one_among xs ys t e)

joined_with : (first ys : List (List ℕ)) (t : List ℕ) → is_one_of ys t ≡ false → with_text (first ++ ys) t ≡ first ++ (ys ++ cond (not (is_one_of first t)) (t ∷ []) [])
joined_with first ys t e = ap (λ b. cond b (first ++ ys) ((first ++ ys) ++ t ∷ [])) (one_among first ys t e) ∙ go (is_one_of first t)
  where
    go : (b : Bool) → cond b (first ++ ys) ((first ++ ys) ++ t ∷ []) ≡ first ++ (ys ++ cond (not b) (t ∷ []) [])
    go true = ap (λ zs. first ++ zs) (sym (append-nil ys))
    go false = append_assoc first ys (t ∷ [])

pub others_on : (first texts names : List (List ℕ)) (i : ℕ) (t : List ℕ) → AllNew [] texts → slice_get texts i ≡ Some t → names ≡ first ++ filter (λ u. not (is_one_of first u)) (take i texts) →
    with_text names t ≡ first ++ filter (λ u. not (is_one_of first u)) (take (i + 1) texts)
others_on first texts names i t new at is =
    let p = λ (u : List ℕ). not (is_one_of first u) in
    ap (λ ns. with_text ns t) is ∙ joined_with first (filter p (take i texts)) t (unseen_kept p (take i texts) t (unseen [] texts i t new at)) ∙ ap (λ ns. first ++ ns) (sym (filter_more p texts i t at))
