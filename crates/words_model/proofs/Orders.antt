-- Parts of the words in another order.
use Rattle.std.proofs.Common.{◌≡◌, ◌∙◌, ℕ, Bool, true, false, refl, sym, ap, List, [], ◌∷◌, ◌++◌, Option, Some, None, option_map, option_and_then, codes, bytes_eq, true≢false, nat_eq}
use Rattle.std.specs.Prelude.{if◌then◌else◌}
use Rattle.std.specs.List.{starts_with}
use Rattle.language_model.specs.Building.{is_one_of}
use Rattle.words_model.specs.Words.{Setting, and_then, are_set_once, is_dashed, job_asked, job_given, option_name, option_sets, option_value, set, set_job, stats, value_of, with_value, word_sets, words_set}
use Rattle.words_model.specs.Laws.{has_no_end}
use Rattle.words_model.proofs.Settings.{swapped}

abbrev Settings : Type 0
Settings = Option (List Setting)

-- what stands after the words that `before` reads is read by `after`
abbrev Goes : Settings → (Option (List ℕ) → Settings) → (Option (List ℕ) → Settings) → Type 0
Goes behind before after = (w : Option (List ℕ)) (ts : List Setting) → before w ≡ Some ts → after w ≡ option_map (λ us. ts ++ us) behind

then_goes : (behind : Settings) (t : Setting) (before after : Settings) → ((ts : List Setting) → before ≡ Some ts → after ≡ option_map (λ us. ts ++ us) behind)
    → (ts : List Setting) → and_then t before ≡ Some ts → and_then t after ≡ option_map (λ us. ts ++ us) behind
then_goes behind t None after more ts e = cc
then_goes behind t (Some rs) after more ts e =
    let same : t ∷ rs ≡ ts = cc in
    ap (and_then t) (more rs refl) ∙ joined behind ∙ ap (λ l. option_map (λ us. l ++ us) behind) same
  where
    joined : (o : Settings) → and_then t (option_map (λ us. rs ++ us) o) ≡ option_map (λ us. (t ∷ rs) ++ us) o
    joined None = refl
    joined (Some us) = refl

option_goes : (behind : Settings) (before after : Option (List ℕ) → Settings) → Goes behind before after → (name : List ℕ) (v : Option (List ℕ)) (ts : List Setting)
    → option_sets name v before ≡ Some ts → option_sets name v after ≡ option_map (λ us. ts ++ us) behind
option_goes behind before after goes name (Some v) ts e = go (is_one_of with_value name) e
  where
    go : (b : Bool) → (if b then and_then (set name v) (before None) else None) ≡ Some ts → (if b then and_then (set name v) (after None) else None) ≡ option_map (λ us. ts ++ us) behind
    go true e = then_goes behind (set name v) (before None) (after None) (goes None) ts e
    go false e = cc
option_goes behind before after goes name None ts e = go (is_one_of with_value name) (bytes_eq name stats) e
  where
    go : (b d : Bool) → (if b then before (Some name) else (if d then and_then (set name (codes "true")) (before None) else None)) ≡ Some ts
        → (if b then after (Some name) else (if d then and_then (set name (codes "true")) (after None) else None)) ≡ option_map (λ us. ts ++ us) behind
    go true d e = goes (Some name) ts e
    go false true e = then_goes behind (set name (codes "true")) (before None) (after None) (goes None) ts e
    go false false e = cc

word_goes : (behind : Settings) (before after : Option (List ℕ) → Settings) → Goes behind before after → (word : List ℕ) (ts : List Setting)
    → word_sets word before ≡ Some ts → word_sets word after ≡ option_map (λ us. ts ++ us) behind
word_goes behind before after goes word ts e = go (starts_with nat_eq word (codes "--")) (is_dashed word) e
  where
    go : (b d : Bool) → (if b then option_sets (option_name word) (option_value word) before else (if d then None else and_then (set_job word) (before None))) ≡ Some ts
        → (if b then option_sets (option_name word) (option_value word) after else (if d then None else and_then (set_job word) (after None))) ≡ option_map (λ us. ts ++ us) behind
    go true d e = option_goes behind before after goes (option_name word) (option_value word) ts e
    go false true e = cc
    go false false e = then_goes behind (set_job word) (before None) (after None) (goes None) ts e

behind_all : (prefix back : List (List ℕ)) → has_no_end prefix ≡ true → Goes (words_set back None) (words_set prefix) (words_set (prefix ++ back))
behind_all [] back n None ts e =
    let same : [] ≡ ts = cc in
    all (words_set back None) ∙ ap (λ l. option_map (λ us. l ++ us) (words_set back None)) same
  where
    all : (o : Settings) → o ≡ option_map (λ us. [] ++ us) o
    all None = refl
    all (Some us) = refl
behind_all [] back n (Some name) ts e = cc
behind_all (word ∷ prefix) back n w ts e = go (bytes_eq word (codes "--")) refl (behind_all prefix back) w e
  where
    value_goes : Goes (words_set back None) (words_set prefix) (words_set (prefix ++ back)) → (name : List ℕ) (d : Bool)
        → (if d then None else and_then (set name word) (words_set prefix None)) ≡ Some ts
        → (if d then None else and_then (set name word) (words_set (prefix ++ back) None)) ≡ option_map (λ us. ts ++ us) (words_set back None)
    value_goes goes name true e = cc
    value_goes goes name false e = then_goes (words_set back None) (set name word) (words_set prefix None) (words_set (prefix ++ back) None) (goes None) ts e

    go : (b : Bool) → bytes_eq word (codes "--") ≡ b → (has_no_end prefix ≡ true → Goes (words_set back None) (words_set prefix) (words_set (prefix ++ back)))
        → (w : Option (List ℕ)) → words_set (word ∷ prefix) w ≡ Some ts → words_set ((word ∷ prefix) ++ back) w ≡ option_map (λ us. ts ++ us) (words_set back None)
    go true i more w e = absurd (true≢false (sym (rw i at n)))
    go false i more None e = rw i (word_goes (words_set back None) (words_set prefix) (words_set (prefix ++ back)) (more (rw i at n)) word ts (rw i at e))
    go false i more (Some name) e = value_goes (more (rw i at n)) name (is_dashed word) e

judged : (ts us : List Setting) → (if are_set_once (ts ++ us) then job_given (value_of (ts ++ us)) else None) ≡ (if are_set_once (us ++ ts) then job_given (value_of (us ++ ts)) else None)
judged ts us = go (are_set_once (ts ++ us)) refl (are_set_once (us ++ ts)) refl
  where
    go : (b : Bool) → are_set_once (ts ++ us) ≡ b → (d : Bool) → are_set_once (us ++ ts) ≡ d
        → (if b then job_given (value_of (ts ++ us)) else None) ≡ (if d then job_given (value_of (us ++ ts)) else None)
    go true e true f =
        let each = (swapped ts us e).1 in
        let same : value_of (ts ++ us) ≡ value_of (us ++ ts) = λ i name. each name i in
        ap job_given same
    go true e false f = absurd (true≢false (sym (swapped ts us e).0 ∙ f))
    go false e true f = absurd (true≢false (sym (swapped us ts f).0 ∙ e))
    go false e false f = refl

pub orders : (prefix back : List (List ℕ)) (ts us : List Setting) → has_no_end prefix ≡ true → has_no_end back ≡ true → words_set prefix None ≡ Some ts → words_set back None ≡ Some us
    → job_asked (prefix ++ back) ≡ job_asked (back ++ prefix)
orders prefix back ts us n m e f =
    let one : words_set (prefix ++ back) None ≡ Some (ts ++ us) = behind_all prefix back n None ts e ∙ ap (option_map (λ l. ts ++ l)) f in
    let two : words_set (back ++ prefix) None ≡ Some (us ++ ts) = behind_all back prefix m None us f ∙ ap (option_map (λ l. us ++ l)) e in
    ap (option_and_then (λ l. if are_set_once l then job_given (value_of l) else None)) one ∙ judged ts us
    ∙ sym (ap (option_and_then (λ l. if are_set_once l then job_given (value_of l) else None)) two)
