-- Settings, one after the other.
use Rattle.std.proofs.Common.{◌≡◌, ◌∙◌, ℕ, Bool, cond, true, false, not, ◌&&◌, ◌||◌, refl, sym, ap, ap₂, subst, List, [], ◌∷◌, ◌++◌, Some, option_map, find, bytes_eq, true≢false, append-nil, append_assoc}
use Rattle.std.specs.List.{list_any}
use Rattle.std.proofs.lemmas.Slice.Eq.{bytes_eq-Decides}
use Rattle.words_model.specs.Words.{Setting, are_set_once, value_of}

abbrev pub has_name : List ℕ → List Setting → Bool
has_name name ts = list_any (λ t. bytes_eq t.name name) ts

pub has_name-push : (name : List ℕ) (ts us : List Setting) → has_name name (ts ++ us) ≡ (has_name name ts || has_name name us)
has_name-push name [] us = refl
has_name-push name (t ∷ ts) us = go (bytes_eq t.name name) (has_name-push name ts us)
  where
    go : (b : Bool) → has_name name (ts ++ us) ≡ (has_name name ts || has_name name us) → (b || has_name name (ts ++ us)) ≡ ((b || has_name name ts) || has_name name us)
    go true e = refl
    go false e = e

pub same_test : (a b : List ℕ) → bytes_eq a b ≡ bytes_eq b a
same_test a b = go (bytes_eq a b) (bytes_eq b a) refl refl
  where
    go : (x y : Bool) → bytes_eq a b ≡ x → bytes_eq b a ≡ y → x ≡ y
    go true true e f = refl
    go false false e f = refl
    go true false e f = absurd (true≢false (sym ((bytes_eq-Decides b a).1 (sym ((bytes_eq-Decides a b).0 e))) ∙ f))
    go false true e f = absurd (true≢false (sym ((bytes_eq-Decides a b).1 (sym ((bytes_eq-Decides b a).0 f))) ∙ e))

-- a name that was given is not to be given again
pub given_twice : (ts us : List Setting) (t : Setting) → has_name t.name ts ≡ true → are_set_once (ts ++ t ∷ us) ≡ false
given_twice [] us t e = absurd (true≢false (sym e))
given_twice (s ∷ ss) us t e = go (bytes_eq s.name t.name) refl (given_twice ss us t)
  where
    go : (b : Bool) → bytes_eq s.name t.name ≡ b → (has_name t.name ss ≡ true → are_set_once (ss ++ t ∷ us) ≡ false) → are_set_once ((s ∷ ss) ++ t ∷ us) ≡ false
    go true h next =
        let here : has_name s.name (ss ++ t ∷ us) ≡ true = has_name-push s.name ss (t ∷ us) ∙ (ap (λ b. has_name s.name ss || (b || has_name s.name us)) (same_test t.name s.name ∙ h) ∙ last (has_name s.name ss)) in
        rw here refl
      where
        last : (b : Bool) → (b || true) ≡ true
        last true = refl
        last false = refl
    go false h next = ap (λ b. not (has_name s.name (ss ++ t ∷ us)) && b) (next (rw h at e)) ∙ both (not (has_name s.name (ss ++ t ∷ us)))
      where
        both : (b : Bool) → (b && false) ≡ false
        both true = refl
        both false = refl

-- a new name is
pub given_once : (ts : List Setting) (t : Setting) → are_set_once ts ≡ true → has_name t.name ts ≡ false → are_set_once (ts ++ t ∷ []) ≡ true
given_once [] t h e = refl
given_once (s ∷ ss) t h e = go (bytes_eq s.name t.name) refl (has_name s.name ss) refl (given_once ss t)
  where
    go : (b : Bool) → bytes_eq s.name t.name ≡ b → (d : Bool) → has_name s.name ss ≡ d → (are_set_once ss ≡ true → has_name t.name ss ≡ false → are_set_once (ss ++ t ∷ []) ≡ true)
        → are_set_once ((s ∷ ss) ++ t ∷ []) ≡ true
    go true i d f next = absurd (true≢false (rw i at e))
    go false i true f next = absurd (true≢false (sym (rw f at h)))
    go false i false f next =
        let none : has_name s.name (ss ++ t ∷ []) ≡ false = has_name-push s.name ss (t ∷ []) ∙ ap₂ (λ x y. x || (y || false)) f (same_test t.name s.name ∙ i) in
        rw (none, next (rw f at h) (rw i at e)) refl

-- ---- settings in another order

past_last : (name : List ℕ) (ts : List Setting) (last : Setting) → bytes_eq last.name name ≡ false → value_of (ts ++ last ∷ []) name ≡ value_of ts name
past_last name [] last e = rw e refl
past_last name (t ∷ ts) last e = go (bytes_eq t.name name) (past_last name ts last e)
  where
    go : (b : Bool) → value_of (ts ++ last ∷ []) name ≡ value_of ts name
        → option_map (λ s. s.value) (cond b (Some t) (find (λ s. bytes_eq s.name name) (ts ++ last ∷ []))) ≡ option_map (λ s. s.value) (cond b (Some t) (find (λ s. bytes_eq s.name name) ts))
    go true more = refl
    go false more = more

at_last : (name : List ℕ) (ts : List Setting) (last : Setting) → bytes_eq last.name name ≡ true → has_name name ts ≡ false → value_of (ts ++ last ∷ []) name ≡ Some last.value
at_last name [] last e h = rw e refl
at_last name (t ∷ ts) last e h = go (bytes_eq t.name name) refl (at_last name ts last e)
  where
    go : (b : Bool) → bytes_eq t.name name ≡ b → (has_name name ts ≡ false → value_of (ts ++ last ∷ []) name ≡ Some last.value) → value_of ((t ∷ ts) ++ last ∷ []) name ≡ Some last.value
    go true i more = absurd (true≢false (rw i at h))
    go false i more = rw i (more (rw i at h))

first_is_new : (t : Setting) (ts : List Setting) → are_set_once (t ∷ ts) ≡ true → (has_name t.name ts ≡ false) × (are_set_once ts ≡ true)
first_is_new t ts e = go (has_name t.name ts) refl (are_set_once ts) refl
  where
    go : (b : Bool) → has_name t.name ts ≡ b → (d : Bool) → are_set_once ts ≡ d → (has_name t.name ts ≡ false) × (are_set_once ts ≡ true)
    go true h d i = absurd (true≢false (sym (rw h at e)))
    go false h true i = (h, i)
    go false h false i = absurd (true≢false (sym (rw (h, i) at e)))

moved : (t : Setting) (ts : List Setting) (name : List ℕ) → has_name t.name ts ≡ false → value_of (t ∷ ts) name ≡ value_of (ts ++ t ∷ []) name
moved t ts name h = go (bytes_eq t.name name) refl
  where
    go : (b : Bool) → bytes_eq t.name name ≡ b → value_of (t ∷ ts) name ≡ value_of (ts ++ t ∷ []) name
    go true e = rw e (sym (at_last name ts t e (subst (λ n. has_name n ts ≡ false) ((bytes_eq-Decides t.name name).0 e) h)))
    go false e = rw e (sym (past_last name ts t e))

pub swapped : (ts us : List Setting) → are_set_once (ts ++ us) ≡ true → (are_set_once (us ++ ts) ≡ true) × ((name : List ℕ) → value_of (ts ++ us) name ≡ value_of (us ++ ts) name)
swapped [] us e =
    let same : us ++ [] ≡ us = append-nil us in
    (ap are_set_once same ∙ e, λ name. ap (λ l. value_of l name) (sym same))
swapped (t ∷ ts) us e =
    let new = first_is_new t (ts ++ us) e in
    let once : are_set_once ((ts ++ us) ++ t ∷ []) ≡ true = given_once (ts ++ us) t new.1 new.0 in
    let left : (ts ++ us) ++ t ∷ [] ≡ ts ++ (us ++ t ∷ []) = append_assoc ts us (t ∷ []) in
    let right : (us ++ t ∷ []) ++ ts ≡ us ++ t ∷ ts = append_assoc us (t ∷ []) ts in
    let rest = swapped ts (us ++ t ∷ []) (ap are_set_once (sym left) ∙ once) in (
      ap are_set_once (sym right) ∙ rest.0,
      λ name. moved t (ts ++ us) name new.0 ∙ ap (λ l. value_of l name) left ∙ rest.1 name ∙ ap (λ l. value_of l name) right,
    )
