-- Reading what stands between marks.
use Rattle.std.proofs.Common.{◌≡◌, ◌∙◌, sym, ap, subst, refl, ℕ, Bool, true, false, List, [], ◌∷◌, ◌++◌, map, Option, Some, None}
use Rattle.std.specs.Prelude.{if◌then◌else◌}
use Rattle.std.specs.List.{list_all}
use Rattle.std.proofs.lemmas.Bool.{and_parts, not-true}
use Rattle.std.specs.Cmp.Derive.{both_true}
use Rattle.language_model.specs.Tokens.{Spelled}
use Rattle.language_model.specs.Description.{is_some, is_mark, onto_first, Printed, mark, joined, PrintedAs, Together}
use Rattle.dsl_reader.specs.Pieces.{is_unlike}
use Rattle.dsl_reader.specs.Forms.{between, both_some, all_read}
use Rattle.dsl_reader.proofs.AdverbLemmas.{mark_is, mark_parts}
use Rattle.dsl_reader.proofs.UnlikeLemmas.{unlike, printed_unlike}

pub other_step : (m : List ℕ) (t : Spelled) (ts : List Spelled) → is_mark m t ≡ false → between m (t ∷ ts) ≡ onto_first t (between m ts)
unfolding between
other_step m t ts e = rw e refl

pub mark_step : (m : List ℕ) (t : Spelled) (ts : List Spelled) → is_mark m t ≡ true → between m (t ∷ ts) ≡ [] ∷ between m ts
unfolding between
mark_step m t ts e = rw e refl

pub between_last : (m : List ℕ) (q : List Spelled) → list_all (is_unlike m) q ≡ true → between m q ≡ q ∷ []
unfolding between
between_last m [] h = refl
between_last m (t ∷ q) h =
    let parts = and_parts (is_unlike m t) (list_all (is_unlike m) q) h in
    other_step m t q (not-true (is_mark m t) parts.0) ∙ ap (onto_first t) (between_last m q parts.1)

pub between_more : (m : List ℕ) (q : List Spelled) (t : Spelled) (r : List Spelled) → list_all (is_unlike m) q ≡ true → is_mark m t ≡ true → between m (q ++ t ∷ r) ≡ q ∷ between m r
between_more m [] t r h e = mark_step m t r e
between_more m (u ∷ q) t r h e =
    let parts = and_parts (is_unlike m u) (list_all (is_unlike m) q) h in
    other_step m u (q ++ t ∷ r) (not-true (is_mark m u) parts.0) ∙ ap (onto_first u) (between_more m q t r parts.1 e)

-- printed lists one after the other are those of two texts
pub record IsParted (ps qs : List Printed) (ts : List Spelled) : Type 0 where
  pub first : List Spelled
  pub second : List Spelled
  pub whole : ts ≡ first ++ second
  pub before : Together PrintedAs ps first
  pub behind : Together PrintedAs qs second

pub parted : (ps qs : List Printed) (ts : List Spelled) → Together PrintedAs (ps ++ qs) ts → IsParted ps qs ts
parted [] qs ts h = record { first = []; second = ts; whole = refl; before = tt; behind = h }
parted (p ∷ ps) qs [] h = absurd h
parted (p ∷ ps) qs (t ∷ ts) h =
    let rest = parted ps qs ts h.1 in
    record { first = t ∷ rest.first; second = rest.second; whole = ap (λ l. t ∷ l) rest.whole; before = (h.0, rest.before); behind = rest.behind }

pub together_append : (ps qs : List Printed) (ts us : List Spelled) → Together PrintedAs ps ts → Together PrintedAs qs us → Together PrintedAs (ps ++ qs) (ts ++ us)
together_append [] qs [] us h k = k
together_append [] qs (t ∷ ts) us h k = absurd h
together_append (p ∷ ps) qs [] us h k = absurd h
together_append (p ∷ ps) qs (t ∷ ts) us h k = (h.0, together_append ps qs ts us h.1 k)

-- what reads one list, its printer, and which values it gives
pub record IsReader {A : Type 0} (read : List Spelled → Option A) (print : A → List Printed) (fine : A → Bool) : Type 0 where
  pub takes : (q : List Spelled) (x : A) → read q ≡ Some x → (fine x ≡ true) × Together PrintedAs (print x) q
  pub again : (x : A) (q : List Spelled) → fine x ≡ true → Together PrintedAs (print x) q → read q ≡ Some x

pub all_again : {A : Type 0} (m : List ℕ) (read : List Spelled → Option A) (print : A → List Printed) (fine : A → Bool) → IsReader read print fine → ((x : A) → fine x ≡ true → list_all (unlike m) (print x) ≡ true)
    → (xs : List A) (ts : List Spelled) → is_some xs ≡ true → list_all fine xs ≡ true → Together PrintedAs (joined (mark m) (map print xs)) ts → all_read read (between m ts) ≡ Some xs
all_again m read print fine reader inner [] ts some ok h = absurd (let e : false ≡ true = some in clash e)
  where
    clash : false ≡ true → ⊥
    clash e = absurd cc
all_again m read print fine reader inner (x ∷ []) ts some ok h =
    let x_fine = (and_parts (fine x) true ok).0 in
    ap (all_read read) (between_last m ts (printed_unlike m (print x) ts (inner x x_fine) h)) ∙ ap (λ o. both_some o (Some [])) (reader.again x ts x_fine h)
all_again m read print fine reader inner (x ∷ y ∷ xs) ts some ok h =
    let parts = and_parts (fine x) (list_all fine (y ∷ xs)) ok in
    let split = parted (print x) (mark m ∷ joined (mark m) (map print (y ∷ xs))) ts h in
    ap (λ l. all_read read (between m l)) split.whole
    ∙ at_mark split.first split.second (printed_unlike m (print x) split.first (inner x parts.0) split.before) (reader.again x split.first parts.0 split.before) split.behind (λ r k. all_again m read print fine reader inner (y ∷ xs) r refl parts.1 k)
  where
    at_mark : (q s : List Spelled) → list_all (is_unlike m) q ≡ true → read q ≡ Some x → Together PrintedAs (mark m ∷ joined (mark m) (map print (y ∷ xs))) s → ((r : List Spelled) → Together PrintedAs (joined (mark m) (map print (y ∷ xs))) r → all_read read (between m r) ≡ Some (y ∷ xs)) → all_read read (between m (q ++ s)) ≡ Some (x ∷ y ∷ xs)
    at_mark q [] quiet e k rest = absurd k
    at_mark q (t ∷ r) quiet e k rest =
        ap (all_read read) (between_more m q t r quiet (mark_is m t.kind t.content t.at k.0.0 k.0.1))
        ∙ ap (λ o. both_some o (all_read read (between m r))) e ∙ ap (both_some (Some x)) (rest r k.1)

-- the lists are those between the marks of the tokens
abbrev pub Between : List ℕ → List (List Spelled) → List Spelled → Type 0
Between m [] ts = ⊥
Between m (p ∷ []) ts = ts ≡ p
Between m (p ∷ q ∷ ps) ts = (t : Spelled) × (r : List Spelled) × (is_mark m t ≡ true) × (ts ≡ p ++ t ∷ r) × Between m (q ∷ ps) r

onto_between : (m : List ℕ) (t : Spelled) (ps : List (List Spelled)) (ts : List Spelled) → Between m ps ts → Between m (onto_first t ps) (t ∷ ts)
onto_between m t [] ts h = absurd h
onto_between m t (p ∷ []) ts h = ap (λ l. t ∷ l) h
onto_between m t (p ∷ q ∷ ps) ts (u, r, e, whole, rest) = (u, r, e, ap (λ l. t ∷ l) whole, rest)

mark_between : (m : List ℕ) (t : Spelled) (ps : List (List Spelled)) (ts : List Spelled) → is_mark m t ≡ true → Between m ps ts → Between m ([] ∷ ps) (t ∷ ts)
mark_between m t [] ts e h = absurd h
mark_between m t (p ∷ ps) ts e h = (t, ts, e, refl, h)

pub is_between : (m : List ℕ) (ts : List Spelled) → Between m (between m ts) ts
unfolding between
is_between m [] = refl
is_between m (t ∷ ts) = by_test (is_mark m t) refl (is_between m ts)
  where
    by_test : (b : Bool) → is_mark m t ≡ b → Between m (between m ts) ts → Between m (if b then [] ∷ between m ts else onto_first t (between m ts)) (t ∷ ts)
    by_test true e h = mark_between m t (between m ts) ts e h
    by_test false e h = onto_between m t (between m ts) ts h

-- what was read, printed with marks between, is the tokens
abbrev pub AllTaken : {A : Type 0} → List ℕ → (A → List Printed) → (A → Bool) → List Spelled → Option (List A) → Type 0
AllTaken m print fine ts None = Unit {0}
AllTaken m print fine ts (Some xs) = (is_some xs ≡ true) × (list_all fine xs ≡ true) × Together PrintedAs (joined (mark m) (map print xs)) ts

last_taken : {A : Type 0} (m : List ℕ) (read : List Spelled → Option A) (print : A → List Printed) (fine : A → Bool) → IsReader read print fine → (p ts : List Spelled) (o : Option A) → ts ≡ p → read p ≡ o → AllTaken m print fine ts (both_some o (Some []))
last_taken m read print fine reader p ts None whole e = tt
last_taken m read print fine reader p ts (Some x) whole e =
    let taken = reader.takes p x e in
    (refl, both_true taken.0 refl, subst (Together PrintedAs (print x)) (sym whole) taken.1)

clash : false ≡ true → ⊥
clash e = absurd cc

more_taken : {A : Type 0} (m : List ℕ) (read : List Spelled → Option A) (print : A → List Printed) (fine : A → Bool) → IsReader read print fine → (p ts : List Spelled) (t : Spelled) (r : List Spelled) (o : Option A) (w : Option (List A))
    → is_mark m t ≡ true → ts ≡ p ++ t ∷ r → read p ≡ o → AllTaken m print fine r w → AllTaken m print fine ts (both_some o w)
more_taken m read print fine reader p ts t r None w is whole e h = tt
more_taken m read print fine reader p ts t r (Some x) None is whole e h = tt
more_taken m read print fine reader p ts t r (Some x) (Some []) is whole e h = absurd (clash h.0)
more_taken m read print fine reader p ts t r (Some x) (Some (y ∷ ys)) is whole e h =
    let taken = reader.takes p x e in
    let here = mark_parts m t.kind t.content t.at is in
    let all = together_append (print x) (mark m ∷ joined (mark m) (map print (y ∷ ys))) p (t ∷ r) taken.1 ((here.0, here.1, tt), h.2) in
    (refl, both_true taken.0 h.1, subst (Together PrintedAs (joined (mark m) (map print (x ∷ y ∷ ys)))) (sym whole) all)

all_taken : {A : Type 0} (m : List ℕ) (read : List Spelled → Option A) (print : A → List Printed) (fine : A → Bool) → IsReader read print fine → (ps : List (List Spelled)) (ts : List Spelled) → Between m ps ts → AllTaken m print fine ts (all_read read ps)
all_taken m read print fine reader [] ts h = absurd h
all_taken m read print fine reader (p ∷ []) ts h = last_taken m read print fine reader p ts (read p) h refl
all_taken m read print fine reader (p ∷ q ∷ ps) ts (t, r, e, whole, rest) = more_taken m read print fine reader p ts t r (read p) (all_read read (q ∷ ps)) e whole refl (all_taken m read print fine reader (q ∷ ps) r rest)

pub all_takes : {A : Type 0} (m : List ℕ) (read : List Spelled → Option A) (print : A → List Printed) (fine : A → Bool) → IsReader read print fine → (ts : List Spelled) (xs : List A) → all_read read (between m ts) ≡ Some xs → (is_some xs ≡ true) × (list_all fine xs ≡ true) × Together PrintedAs (joined (mark m) (map print xs)) ts
all_takes m read print fine reader ts xs e = subst (AllTaken m print fine ts) e (all_taken m read print fine reader (between m ts) ts (is_between m ts))
