-- Reading adverbs, and printing them.
use Rattle.std.proofs.Common.{◌≡◌, ◌∙◌, sym, ap, subst, refl, ℕ, Bool, true, false, ◌&&◌, List, [], ◌∷◌, codes, Option, Some, None, bytes_eq, nat_eq, eq-eqb, eqb-true}
use Rattle.std.specs.Prelude.{if◌then◌else◌}
use Rattle.std.specs.List.{list_all}
use Rattle.std.proofs.lemmas.Bool.{and_parts}
use Rattle.std.proofs.Math.Bool.{and-false}
use Rattle.std.specs.Cmp.Derive.{both_true}
use Rattle.language_model.specs.declared.token.TokenKind.{TokenKind}
use Rattle.language_model.specs.declared.token.TokenKind.TheVariants.{Word, Angle, Quote, Bracket, Pseudo, Reserved, Signed, Mark}
use Rattle.language_model.specs.Tokens.{Spelled}
use Rattle.language_model.specs.Description.{Adverb, Comma, Pair, is_adverb, is_adverb_name, is_kind_of_value, is_mark, kept, PrintedAs, Together, tokens_of_adverbs}
use Rattle.dsl_reader.specs.Reading.{adverbs_of, add_adverb, is_pair}

-- a token is its parts
pub same_token : (k l : TokenKind) (c d : List ℕ) (a b : ℕ) → k ≡ l → c ≡ d → a ≡ b → (let t : Spelled = record { kind = k; content = c; at = a } in t) ≡ record { kind = l; content = d; at = b }
same_token k l c d a b e f g = cc

pub kept_is : (u t : Spelled) → PrintedAs (kept u) t → u ≡ t
kept_is u t p = same_token u.kind t.kind u.content t.content u.at t.at p.0 p.1 p.2

-- a printed mark reads as that mark
same_bytes : (xs : List ℕ) → bytes_eq xs xs ≡ true
same_bytes [] = refl
same_bytes (x ∷ xs) = both_true (eq-eqb x x refl) (same_bytes xs)

pub mark_is : (content : List ℕ) (k : TokenKind) (c : List ℕ) (at : ℕ) → Mark ≡ k → content ≡ c → is_mark content (record { kind = k; content = c; at = at }) ≡ true
mark_is content k c at e f =
    let P : TokenKind → Type 0 = λ k. is_mark content (record { kind = k; content = c; at = at }) ≡ true in
    let Q : List ℕ → Type 0 = λ d. bytes_eq d content ≡ true in
    subst P e (subst Q f (same_bytes content))

-- a name of an adverb is no comma
clash : false ≡ true → ⊥
clash e = absurd cc

cc_pair : {A : Type 0} → ⊥ → A
cc_pair h = absurd h

no_comma : (k : TokenKind) (c : List ℕ) (at : ℕ) → is_adverb_name (record { kind = k; content = c; at = at }) ≡ true → is_mark (codes ",") (record { kind = k; content = c; at = at }) ≡ false
no_comma Word c at h = refl
no_comma Mark [] at h = refl
no_comma Mark (x ∷ []) at h = absurd (let never = sym (and-false (nat_eq x 110)) ∙ h in clash never)
no_comma Mark (x ∷ y ∷ ys) at h = and-false (nat_eq x 44)
no_comma Angle c at h = refl
no_comma Quote c at h = refl
no_comma Bracket c at h = refl
no_comma Pseudo c at h = refl
no_comma Reserved c at h = refl
no_comma Signed c at h = refl

pub comma_step : (t : Spelled) (ts : List Spelled) → is_mark (codes ",") t ≡ true → adverbs_of (t ∷ ts) ≡ add_adverb (Comma t.at) (adverbs_of ts)
unfolding adverbs_of
comma_step t [] e = rw e refl
comma_step t (u ∷ []) e = rw e refl
comma_step t (u ∷ v ∷ ts) e = rw e refl

pub pair_step : (t u v : Spelled) (ts : List Spelled) → is_mark (codes ",") t ≡ false → is_pair t u v ≡ true → adverbs_of (t ∷ u ∷ v ∷ ts) ≡ add_adverb (Pair t v) (adverbs_of ts)
unfolding adverbs_of
pair_step t u v ts e f = rw (e, f) refl

pub adverbs_again : (adverbs : List Adverb) (tokens : List Spelled) → list_all is_adverb adverbs ≡ true → Together PrintedAs (tokens_of_adverbs adverbs) tokens → adverbs_of tokens ≡ Some adverbs
unfolding adverbs_of
adverbs_again [] [] ok h = refl
adverbs_again [] (t ∷ ts) ok h = absurd h
adverbs_again (Comma at ∷ adverbs) [] ok h = absurd h
adverbs_again (Comma at ∷ adverbs) (t ∷ ts) ok h =
    comma_step t ts (mark_is (codes ",") t.kind t.content t.at h.0.0 h.0.1)
    ∙ ap (add_adverb (Comma t.at)) (adverbs_again adverbs ts ok h.1) ∙ ap (λ a. Some (Comma a ∷ adverbs)) (sym h.0.2)
adverbs_again (Pair name value ∷ adverbs) [] ok h = absurd h
adverbs_again (Pair name value ∷ adverbs) (t ∷ []) ok h = absurd h.1
adverbs_again (Pair name value ∷ adverbs) (t ∷ u ∷ []) ok h = absurd h.1.1
adverbs_again (Pair name value ∷ adverbs) (t ∷ u ∷ v ∷ ts) ok h =
    let parts = and_parts (is_adverb_name name && is_kind_of_value value.kind) (list_all is_adverb adverbs) ok in
    let both = and_parts (is_adverb_name name) (is_kind_of_value value.kind) parts.0 in
    let name_is = kept_is name t h.0 in
    let value_is = kept_is value v h.1.1.0 in
    let named : is_adverb_name t ≡ true = subst (λ x. is_adverb_name x ≡ true) name_is both.0 in
    let valued : is_kind_of_value v.kind ≡ true = subst (λ (x : Spelled). is_kind_of_value x.kind ≡ true) value_is both.1 in
    let arrow = mark_is (codes "=>") u.kind u.content u.at h.1.0.0 h.1.0.1 in
    pair_step t u v ts (no_comma t.kind t.content t.at named) (both_true (both_true named arrow) valued)
    ∙ ap (add_adverb (Pair t v)) (adverbs_again adverbs ts parts.1 h.1.1.1)
    ∙ ap (λ x. Some (Pair x v ∷ adverbs)) (sym name_is) ∙ ap (λ y. Some (Pair name y ∷ adverbs)) (sym value_is)

-- a token that reads as a mark is that mark
pub same_texts : (xs ys : List ℕ) → bytes_eq xs ys ≡ true → ys ≡ xs
same_texts [] [] h = refl
same_texts [] (y ∷ ys) h = cc
same_texts (x ∷ xs) [] h = cc
same_texts (x ∷ xs) (y ∷ ys) h =
    let head : x ≡ y = eqb-true x y (and_parts (nat_eq x y) (bytes_eq xs ys) h).0 in
    let tail : ys ≡ xs = same_texts xs ys (and_parts (nat_eq x y) (bytes_eq xs ys) h).1 in cc

pub mark_parts : (content : List ℕ) (k : TokenKind) (c : List ℕ) (at : ℕ) → is_mark content (record { kind = k; content = c; at = at }) ≡ true → (Mark ≡ k) × (content ≡ c)
mark_parts content Mark c at h = (refl, same_texts c content h)
mark_parts content Word c at h = cc_pair (clash h)
mark_parts content Angle c at h = cc_pair (clash h)
mark_parts content Quote c at h = cc_pair (clash h)
mark_parts content Bracket c at h = cc_pair (clash h)
mark_parts content Pseudo c at h = cc_pair (clash h)
mark_parts content Reserved c at h = cc_pair (clash h)
mark_parts content Signed c at h = cc_pair (clash h)

-- what was read, printed, is the tokens
abbrev Read : List Spelled → Option (List Adverb) → Type 0
Read tokens None = Unit {0}
Read tokens (Some adverbs) = (list_all is_adverb adverbs ≡ true) × Together PrintedAs (tokens_of_adverbs adverbs) tokens

read_if : (tokens : List Spelled) (b : Bool) (x y : Option (List Adverb)) → (b ≡ true → Read tokens x) → (b ≡ false → Read tokens y) → Read tokens (if b then x else y)
read_if tokens true x y f g = f refl
read_if tokens false x y f g = g refl

read_comma : (t : Spelled) (ts : List Spelled) (r : Option (List Adverb)) → is_mark (codes ",") t ≡ true → Read ts r → Read (t ∷ ts) (add_adverb (Comma t.at) r)
read_comma t ts None e h = tt
read_comma t ts (Some adverbs) e h = let is = mark_parts (codes ",") t.kind t.content t.at e in (h.0, ((is.0, is.1, refl), h.1))

read_pair : (t u v : Spelled) (ts : List Spelled) (r : Option (List Adverb)) → is_pair t u v ≡ true → Read ts r → Read (t ∷ u ∷ v ∷ ts) (add_adverb (Pair t v) r)
read_pair t u v ts None e h = tt
read_pair t u v ts (Some adverbs) e h =
    let outer = and_parts (is_adverb_name t && is_mark (codes "=>") u) (is_kind_of_value v.kind) e in
    let inner = and_parts (is_adverb_name t) (is_mark (codes "=>") u) outer.0 in
    let arrow = mark_parts (codes "=>") u.kind u.content u.at inner.1 in
    (both_true (both_true inner.0 outer.1) h.0, ((refl, refl, refl), ((arrow.0, arrow.1, tt), ((refl, refl, refl), h.1))))

adverbs_read : (tokens : List Spelled) → Read tokens (adverbs_of tokens)
unfolding adverbs_of
adverbs_read [] = (refl, tt)
adverbs_read (t ∷ []) = read_if (t ∷ []) (is_mark (codes ",") t) (Some (Comma t.at ∷ [])) None (λ e. read_comma t [] (Some []) e (refl, tt)) (λ e. tt)
adverbs_read (t ∷ u ∷ []) = read_if (t ∷ u ∷ []) (is_mark (codes ",") t) (add_adverb (Comma t.at) (adverbs_of (u ∷ []))) None (λ e. read_comma t (u ∷ []) (adverbs_of (u ∷ [])) e (adverbs_read (u ∷ []))) (λ e. tt)
adverbs_read (t ∷ u ∷ v ∷ ts) = read_if (t ∷ u ∷ v ∷ ts) (is_mark (codes ",") t) (add_adverb (Comma t.at) (adverbs_of (u ∷ v ∷ ts))) (if is_pair t u v then add_adverb (Pair t v) (adverbs_of ts) else None)
    (λ e. read_comma t (u ∷ v ∷ ts) (adverbs_of (u ∷ v ∷ ts)) e (adverbs_read (u ∷ v ∷ ts)))
    (λ e. read_if (t ∷ u ∷ v ∷ ts) (is_pair t u v) (add_adverb (Pair t v) (adverbs_of ts)) None (λ f. read_pair t u v ts (adverbs_of ts) f (adverbs_read ts)) (λ f. tt))

pub adverbs_takes : (tokens : List Spelled) (adverbs : List Adverb) → adverbs_of tokens ≡ Some adverbs → (list_all is_adverb adverbs ≡ true) × Together PrintedAs (tokens_of_adverbs adverbs) tokens
adverbs_takes tokens adverbs h = subst (Read tokens) h (adverbs_read tokens)
