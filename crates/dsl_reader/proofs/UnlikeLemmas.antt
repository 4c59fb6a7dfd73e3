-- No alternative prints a mark other than its own.
use Rattle.std.proofs.Common.{◌≡◌, ◌∙◌, sym, ap, subst, refl, ℕ, Bool, true, false, not, ◌&&◌, List, [], ◌∷◌, ◌++◌, codes, bytes_eq, map}
use Rattle.std.specs.List.{list_all, flat_map}
use Rattle.std.proofs.lemmas.Bool.{and_parts}
use Rattle.std.proofs.lemmas.List.Folds.{list_all-append}
use Rattle.std.specs.Cmp.Derive.{both_true}
use Rattle.language_model.specs.declared.token.TokenKind.{TokenKind}
use Rattle.language_model.specs.declared.token.TokenKind.TheVariants.{Word, Angle, Quote, Bracket, Pseudo, Reserved, Signed, Mark}
use Rattle.language_model.specs.Tokens.{Spelled}
use Rattle.language_model.specs.Description.{Element, Bare, Hidden, Adverb, Comma, Pair, Alternative, is_adverb, is_element, is_alternative, is_adverb_name, is_kind_of_part, is_kind_of_value, is_some, Printed, kept, mark, PrintedAs, Together, tokens_of_element, tokens_of_adverbs, tokens_of_alternative}
use Rattle.dsl_reader.specs.Pieces.{is_unlike}
use Rattle.dsl_reader.proofs.AdverbLemmas.{same_texts}

abbrev pub differs : List ℕ → TokenKind → List ℕ → Bool
differs m Mark c = not (bytes_eq c m)
differs m _ c = true

abbrev pub unlike : List ℕ → Printed → Bool
unlike m p = differs m p.kind p.content

-- a mark that no alternative prints
pub record IsOuter (m : List ℕ) : Type 0 where
  pub comma : bytes_eq (codes ",") m ≡ false
  pub arrow : bytes_eq (codes "=>") m ≡ false
  pub opens : bytes_eq (codes "(") m ≡ false
  pub closes : bytes_eq (codes ")") m ≡ false
  pub ranking : bytes_eq (codes "null-ranking") m ≡ false

unlike_is : (m : List ℕ) (k : TokenKind) (c : List ℕ) (at : ℕ) → differs m k c ≡ true → is_unlike m (record { kind = k; content = c; at = at }) ≡ true
unlike_is m Word c at h = refl
unlike_is m Angle c at h = refl
unlike_is m Quote c at h = refl
unlike_is m Bracket c at h = refl
unlike_is m Pseudo c at h = refl
unlike_is m Reserved c at h = refl
unlike_is m Signed c at h = refl
unlike_is m Mark c at h = h

pub printed_unlike : (m : List ℕ) (ps : List Printed) (ts : List Spelled) → list_all (unlike m) ps ≡ true → Together PrintedAs ps ts → list_all (is_unlike m) ts ≡ true
printed_unlike m [] [] ok h = refl
printed_unlike m [] (t ∷ ts) ok h = absurd h
printed_unlike m (p ∷ ps) [] ok h = absurd h
printed_unlike m (p ∷ ps) (t ∷ ts) ok h =
    let parts = and_parts (unlike m p) (list_all (unlike m) ps) ok in
    let P : TokenKind → Type 0 = λ k. differs m k p.content ≡ true in
    let Q : List ℕ → Type 0 = λ c. differs m t.kind c ≡ true in
    both_true (unlike_is m t.kind t.content t.at (subst Q h.0.1 (subst P h.0.0 parts.0))) (printed_unlike m ps ts parts.1 h.1)

part_differs : (m : List ℕ) (k : TokenKind) (c : List ℕ) → is_kind_of_part k ≡ true → differs m k c ≡ true
part_differs m Word c h = refl
part_differs m Angle c h = refl
part_differs m Quote c h = refl
part_differs m Bracket c h = refl
part_differs m Reserved c h = refl
part_differs m Signed c h = refl
part_differs m Pseudo c h = refl
part_differs m Mark c h = cc

value_differs : (m : List ℕ) (k : TokenKind) (c : List ℕ) → is_kind_of_value k ≡ true → differs m k c ≡ true
value_differs m Word c h = refl
value_differs m Angle c h = refl
value_differs m Quote c h = refl
value_differs m Bracket c h = refl
value_differs m Reserved c h = refl
value_differs m Signed c h = refl
value_differs m Pseudo c h = refl
value_differs m Mark c h = cc

name_differs : (m : List ℕ) (k : TokenKind) (c : List ℕ) (at : ℕ) → IsOuter m → is_adverb_name (record { kind = k; content = c; at = at }) ≡ true → differs m k c ≡ true
name_differs m Word c at o h = refl
name_differs m Angle c at o h = refl
name_differs m Quote c at o h = refl
name_differs m Bracket c at o h = refl
name_differs m Reserved c at o h = refl
name_differs m Signed c at o h = refl
name_differs m Pseudo c at o h = refl
name_differs m Mark c at o h = ap (λ d. not (bytes_eq d m)) (sym (same_texts c (codes "null-ranking") h)) ∙ ap not o.ranking

pub append_unlike : (m : List ℕ) (xs ys : List Printed) → list_all (unlike m) xs ≡ true → list_all (unlike m) ys ≡ true → list_all (unlike m) (xs ++ ys) ≡ true
append_unlike m xs ys h k = list_all-append (unlike m) xs ys ∙ both_true h k

pub adverbs_unlike : (m : List ℕ) (adverbs : List Adverb) → IsOuter m → list_all is_adverb adverbs ≡ true → list_all (unlike m) (tokens_of_adverbs adverbs) ≡ true
adverbs_unlike m [] o ok = refl
adverbs_unlike m (Comma at ∷ adverbs) o ok = both_true (ap not o.comma) (adverbs_unlike m adverbs o ok)
adverbs_unlike m (Pair name value ∷ adverbs) o ok =
    let parts = and_parts (is_adverb_name name && is_kind_of_value value.kind) (list_all is_adverb adverbs) ok in
    let both = and_parts (is_adverb_name name) (is_kind_of_value value.kind) parts.0 in
    both_true (name_differs m name.kind name.content name.at o both.0) (both_true (ap not o.arrow) (both_true (value_differs m value.kind value.content both.1) (adverbs_unlike m adverbs o parts.1)))

parts_unlike : (m : List ℕ) (parts : List Spelled) → list_all (λ t. is_kind_of_part t.kind) parts ≡ true → list_all (unlike m) (map kept parts) ≡ true
parts_unlike m [] ok = refl
parts_unlike m (t ∷ ts) ok = let both = and_parts (is_kind_of_part t.kind) _ ok in both_true (part_differs m t.kind t.content both.0) (parts_unlike m ts both.1)

elements_unlike : (m : List ℕ) (elements : List Element) → IsOuter m → list_all is_element elements ≡ true → list_all (unlike m) (flat_map tokens_of_element elements) ≡ true
elements_unlike m [] o ok = refl
elements_unlike m (Bare part ∷ elements) o ok = let both = and_parts (is_kind_of_part part.kind) _ ok in both_true (part_differs m part.kind part.content both.0) (elements_unlike m elements o both.1)
elements_unlike m (Hidden parts ∷ elements) o ok =
    let both = and_parts (is_some parts && list_all (λ t. is_kind_of_part t.kind) parts) (list_all is_element elements) ok in
    let ins = and_parts (is_some parts) _ both.0 in
    both_true (ap not o.opens) (append_unlike m (map kept parts ++ mark (codes ")") ∷ []) (flat_map tokens_of_element elements) (append_unlike m (map kept parts) (mark (codes ")") ∷ []) (parts_unlike m parts ins.1) (both_true (ap not o.closes) refl)) (elements_unlike m elements o both.1))

pub alternative_unlike : (m : List ℕ) (a : Alternative) → IsOuter m → is_alternative a ≡ true → list_all (unlike m) (tokens_of_alternative a) ≡ true
alternative_unlike m a o ok =
    let both = and_parts (is_some a.elements && list_all is_element a.elements) (list_all is_adverb a.adverbs) ok in
    let ins = and_parts (is_some a.elements) (list_all is_element a.elements) both.0 in
    append_unlike m (flat_map tokens_of_element a.elements) (tokens_of_adverbs a.adverbs) (elements_unlike m a.elements o ins.1) (adverbs_unlike m a.adverbs o both.1)
