-- What the contents of tokens are.
use Rattle.std.proofs.Common.{◌≡◌, ℕ, zero, suc, ◌+◌, ◌-◌, ◌<◌, ◌≤◌, Bool, true, false, cond, List, [], ◌∷◌, ◌++◌, refl, sym, ap, ◌∙◌, subst, map, length, take, drop, arith, length-append, append_assoc}
use Rattle.std.specs.Prelude.{◌&&◌, ◌||◌, codes, encode_utf8_all, nat_lt, nat_eq, chars, Result, Ok, Err}
use Rattle.std.specs.List.{ends_with, list_all}
use Rattle.std.specs.Str.{IsUtf8}
use Rattle.std.specs.Char.{encode_utf8}
use Rattle.std.proofs.Math.Utf8.{scalars, scalar}
use Rattle.std.proofs.Math.Seq.{take-append_seam}
use Rattle.std.proofs.lemmas.List.{length-map}
use Rattle.std.proofs.lemmas.Bool.{true≢false, and_from, or_left}
use Rattle.std.proofs.lemmas.Bool.Decides.{Decides-eqb}
use Rattle.std.proofs.lemmas.Slice.Eq.{ends_is}
use Rattle.std.proofs.lemmas.Str.{encodes-append, chars-encodes, char_from_byte, length-le-encodes}
use Rattle.finite_sets.proofs.Clauses.{and_right}
use Rattle.unicode.specs.Binary.{is_white_space}
use Rattle.ucd_table.specs.Rows.{in_ranges}
use Rattle.ucd_props.specs.Ranges.{white_space_ranges}
use Rattle.ucd_perl.proofs.PerlLemmas.{is_word_char-ascii}
use Rattle.language_model.specs.declared.token.TokenKind.{TokenKind}
use Rattle.language_model.specs.declared.token.TokenKind.TheVariants.{Word, Angle, Quote, Bracket, Pseudo, Reserved, Signed, Mark}
use Rattle.language_model.specs.declared.class.ClassFault.{ClassFault}
use Rattle.language_model.specs.Classes.{Class, class_of, class_of_char, modifier_len}
use Rattle.language_model.specs.Tokens.{IsSpelling, IsModifier, content_of, spaced, is_word}
use Rattle.language_model.specs.Building.{quoted, sets_of}

-- THE LAST CHARACTER

abbrev last_or : ℕ → List ℕ → ℕ
last_or d [] = d
last_or d (x ∷ xs) = last_or x xs

last_behind : (d : ℕ) (xs : List ℕ) (y : ℕ) (ys : List ℕ) → last_or d (xs ++ y ∷ ys) ≡ last_or y ys
last_behind d [] y ys = refl
last_behind d (x ∷ xs) y ys = last_behind x xs y ys

ends : (s p : List ℕ) (prefix : List ℕ) → s ≡ prefix ++ p → ends_with nat_eq s p ≡ true
ends s p prefix e = (ends_is Decides-eqb s p (ends_with nat_eq s p) refl).1 prefix e

ends_not : (s : List ℕ) (y : ℕ) (ys : List ℕ) (b : Bool) → ends_with nat_eq s (y ∷ ys) ≡ b → (last_or 0 s ≡ last_or y ys → ⊥) → b ≡ false
ends_not s y ys true e other =
    absurd (other (ap (last_or 0) ((ends_is Decides-eqb s (y ∷ ys) (ends_with nat_eq s (y ∷ ys)) refl).0 e) ∙ last_behind 0 (take (length s - length (y ∷ ys)) s) y ys))
ends_not s y ys false e other = refl

-- QUOTED TEXTS

seam : (xs : List ℕ) (y : ℕ) (ys : List ℕ) → xs ++ y ∷ ys ≡ (xs ++ y ∷ []) ++ ys
seam xs y ys = sym (append_assoc xs (y ∷ []) ys)

modifier_is : (prefix modifier : List ℕ) → IsModifier modifier → modifier_len (prefix ++ 39 ∷ modifier) ≡ length modifier
modifier_is prefix modifier (zero, within, is) =
    subst (λ m. modifier_len (prefix ++ 39 ∷ m) ≡ length m) is
    (let s = prefix ++ 39 ∷ [] in
    let last : last_or 0 s ≡ 39 = last_behind 0 prefix 39 [] in
    let a : ends_with nat_eq s (codes ":ic") ≡ false = ends_not s 58 (105 ∷ 99 ∷ []) (ends_with nat_eq s (codes ":ic")) refl (λ (e : last_or 0 s ≡ 99). omega (arith, last, e)) in
    let b : ends_with nat_eq s (codes ":i") ≡ false = ends_not s 58 (105 ∷ []) (ends_with nat_eq s (codes ":i")) refl (λ (e : last_or 0 s ≡ 105). omega (arith, last, e)) in
    ap (λ x. cond x 3 (cond (ends_with nat_eq s (codes ":i")) 2 0)) a ∙ ap (λ x. cond x 2 0) b)
modifier_is prefix modifier (suc zero, within, is) =
    subst (λ m. modifier_len (prefix ++ 39 ∷ m) ≡ length m) is
    (let s = prefix ++ 39 ∷ codes ":i" in
    let last : last_or 0 s ≡ 105 = last_behind 0 prefix 39 (codes ":i") in
    let a : ends_with nat_eq s (codes ":ic") ≡ false = ends_not s 58 (105 ∷ 99 ∷ []) (ends_with nat_eq s (codes ":ic")) refl (λ (e : last_or 0 s ≡ 99). omega (arith, last, e)) in
    let b : ends_with nat_eq s (codes ":i") ≡ true = ends s (codes ":i") (prefix ++ 39 ∷ []) (seam prefix 39 (codes ":i")) in
    ap (λ x. cond x 3 (cond (ends_with nat_eq s (codes ":i")) 2 0)) a ∙ ap (λ x. cond x 2 0) b)
modifier_is prefix modifier (suc (suc zero), within, is) =
    subst (λ m. modifier_len (prefix ++ 39 ∷ m) ≡ length m) is
    (let s = prefix ++ 39 ∷ codes ":ic" in
    let a : ends_with nat_eq s (codes ":ic") ≡ true = ends s (codes ":ic") (prefix ++ 39 ∷ []) (seam prefix 39 (codes ":ic")) in
    ap (λ x. cond x 3 (cond (ends_with nat_eq s (codes ":i")) 2 0)) a)
modifier_is prefix modifier (suc (suc (suc k)), within, is) = absurd (omega (arith, within))

pub both_left : (a b : Bool) → (a && b) ≡ true → a ≡ true
both_left true b e = refl
both_left false b e = e

scalars_prefix : (xs ys : List ℕ) → scalars (xs ++ ys) ≡ true → scalars xs ≡ true
scalars_prefix [] ys e = refl
scalars_prefix (x ∷ xs) ys e = and_from (scalar x) (scalars xs) (both_left (scalar x) (scalars (xs ++ ys)) e) (scalars_prefix xs ys (and_right (scalar x) (scalars (xs ++ ys)) e))

modifier_bytes : (modifier : List ℕ) → IsModifier modifier → encode_utf8_all modifier ≡ modifier
unfolding encode_utf8
modifier_bytes modifier (zero, within, is) = subst (λ m. encode_utf8_all m ≡ m) is refl
modifier_bytes modifier (suc zero, within, is) = subst (λ m. encode_utf8_all m ≡ m) is refl
modifier_bytes modifier (suc (suc zero), within, is) = subst (λ m. encode_utf8_all m ≡ m) is refl
modifier_bytes modifier (suc (suc (suc k)), within, is) = absurd (omega (arith, within))

-- the characters between quotes, and the bytes
pub record IsQuoted (content inner : List ℕ) : Type 0 where
  pub characters : scalars inner ≡ true
  pub bytes : take (length content - modifier_len content - 2) (drop 1 content) ≡ encode_utf8_all inner
  pub shorter : length inner ≤ length content
  pub first : (rest : List ℕ) → content ≡ 58 ∷ rest → ⊥

ticked : (inner modifier : List ℕ) → codes "'" ++ inner ++ codes "'" ++ modifier ≡ 39 ∷ (inner ++ 39 ∷ modifier)
ticked inner modifier = ap (λ xs. 39 ∷ xs) (append_assoc inner (39 ∷ []) modifier)

quoted_bytes : (inner modifier : List ℕ) → IsModifier modifier → encode_utf8_all (39 ∷ (inner ++ 39 ∷ modifier)) ≡ 39 ∷ (encode_utf8_all inner ++ 39 ∷ modifier)
unfolding encode_utf8
quoted_bytes inner modifier m = ap (λ bs. 39 ∷ bs) (encodes-append inner (39 ∷ modifier) ∙ ap (λ bs. encode_utf8_all inner ++ 39 ∷ bs) (modifier_bytes modifier m))

quoted_facts : (text inner modifier : List ℕ) → text ≡ 39 ∷ (inner ++ 39 ∷ modifier) → scalars text ≡ true → IsModifier modifier → IsQuoted (encode_utf8_all text) inner
quoted_facts text inner modifier e s m =
    let bytes = encode_utf8_all inner in
    let content = 39 ∷ (bytes ++ 39 ∷ modifier) in
    let is : encode_utf8_all text ≡ content = ap encode_utf8_all e ∙ quoted_bytes inner modifier m in
    let all : scalars (inner ++ 39 ∷ modifier) ≡ true = and_right (scalar 39) (scalars (inner ++ 39 ∷ modifier)) (ap scalars (sym e) ∙ s) in
    let long : length (bytes ++ 39 ∷ modifier) ≡ length bytes + suc (length modifier) = length-append bytes (39 ∷ modifier) in
    let behind : modifier_len content ≡ length modifier = modifier_is (39 ∷ bytes) modifier m in
    let count : length content - modifier_len content - 2 ≡ length bytes = omega (arith, long, behind) in
    subst (λ c. IsQuoted c inner) (sym is) (record {
      characters = scalars_prefix inner (39 ∷ modifier) all;
      bytes = ap (λ n. take n (bytes ++ 39 ∷ modifier)) count ∙ take-append_seam bytes (39 ∷ modifier);
      shorter = let le = length-le-encodes inner in omega (arith, long, le);
      first = λ rest f. other 39 58 (bytes ++ 39 ∷ modifier) rest f (λ g. omega (arith, g));
    })
  where
    other : (a b : ℕ) (xs ys : List ℕ) → a ∷ xs ≡ b ∷ ys → (a ≡ b → ⊥) → ⊥
    other a b xs ys f ne = ne cc

pub is_quoted : (text : List ℕ) → scalars text ≡ true → IsSpelling Quote text → (inner : List ℕ) × IsQuoted (encode_utf8_all text) inner × (length inner ≤ length text)
is_quoted text s (inner, modifier, is, run, m) =
    let same = is ∙ ticked inner modifier in
    let whole : length text ≡ suc (length (inner ++ 39 ∷ modifier)) = ap length same in
    let both : length (inner ++ 39 ∷ modifier) ≡ length inner + suc (length modifier) = length-append inner (39 ∷ modifier) in
    (inner, quoted_facts text inner modifier same s m, omega (arith, whole, both))

pub quoted_utf8 : (content inner : List ℕ) → IsQuoted content inner → IsUtf8 (take (length content - modifier_len content - 2) (drop 1 content))
quoted_utf8 content inner h = (inner, (h.characters, sym h.bytes))

pub quoted_is : (content inner : List ℕ) → IsQuoted content inner → quoted content ≡ inner
quoted_is content inner h = ap chars h.bytes ∙ chars-encodes inner h.characters

-- HOW MANY SETS

class_few : (c : List ℕ) (at : ℕ) (r : Result Class ClassFault) → class_of (chars c) ≡ r → length (sets_of (record { kind = Bracket; content = c; at = at })) ≤ 1
class_few c at (Ok k) e = rw e (omega arith)
class_few c at (Err f) e = rw e (omega arith)

pub sets_few : (k : TokenKind) (text : List ℕ) (at : ℕ) → scalars text ≡ true → IsSpelling k text → 0 < length text → length (sets_of (record { kind = k; content = encode_utf8_all (content_of k text); at = at })) ≤ length text
sets_few Word text at s h lt = omega arith
sets_few Angle text at s h lt = omega arith
sets_few Pseudo text at s h lt = omega arith
sets_few Reserved text at s h lt = omega arith
sets_few Signed text at s h lt = omega arith
sets_few Mark text at s h lt = omega arith
sets_few Bracket text at s h lt = let few = class_few (encode_utf8_all text) at (class_of (chars (encode_utf8_all text))) refl in omega (arith, few, lt)
sets_few Quote text at s h lt =
    let q = is_quoted text s h in
    let content = encode_utf8_all text in
    let e : length (map (λ x. class_of_char x (nat_lt 0 (modifier_len content))) (quoted content)) ≡ length q.0 = length-map (quoted content) (λ x. class_of_char x (nat_lt 0 (modifier_len content))) ∙ ap length (quoted_is content q.0 q.1) in
    omega (arith, e, q.2)

-- NO NAME BEGINS WITH A COLON

abbrev pub NoColon : List ℕ → Type 0
NoColon content = (rest : List ℕ) → content ≡ 58 ∷ rest → ⊥

abbrev is_lettered : ℕ → Bool
is_lettered c = is_word c || is_white_space c

colon_white : is_white_space 58 ≡ false
unfolding is_white_space in_ranges white_space_ranges
colon_white = refl

colon_none : is_lettered 58 ≡ false
colon_none = ap (λ b. b || is_white_space 58) (is_word_char-ascii 58 (omega arith)) ∙ colon_white

-- a text whose first character is another
first_other : (c : ℕ) (cs : List ℕ) → (c ≡ 58 → ⊥) → NoColon (encode_utf8_all (c ∷ cs))
first_other c cs ne rest e =
    let is : 58 ∷ rest ≡ encode_utf8 c ++ encode_utf8_all cs = sym e in
    ne (char_from_byte (58 ∷ rest) (encode_utf8_all cs) c is (omega arith) (omega arith))

lettered_other : (c : ℕ) → is_lettered c ≡ true → c ≡ 58 → ⊥
lettered_other c l e = true≢false (sym l ∙ ap is_lettered e ∙ colon_none)

run_named : (text : List ℕ) → 0 < length text → list_all is_word text ≡ true → NoColon (encode_utf8_all text)
run_named [] lt a = absurd (omega (arith, lt))
run_named (c ∷ cs) lt a = first_other c cs (lettered_other c (or_left (is_word c) (is_white_space c) (both_left (is_word c) (list_all is_word cs) a)))

spaced_named : (cs : List ℕ) (pending : Bool) → list_all is_lettered cs ≡ true → NoColon (encode_utf8_all (spaced cs false pending))
spaced_named [] pending a = λ rest e. cc
spaced_named (c ∷ cs) pending a = go (is_white_space c) (spaced_named cs true (and_right (is_lettered c) (list_all is_lettered cs) a))
  where
    go : (w : Bool) → NoColon (encode_utf8_all (spaced cs false true)) → NoColon (encode_utf8_all (cond w (spaced cs false true) (c ∷ spaced cs true false)))
    go true rest = rest
    go false rest = first_other c (spaced cs true false) (lettered_other c (both_left (is_lettered c) (list_all is_lettered cs) a))

angle_named : (text inner : List ℕ) → text ≡ codes "<" ++ inner ++ codes ">" → list_all is_lettered inner ≡ true → NoColon (encode_utf8_all (content_of Angle text))
angle_named text inner is a =
    let long : length (inner ++ 62 ∷ []) ≡ length inner + 1 = length-append inner (62 ∷ []) in
    let count : suc (length (inner ++ 62 ∷ [])) - 2 ≡ length inner = omega (arith, long) in
    let between : take (length text - 2) (drop 1 text) ≡ inner = ap (λ t. take (length t - 2) (drop 1 t)) is ∙ ap (λ n. take n (inner ++ 62 ∷ [])) count ∙ take-append_seam inner (62 ∷ []) in
    subst (λ cs. NoColon (encode_utf8_all (spaced cs false false))) (sym between) (spaced_named inner false a)

abbrev pub is_name_kind : TokenKind → Bool
is_name_kind Word = true
is_name_kind Angle = true
is_name_kind Quote = true
is_name_kind Bracket = true
is_name_kind _ = false

pub named_other : (k : TokenKind) (text : List ℕ) → is_name_kind k ≡ true → scalars text ≡ true → IsSpelling k text → NoColon (encode_utf8_all (content_of k text))
named_other Word text n s h = run_named text h.0 h.1
named_other Angle text n s h = angle_named text h.0 h.1 h.2
named_other Quote text n s h = (is_quoted text s h).1.first
named_other Bracket text n s h = subst (λ t. NoColon (encode_utf8_all t)) (sym h.2) (first_other 91 (h.0 ++ h.1) (λ e. omega (arith, e)))
named_other Pseudo text n s h = absurd (true≢false (sym n))
named_other Reserved text n s h = absurd (true≢false (sym n))
named_other Signed text n s h = absurd (true≢false (sym n))
named_other Mark text n s h = absurd (true≢false (sym n))
