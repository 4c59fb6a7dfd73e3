-- The scan finds the longest spelling.
use Rattle.std.proofs.Common.{◌≡◌, ◌∙◌, sym, ap, subst, refl, ℕ, zero, suc, ◌+◌, ◌-◌, ◌<◌, ◌≤◌, ◌==◌, ◌&&◌, Bool, true, false, List, [], ◌∷◌, ◌++◌, length, take, drop, Option, Some, None, arith, ne_eqb, eqb-true, slice_index, slice_index_or, codes, ◌||◌, ◌⊎◌, ⊎_elim, nat_lt, nat_eq, eq-eqb, append_assoc, length-append, Contains, inl, inr}
use Rattle.std.specs.Cmp.Lexicographic.{pointwise}
use Rattle.std.specs.Prelude.{if◌then◌else◌, option_map}
use Rattle.std.specs.Char.{is_ascii_digit}
use Rattle.ucd_table.specs.Rows.{in_ranges}
use Rattle.ucd_props.specs.Ranges.{white_space_ranges}
use Rattle.unicode.specs.Binary.{is_white_space}
use Rattle.ucd_perl.specs.Perl.{is_word_byte}
use Rattle.std.specs.List.{slice_range, list_all, list_any, prefix_len, starts_with}
use Rattle.std.proofs.lemmas.List.{length-drop, length-take, length-take-le, take-append-drop, get_or-take, get_or_past}
use Rattle.std.proofs.Math.Seq.{take-suc, take-append_seam, drop-append_seam}
use lib.Seq.{take-add}
use Rattle.std.proofs.lemmas.List.Folds.{length-prefix_len}
use Rattle.std.specs.Cmp.Derive.{both_true}
use Rattle.std.proofs.lemmas.Bool.{or_cases, and_parts, lt-ltb, ltb-true, ltb-false}
use Rattle.std.proofs.lemmas.List.Sums.{prefix_len_passes, prefix_len-le-length}
use Rattle.ucd_perl.proofs.PerlLemmas.{is_word_char-ascii}
use Rattle.language_model.specs.declared.token.TokenKind.{TokenKind}
use Rattle.language_model.specs.declared.token.TokenKind.TheVariants.{Word, Angle, Quote, Bracket, Pseudo, Reserved, Signed, Mark}
use Rattle.language_model.specs.declared.token.Token.{Token}
use Rattle.language_model.specs.Tokens.{IsSpelling, IsLongest, IsRunOf, IsModifier, is_word, closing, marks}
use Rattle.language_model.specs.declared.token.BracketState.TheVariants.{Plain}
use Rattle.dsl_tokens.proofs.ClosingLemmas.{closing_more, closing_within, closing_self}
use Rattle.dsl_tokens.specs.Scanning.{is_angle_character, is_quotable, modifier_at, token_at, word_at, angle_at, quote_at, bracket_at, colon_at, sign_at, mark_at}

-- RUNS

pub run_le : (p : ℕ → Bool) (xs rest : List ℕ) → list_all p xs ≡ true → length xs ≤ prefix_len p (xs ++ rest)
run_le p [] rest all = omega arith
run_le p (x ∷ xs) rest all =
    let parts = and_parts (p x) (list_all p xs) all in
    let more = run_le p xs rest parts.1 in
    rw (parts.0) (omega arith)

-- a run ends before a character that fails
pub run_is : (p : ℕ → Bool) (xs : List ℕ) (x : ℕ) (rest : List ℕ) → list_all p xs ≡ true → p x ≡ false → prefix_len p (xs ++ x ∷ rest) ≡ length xs
run_is p [] x rest all fails = rw fails refl
run_is p (y ∷ ys) x rest all fails =
    let parts = and_parts (p y) (list_all p ys) all in
    let more = run_is p ys x rest parts.1 fails in
    rw parts.0 (omega (arith, more))

pub behind : (xs : List ℕ) (y : ℕ) (ys : List ℕ) → slice_index (xs ++ y ∷ ys) (length xs) ≡ y
behind [] y ys = refl
behind (x ∷ xs) y ys = behind xs y ys

-- THE FIRST CHARACTER

pub not_word : (c : ℕ) → c < 128 → is_word_byte c ≡ false → is_word c ≡ false
not_word c below no_byte = is_word_char-ascii c below ∙ no_byte

token_word : (c : ℕ) (rest : List ℕ) → is_word c ≡ true → token_at (c ∷ rest) ≡ word_at (c ∷ rest)
unfolding token_at
token_word c rest is = rw is refl

token_angle : (rest : List ℕ) → token_at (60 ∷ rest) ≡ angle_at (60 ∷ rest)
unfolding token_at
token_angle rest = rw (not_word 60 (omega arith) refl) refl

token_quote : (rest : List ℕ) → token_at (39 ∷ rest) ≡ quote_at (39 ∷ rest)
unfolding token_at
token_quote rest = rw (not_word 39 (omega arith) refl) refl

token_bracket : (rest : List ℕ) → token_at (91 ∷ rest) ≡ bracket_at (91 ∷ rest)
unfolding token_at
token_bracket rest = rw (not_word 91 (omega arith) refl) refl

token_colon : (rest : List ℕ) → token_at (58 ∷ rest) ≡ colon_at (58 ∷ rest)
unfolding token_at
token_colon rest = rw (not_word 58 (omega arith) refl) refl

token_plus : (rest : List ℕ) → token_at (43 ∷ rest) ≡ sign_at (43 ∷ rest)
unfolding token_at
token_plus rest = rw (not_word 43 (omega arith) refl) refl

token_minus : (rest : List ℕ) → token_at (45 ∷ rest) ≡ sign_at (45 ∷ rest)
unfolding token_at
token_minus rest = rw (not_word 45 (omega arith) refl) refl

-- WHAT IS SPELLED IS FOUND, OR SOMETHING LONGER

-- a token is found, which is longer, or as long and of the kind
abbrev pub Bounded : TokenKind → ℕ → Option (TokenKind × ℕ) → Type 0
Bounded kind m (Some f) = (m ≤ f.1) × (m ≡ f.1 → kind ≡ f.0)
Bounded kind m None = ⊥

-- two texts that compare as equal
same_at : (xs ys : List ℕ) (k : ℕ) → pointwise nat_eq xs ys ≡ true → k < length xs → slice_index xs k ≡ slice_index ys k
same_at [] ys k h l = absurd (omega arith)
same_at (x ∷ xs) [] k h l = cc
same_at (x ∷ xs) (y ∷ ys) zero h l = eqb-true x y (and_parts _ _ h).0
same_at (x ∷ xs) (y ∷ ys) (suc k) h l = same_at xs ys k (and_parts _ _ h).1 (omega arith)

-- a text that begins with the long mark has a hyphen after four characters
fifth : (text : List ℕ) → starts_with nat_eq text (codes "null-ranking") ≡ true → slice_index text 4 ≡ 45
fifth text h = sym (get_or-take 12 text 4 0 (omega arith)) ∙ sym (same_at (codes "null-ranking") (take 12 text) 4 h (omega arith))

short_word : (text : List ℕ) → slice_index text 4 ≡ 45 → prefix_len is_word text ≤ 4
short_word text hyphen = by_order (nat_lt 4 (prefix_len is_word text)) refl
  where
    by_order : (b : Bool) → nat_lt 4 (prefix_len is_word text) ≡ b → prefix_len is_word text ≤ 4
    by_order true more =
        let word = prefix_len_passes is_word text 4 0 (ltb-true 4 _ more) in
        let same = ap is_word hyphen in
        let never = not_word 45 (omega arith) refl in
        absurd (let clash : true ≡ false = sym word ∙ same ∙ never in cc)
    by_order false less = ltb-false 4 _ less

word_bounded : (text : List ℕ) (m : ℕ) → m ≤ prefix_len is_word text → Bounded Word m (word_at text)
unfolding word_at
word_bounded text m long = by_mark (starts_with nat_eq text (codes "null-ranking")) refl
  where
    by_mark : (b : Bool) → starts_with nat_eq text (codes "null-ranking") ≡ b → Bounded Word m (if b then Some (Mark, 12) else Some (Word, prefix_len is_word text))
    by_mark true begins = let short = short_word text (fifth text begins) in (omega arith, λ e. absurd (omega arith))
    by_mark false other = (long, λ e. refl)

word_found : (spelled rest : List ℕ) → IsRunOf is_word spelled → Bounded Word (length spelled) (token_at (spelled ++ rest))
word_found [] rest run = absurd (omega (arith, run.0))
word_found (c ∷ cs) rest run =
    subst (Bounded Word (length (c ∷ cs))) (sym (token_word c (cs ++ rest) (and_parts (is_word c) (list_all is_word cs) run.1).0))
    (word_bounded (c ∷ (cs ++ rest)) (length (c ∷ cs)) (run_le is_word (c ∷ cs) rest run.1))

colon_pseudo : (text : List ℕ) → (slice_index text 1 == 58) ≡ false → 0 < prefix_len is_word (drop 1 text) → colon_at text ≡ Some (Pseudo, 1 + prefix_len is_word (drop 1 text))
unfolding colon_at
colon_pseudo text other some = rw (other, lt-ltb _ _ some) refl

colon_reserved : (text : List ℕ) → (slice_index text 1 == 58) ≡ true → (slice_index text 2 == 61) ≡ false → 0 < prefix_len is_word (drop 2 text) → colon_at text ≡ Some (Reserved, 2 + prefix_len is_word (drop 2 text))
unfolding colon_at
colon_reserved text colon other some = rw (colon, other, lt-ltb _ _ some) refl

-- a word character is none that is no word character
other_than : (d : ℕ) → is_word d ≡ false → (c : ℕ) → is_word c ≡ true → (c == d) ≡ false
other_than d never c is = ne_eqb c d (λ e. let no_word = ap is_word e in cc)

pseudo_found : (name rest : List ℕ) → IsRunOf is_word name → Bounded Pseudo (length (58 ∷ name)) (token_at (58 ∷ name ++ rest))
pseudo_found [] rest run = absurd (omega (arith, run.0))
pseudo_found (n ∷ ns) rest run =
    let first = (and_parts (is_word n) (list_all is_word ns) run.1).0 in
    let long : length (n ∷ ns) ≤ prefix_len is_word ((n ∷ ns) ++ rest) = run_le is_word (n ∷ ns) rest run.1 in
    let found : token_at (58 ∷ (n ∷ ns) ++ rest) ≡ Some (Pseudo, 1 + prefix_len is_word ((n ∷ ns) ++ rest)) =
    token_colon ((n ∷ ns) ++ rest) ∙ colon_pseudo (58 ∷ (n ∷ ns) ++ rest) (other_than 58 (not_word 58 (omega arith) refl) n first) (omega (arith, run.0)) in
    subst (Bounded Pseudo (length (58 ∷ n ∷ ns))) (sym found) (omega (arith, long), λ e. refl)

reserved_found : (name rest : List ℕ) → IsRunOf is_word name → Bounded Reserved (length (58 ∷ 58 ∷ name)) (token_at (58 ∷ 58 ∷ name ++ rest))
reserved_found [] rest run = absurd (omega (arith, run.0))
reserved_found (n ∷ ns) rest run =
    let first = (and_parts (is_word n) (list_all is_word ns) run.1).0 in
    let long : length (n ∷ ns) ≤ prefix_len is_word ((n ∷ ns) ++ rest) = run_le is_word (n ∷ ns) rest run.1 in
    let found : token_at (58 ∷ 58 ∷ (n ∷ ns) ++ rest) ≡ Some (Reserved, 2 + prefix_len is_word ((n ∷ ns) ++ rest)) =
    token_colon (58 ∷ (n ∷ ns) ++ rest) ∙ colon_reserved (58 ∷ 58 ∷ (n ∷ ns) ++ rest) refl (other_than 61 (not_word 61 (omega arith) refl) n first) (omega (arith, run.0)) in
    subst (Bounded Reserved (length (58 ∷ 58 ∷ n ∷ ns))) (sym found) (omega (arith, long), λ e. refl)

sign_found : (text : List ℕ) → 0 < prefix_len is_ascii_digit (drop 1 text) → sign_at text ≡ Some (Signed, 1 + prefix_len is_ascii_digit (drop 1 text))
unfolding sign_at
sign_found text some = rw (lt-ltb _ _ some) refl

signed_found : (sign : ℕ) (digits rest : List ℕ) → (sign ≡ 43) ⊎ (sign ≡ 45) → IsRunOf is_ascii_digit digits → Bounded Signed (length (sign ∷ digits)) (token_at (sign ∷ digits ++ rest))
signed_found sign digits rest which run =
    let long : length digits ≤ prefix_len is_ascii_digit (digits ++ rest) = run_le is_ascii_digit digits rest run.1 in
    let found : sign_at (sign ∷ digits ++ rest) ≡ Some (Signed, 1 + prefix_len is_ascii_digit (digits ++ rest)) = sign_found (sign ∷ digits ++ rest) (omega (arith, run.0)) in
    let P : ℕ → Type 0 = λ s. token_at (s ∷ digits ++ rest) ≡ sign_at (s ∷ digits ++ rest) in
    let here : token_at (sign ∷ digits ++ rest) ≡ sign_at (sign ∷ digits ++ rest) = ⊎_elim (λ e. subst P (sym e) (token_plus (digits ++ rest))) (λ e. subst P (sym e) (token_minus (digits ++ rest))) which in
    subst (Bounded Signed (length (sign ∷ digits))) (sym (here ∙ found)) (omega (arith, long), λ e. refl)

angle_of : (text : List ℕ) (len : ℕ) → prefix_len is_angle_character (drop 1 text) ≡ len → (slice_index text (1 + len) == 62) ≡ true → list_any is_word (take len (drop 1 text)) ≡ true → angle_at text ≡ Some (Angle, 2 + len)
unfolding angle_at
angle_of text len e ends some = rw (e, ends, some) refl

no_space_62 : is_white_space 62 ≡ false
unfolding is_white_space in_ranges white_space_ranges
no_space_62 = refl

one_plus : (n : ℕ) → 1 + n ≡ suc n
one_plus n = omega arith

two_plus : (n : ℕ) → 2 + n ≡ suc (suc n)
two_plus n = omega arith

-- a character after another
next_is : (a : ℕ) (xs : List ℕ) (y : ℕ) (ys : List ℕ) → (slice_index (a ∷ (xs ++ y ∷ ys)) (1 + length xs) == y) ≡ true
next_is a xs y ys = eq-eqb _ _ (ap (λ k. slice_index (a ∷ (xs ++ y ∷ ys)) k) (one_plus (length xs)) ∙ behind xs y ys)

drop_behind : (xs : List ℕ) (y : ℕ) (ys : List ℕ) → drop (suc (length xs)) (xs ++ y ∷ ys) ≡ ys
drop_behind [] y ys = refl
drop_behind (x ∷ xs) y ys = drop_behind xs y ys

angle_found : (inner rest : List ℕ) → list_all is_angle_character inner ≡ true → list_any is_word inner ≡ true → angle_at (60 ∷ (inner ++ 62 ∷ rest)) ≡ Some (Angle, 2 + length inner)
angle_found inner rest all some =
    let no_angle : is_angle_character 62 ≡ false = ap (λ b. b || is_white_space 62) (not_word 62 (omega arith) refl) ∙ no_space_62 in
    angle_of (60 ∷ (inner ++ 62 ∷ rest)) (length inner) (run_is is_angle_character inner 62 rest all no_angle) (next_is 60 inner 62 rest) (ap (list_any is_word) (take-append_seam inner (62 ∷ rest)) ∙ some)

angle_spelled : (inner rest : List ℕ) → list_all is_angle_character inner ≡ true → list_any is_word inner ≡ true → Bounded Angle (length (60 ∷ (inner ++ 62 ∷ []))) (token_at (60 ∷ ((inner ++ 62 ∷ []) ++ rest)))
angle_spelled inner rest all some =
    let len : length (60 ∷ (inner ++ 62 ∷ [])) ≡ 2 + length inner = omega (arith, length-append inner (62 ∷ [])) in
    subst (λ t. Bounded Angle (length (60 ∷ (inner ++ 62 ∷ []))) (token_at (60 ∷ t))) (sym (append_assoc inner (62 ∷ []) rest))
    (subst (Bounded Angle (length (60 ∷ (inner ++ 62 ∷ [])))) (sym (token_angle (inner ++ 62 ∷ rest) ∙ angle_found inner rest all some)) (omega arith, λ e. refl))

-- modifiers
modifier_two : (rest : List ℕ) → 2 ≤ modifier_at (58 ∷ 105 ∷ rest)
unfolding modifier_at
modifier_two rest = by_more (starts_with nat_eq (58 ∷ 105 ∷ rest) (codes ":ic"))
  where
    by_more : (b : Bool) → 2 ≤ (if b then 3 else 2)
    by_more true = omega arith
    by_more false = omega arith

modifier_three : (rest : List ℕ) → 3 ≤ modifier_at (58 ∷ 105 ∷ 99 ∷ rest)
unfolding modifier_at
modifier_three rest = omega arith

modifier_bounded : (modifier rest : List ℕ) → IsModifier modifier → length modifier ≤ modifier_at (modifier ++ rest)
modifier_bounded modifier rest (zero, lt, is) = subst (λ m. length m ≤ modifier_at (m ++ rest)) is (omega arith)
modifier_bounded modifier rest (suc zero, lt, is) = subst (λ m. length m ≤ modifier_at (m ++ rest)) is (modifier_two rest)
modifier_bounded modifier rest (suc (suc zero), lt, is) = subst (λ m. length m ≤ modifier_at (m ++ rest)) is (modifier_three rest)
modifier_bounded modifier rest (suc (suc (suc k)), lt, is) = absurd (omega arith)

quote_of : (text : List ℕ) (len : ℕ) → prefix_len is_quotable (drop 1 text) ≡ len → 0 < len → (slice_index text (1 + len) == 39) ≡ true → quote_at text ≡ Some (Quote, 2 + len + modifier_at (drop (2 + len) text))
unfolding quote_at
quote_of text len e some ends = rw (e, lt-ltb _ _ some, ends) refl

quote_spelled : (inner modifier rest : List ℕ) → IsRunOf is_quotable inner → IsModifier modifier → Bounded Quote (length (39 ∷ ((inner ++ 39 ∷ []) ++ modifier))) (token_at (39 ∷ (((inner ++ 39 ∷ []) ++ modifier) ++ rest)))
quote_spelled inner modifier rest run is =
    let more = modifier ++ rest in
    let shape : ((inner ++ 39 ∷ []) ++ modifier) ++ rest ≡ inner ++ 39 ∷ more = append_assoc (inner ++ 39 ∷ []) modifier rest ∙ append_assoc inner (39 ∷ []) more in
    let tail : drop (2 + length inner) (39 ∷ (inner ++ 39 ∷ more)) ≡ more = ap (λ k. drop k (39 ∷ (inner ++ 39 ∷ more))) (two_plus (length inner)) ∙ drop_behind inner 39 more in
    let bound : length modifier ≤ modifier_at (drop (2 + length inner) (39 ∷ (inner ++ 39 ∷ more))) = subst (λ t. length modifier ≤ modifier_at t) (sym tail) (modifier_bounded modifier rest is) in
    let len : length (39 ∷ ((inner ++ 39 ∷ []) ++ modifier)) ≡ 2 + length inner + length modifier = omega (arith, length-append (inner ++ 39 ∷ []) modifier, length-append inner (39 ∷ [])) in
    subst (λ t. Bounded Quote (length (39 ∷ ((inner ++ 39 ∷ []) ++ modifier))) (token_at (39 ∷ t))) (sym shape)
    (subst (Bounded Quote (length (39 ∷ ((inner ++ 39 ∷ []) ++ modifier)))) (sym (token_quote (inner ++ 39 ∷ more) ∙ quote_of (39 ∷ (inner ++ 39 ∷ more)) (length inner) (run_is is_quotable inner 39 more run.1 refl) run.0 (next_is 39 inner 39 more))) (omega arith, λ e. refl))

bracket_of : (text : List ℕ) (len : ℕ) → closing (drop 1 text) Plain ≡ Some len → bracket_at text ≡ Some (Bracket, 1 + len + modifier_at (drop (1 + len) text))
unfolding bracket_at
bracket_of text len e = ap (option_map (λ len. (Bracket, 1 + len + modifier_at (drop (1 + len) text)))) e

bracket_spelled : (inner modifier rest : List ℕ) → closing inner Plain ≡ Some (length inner) → IsModifier modifier → Bounded Bracket (length (91 ∷ (inner ++ modifier))) (token_at (91 ∷ ((inner ++ modifier) ++ rest)))
bracket_spelled inner modifier rest ends is =
    let more = modifier ++ rest in
    let tail : drop (1 + length inner) (91 ∷ (inner ++ more)) ≡ more = ap (λ k. drop k (91 ∷ (inner ++ more))) (one_plus (length inner)) ∙ drop-append_seam inner more in
    let bound : length modifier ≤ modifier_at (drop (1 + length inner) (91 ∷ (inner ++ more))) = subst (λ t. length modifier ≤ modifier_at t) (sym tail) (modifier_bounded modifier rest is) in
    let len : length (91 ∷ (inner ++ modifier)) ≡ 1 + length inner + length modifier = omega (arith, length-append inner modifier) in
    subst (λ t. Bounded Bracket (length (91 ∷ (inner ++ modifier))) (token_at (91 ∷ t))) (sym (append_assoc inner modifier rest))
    (subst (Bounded Bracket (length (91 ∷ (inner ++ modifier)))) (sym (token_bracket (inner ++ more) ∙ bracket_of (91 ∷ (inner ++ more)) (length inner) (closing_more inner more Plain (length inner) ends))) (omega arith, λ e. refl))

-- marks
token_126 : (rest : List ℕ) → token_at (126 ∷ rest) ≡ mark_at (126 ∷ rest)
unfolding token_at
token_126 rest = rw (not_word 126 (omega arith) refl) refl

token_124 : (rest : List ℕ) → token_at (124 ∷ rest) ≡ mark_at (124 ∷ rest)
unfolding token_at
token_124 rest = rw (not_word 124 (omega arith) refl) refl

token_61 : (rest : List ℕ) → token_at (61 ∷ rest) ≡ mark_at (61 ∷ rest)
unfolding token_at
token_61 rest = rw (not_word 61 (omega arith) refl) refl

token_40 : (rest : List ℕ) → token_at (40 ∷ rest) ≡ mark_at (40 ∷ rest)
unfolding token_at
token_40 rest = rw (not_word 40 (omega arith) refl) refl

token_41 : (rest : List ℕ) → token_at (41 ∷ rest) ≡ mark_at (41 ∷ rest)
unfolding token_at
token_41 rest = rw (not_word 41 (omega arith) refl) refl

token_42 : (rest : List ℕ) → token_at (42 ∷ rest) ≡ mark_at (42 ∷ rest)
unfolding token_at
token_42 rest = rw (not_word 42 (omega arith) refl) refl

token_44 : (rest : List ℕ) → token_at (44 ∷ rest) ≡ mark_at (44 ∷ rest)
unfolding token_at
token_44 rest = rw (not_word 44 (omega arith) refl) refl

token_59 : (rest : List ℕ) → token_at (59 ∷ rest) ≡ mark_at (59 ∷ rest)
unfolding token_at
token_59 rest = rw (not_word 59 (omega arith) refl) refl

mark_126 : (rest : List ℕ) → Bounded Mark 1 (token_at (126 ∷ rest))
unfolding mark_at
mark_126 rest = subst (Bounded Mark 1) (sym (token_126 rest)) (omega arith, λ e. refl)

mark_40 : (rest : List ℕ) → Bounded Mark 1 (token_at (40 ∷ rest))
unfolding mark_at
mark_40 rest = subst (Bounded Mark 1) (sym (token_40 rest)) (omega arith, λ e. refl)

mark_41 : (rest : List ℕ) → Bounded Mark 1 (token_at (41 ∷ rest))
unfolding mark_at
mark_41 rest = subst (Bounded Mark 1) (sym (token_41 rest)) (omega arith, λ e. refl)

mark_42 : (rest : List ℕ) → Bounded Mark 1 (token_at (42 ∷ rest))
unfolding mark_at
mark_42 rest = subst (Bounded Mark 1) (sym (token_42 rest)) (omega arith, λ e. refl)

mark_44 : (rest : List ℕ) → Bounded Mark 1 (token_at (44 ∷ rest))
unfolding mark_at
mark_44 rest = subst (Bounded Mark 1) (sym (token_44 rest)) (omega arith, λ e. refl)

mark_59 : (rest : List ℕ) → Bounded Mark 1 (token_at (59 ∷ rest))
unfolding mark_at
mark_59 rest = subst (Bounded Mark 1) (sym (token_59 rest)) (omega arith, λ e. refl)

-- a choice of two lengths
of_two : (m : ℕ) (b : Bool) (x y : ℕ) → m ≤ x → m ≤ y → Bounded Mark m (if b then Some (Mark, x) else Some (Mark, y))
of_two m true x y h k = (h, λ e. refl)
of_two m false x y h k = (k, λ e. refl)

mark_124 : (rest : List ℕ) → Bounded Mark 1 (token_at (124 ∷ rest))
unfolding mark_at
mark_124 rest = subst (Bounded Mark 1) (sym (token_124 rest)) (of_two 1 (slice_index rest 0 == 124) 2 1 (omega arith) (omega arith))

mark_124_124 : (rest : List ℕ) → Bounded Mark 2 (token_at (124 ∷ 124 ∷ rest))
unfolding mark_at
mark_124_124 rest = subst (Bounded Mark 2) (sym (token_124 (124 ∷ rest))) (omega arith, λ e. refl)

mark_61 : (rest : List ℕ) → Bounded Mark 1 (token_at (61 ∷ rest))
unfolding mark_at
mark_61 rest = subst (Bounded Mark 1) (sym (token_61 rest)) (of_two 1 (slice_index rest 0 == 62) 2 1 (omega arith) (omega arith))

mark_61_62 : (rest : List ℕ) → Bounded Mark 2 (token_at (61 ∷ 62 ∷ rest))
unfolding mark_at
mark_61_62 rest = subst (Bounded Mark 2) (sym (token_61 (62 ∷ rest))) (omega arith, λ e. refl)

mark_58 : (rest : List ℕ) → Bounded Mark 3 (token_at (58 ∷ 58 ∷ 61 ∷ rest))
unfolding colon_at
mark_58 rest = subst (Bounded Mark 3) (sym (token_colon (58 ∷ 61 ∷ rest))) (omega arith, λ e. refl)

plus_or_signed : (n : ℕ) (b : Bool) → nat_lt 0 n ≡ b → Bounded Mark 1 (if b then Some (Signed, 1 + n) else Some (Mark, 1))
plus_or_signed n true some = let more = ltb-true 0 n some in (omega arith, λ e. absurd (omega arith))
plus_or_signed n false none = (omega arith, λ e. refl)

mark_43 : (rest : List ℕ) → Bounded Mark 1 (token_at (43 ∷ rest))
unfolding sign_at
mark_43 rest = subst (Bounded Mark 1) (sym (token_plus rest)) (plus_or_signed (prefix_len is_ascii_digit rest) (nat_lt 0 (prefix_len is_ascii_digit rest)) refl)

mark_null : (rest : List ℕ) → Bounded Mark 12 (token_at (codes "null-ranking" ++ rest))
unfolding word_at
mark_null rest = subst (Bounded Mark 12) (sym (token_word 110 (codes "ull-ranking" ++ rest) (is_word_char-ascii 110 (omega arith)))) (omega arith, λ e. refl)

mark_spelled : (k : ℕ) (spelled rest : List ℕ) → k < 13 → slice_index_or marks k spelled ≡ spelled → Bounded Mark (length spelled) (token_at (spelled ++ rest))
mark_spelled zero spelled rest h is = subst (λ s. Bounded Mark (length s) (token_at (s ++ rest))) is (mark_58 rest)
mark_spelled (suc zero) spelled rest h is = subst (λ s. Bounded Mark (length s) (token_at (s ++ rest))) is (mark_126 rest)
mark_spelled (suc (suc zero)) spelled rest h is = subst (λ s. Bounded Mark (length s) (token_at (s ++ rest))) is (mark_124 rest)
mark_spelled (suc (suc (suc zero))) spelled rest h is = subst (λ s. Bounded Mark (length s) (token_at (s ++ rest))) is (mark_124_124 rest)
mark_spelled (suc (suc (suc (suc zero)))) spelled rest h is = subst (λ s. Bounded Mark (length s) (token_at (s ++ rest))) is (mark_61_62 rest)
mark_spelled (suc (suc (suc (suc (suc zero))))) spelled rest h is = subst (λ s. Bounded Mark (length s) (token_at (s ++ rest))) is (mark_61 rest)
mark_spelled (suc (suc (suc (suc (suc (suc zero)))))) spelled rest h is = subst (λ s. Bounded Mark (length s) (token_at (s ++ rest))) is (mark_40 rest)
mark_spelled (suc (suc (suc (suc (suc (suc (suc zero))))))) spelled rest h is = subst (λ s. Bounded Mark (length s) (token_at (s ++ rest))) is (mark_41 rest)
mark_spelled (suc (suc (suc (suc (suc (suc (suc (suc zero)))))))) spelled rest h is = subst (λ s. Bounded Mark (length s) (token_at (s ++ rest))) is (mark_42 rest)
mark_spelled (suc (suc (suc (suc (suc (suc (suc (suc (suc zero))))))))) spelled rest h is = subst (λ s. Bounded Mark (length s) (token_at (s ++ rest))) is (mark_43 rest)
mark_spelled (suc (suc (suc (suc (suc (suc (suc (suc (suc (suc zero)))))))))) spelled rest h is = subst (λ s. Bounded Mark (length s) (token_at (s ++ rest))) is (mark_44 rest)
mark_spelled (suc (suc (suc (suc (suc (suc (suc (suc (suc (suc (suc zero))))))))))) spelled rest h is = subst (λ s. Bounded Mark (length s) (token_at (s ++ rest))) is (mark_59 rest)
mark_spelled (suc (suc (suc (suc (suc (suc (suc (suc (suc (suc (suc (suc zero)))))))))))) spelled rest h is = subst (λ s. Bounded Mark (length s) (token_at (s ++ rest))) is (mark_null rest)
mark_spelled (suc (suc (suc (suc (suc (suc (suc (suc (suc (suc (suc (suc (suc k))))))))))))) spelled rest h is = absurd (omega arith)

pub spelled_found : (kind : TokenKind) (spelled rest : List ℕ) → IsSpelling kind spelled → Bounded kind (length spelled) (token_at (spelled ++ rest))
spelled_found Word spelled rest is = word_found spelled rest is
spelled_found Angle spelled rest (inner, same, all, some) = subst (λ s. Bounded Angle (length s) (token_at (s ++ rest))) (sym same) (angle_spelled inner rest all some)
spelled_found Quote spelled rest (inner, modifier, same, run, is) = subst (λ s. Bounded Quote (length s) (token_at (s ++ rest))) (sym same) (quote_spelled inner modifier rest run is)
spelled_found Bracket spelled rest (inner, modifier, same, ends, is) = subst (λ s. Bounded Bracket (length s) (token_at (s ++ rest))) (sym same) (bracket_spelled inner modifier rest ends is)
spelled_found Pseudo spelled rest (name, same, run) = subst (λ s. Bounded Pseudo (length s) (token_at (s ++ rest))) (sym same) (pseudo_found name rest run)
spelled_found Reserved spelled rest (name, same, run) = subst (λ s. Bounded Reserved (length s) (token_at (s ++ rest))) (sym same) (reserved_found name rest run)
spelled_found Signed spelled rest (sign, digits, same, which, run) = subst (λ s. Bounded Signed (length s) (token_at (s ++ rest))) (sym same) (signed_found sign digits rest which run)
spelled_found Mark spelled rest (k, within, is) = mark_spelled k spelled rest within is

bounded_at : (rest : List ℕ) (m : ℕ) (kind : TokenKind) → m ≤ length rest → IsSpelling kind (take m rest) → Bounded kind m (token_at rest)
bounded_at rest m kind within is =
    subst (λ n. Bounded kind n (token_at rest)) (length-take-le m rest within)
    (subst (λ t. Bounded kind (length (take m rest)) (token_at t)) (take-append-drop m rest) (spelled_found kind (take m rest) (drop m rest) is))

-- WHAT IS FOUND IS SPELLED

abbrev Good : List ℕ → Option (TokenKind × ℕ) → Type 0
Good text None = Unit {0}
Good text (Some f) = (0 < f.1) × (f.1 ≤ length text) × IsSpelling f.0 (take f.1 text)

good_if : (text : List ℕ) (b : Bool) (x y : Option (TokenKind × ℕ)) → (b ≡ true → Good text x) → (b ≡ false → Good text y) → Good text (if b then x else y)
good_if text true x y f g = f refl
good_if text false x y f g = g refl

same_texts : (xs ys : List ℕ) → pointwise nat_eq xs ys ≡ true → xs ≡ ys
same_texts [] [] h = refl
same_texts [] (y ∷ ys) h = cc
same_texts (x ∷ xs) [] h = cc
same_texts (x ∷ xs) (y ∷ ys) h = let head = eqb-true x y (and_parts _ _ h).0 in let tail = same_texts xs ys (and_parts _ _ h).1 in cc

prefix_is : (text needle : List ℕ) → starts_with nat_eq text needle ≡ true → take (length needle) text ≡ needle
prefix_is text needle h = sym (same_texts needle (take (length needle) text) h)

prefix_within : (text needle : List ℕ) → starts_with nat_eq text needle ≡ true → length needle ≤ length text
prefix_within text needle h = omega (arith, ap length (prefix_is text needle h), length-take (length needle) text)

run_all : (p : ℕ → Bool) (xs : List ℕ) → list_all p (take (prefix_len p xs) xs) ≡ true
run_all p [] = refl
run_all p (x ∷ xs) = by_first (p x) refl (run_all p xs)
  where
    by_first : (b : Bool) → p x ≡ b → list_all p (take (prefix_len p xs) xs) ≡ true → list_all p (take (if b then 1 + prefix_len p xs else 0) (x ∷ xs)) ≡ true
    by_first true e rest = ap (λ k. list_all p (take k (x ∷ xs))) (one_plus (prefix_len p xs)) ∙ both_true e rest
    by_first false e rest = refl

run_good : (p : ℕ → Bool) (xs : List ℕ) → 0 < prefix_len p xs → IsRunOf p (take (prefix_len p xs) xs)
run_good p xs some = (omega (arith, length-prefix_len p xs), run_all p xs)

word_good : (c : ℕ) (cs : List ℕ) → is_word c ≡ true → Good (c ∷ cs) (word_at (c ∷ cs))
unfolding word_at
word_good c cs word = good_if (c ∷ cs) (starts_with nat_eq (c ∷ cs) (codes "null-ranking")) _ _
    (λ h. (omega arith, prefix_within (c ∷ cs) (codes "null-ranking") h, subst (Contains marks) (sym (prefix_is (c ∷ cs) (codes "null-ranking") h)) (12, omega arith, refl)))
    (λ h. let some : 0 < prefix_len is_word (c ∷ cs) = rw word (omega arith) in (some, prefix_len-le-length is_word (c ∷ cs), run_good is_word (c ∷ cs) some))

-- a character that is there is within
there : (xs : List ℕ) (n y : ℕ) → slice_index xs n ≡ suc y → n < length xs
there xs n y is = by_order (nat_lt n (length xs)) refl
  where
    by_order : (b : Bool) → nat_lt n (length xs) ≡ b → n < length xs
    by_order true less = ltb-true n _ less
    by_order false more = absurd (omega (arith, get_or_past xs n 0 (ltb-false n _ more)))

-- the prefix up to a character after another
prefix_to : (a : ℕ) (cs : List ℕ) (n y : ℕ) → slice_index (a ∷ cs) (1 + n) ≡ suc y → (n < length cs) × (take (2 + n) (a ∷ cs) ≡ a ∷ (take n cs ++ suc y ∷ []))
prefix_to a cs n y is =
    let here : slice_index cs n ≡ suc y = ap (slice_index (a ∷ cs)) (sym (one_plus n)) ∙ is in
    let within = there cs n y here in
    (within, ap (λ k. take k (a ∷ cs)) (two_plus n) ∙ ap (λ l. a ∷ l) (take-suc cs n 0 within ∙ ap (λ x. take n cs ++ x ∷ []) here))

angle_good : (cs : List ℕ) → Good (60 ∷ cs) (angle_at (60 ∷ cs))
unfolding angle_at
angle_good cs = good_if (60 ∷ cs) ((slice_index (60 ∷ cs) (1 + prefix_len is_angle_character cs) == 62) && list_any is_word (take (prefix_len is_angle_character cs) cs)) (Some (Angle, 2 + prefix_len is_angle_character cs)) None
    (λ h.
    let parts = and_parts _ _ h in
    let n = prefix_len is_angle_character cs in
    let prefix = prefix_to 60 cs n 61 (eqb-true _ _ parts.0) in
    (omega arith, omega (arith, prefix.0), (take n cs, prefix.1, run_all is_angle_character cs, parts.1)))
    (λ h. tt)

modifier_good : (text : List ℕ) → (modifier_at text ≤ length text) × IsModifier (take (modifier_at text) text)
unfolding modifier_at
modifier_good text = by_three (starts_with nat_eq text (codes ":ic")) (starts_with nat_eq text (codes ":i")) refl refl
  where
    by_three : (b d : Bool) → starts_with nat_eq text (codes ":ic") ≡ b → starts_with nat_eq text (codes ":i") ≡ d → ((if b then 3 else (if d then 2 else 0)) ≤ length text) × IsModifier (take (if b then 3 else (if d then 2 else 0)) text)
    by_three true d h k = (prefix_within text (codes ":ic") h, subst IsModifier (sym (prefix_is text (codes ":ic") h)) (2, omega arith, refl))
    by_three false true h k = (prefix_within text (codes ":i") k, subst IsModifier (sym (prefix_is text (codes ":i") k)) (1, omega arith, refl))
    by_three false false h k = (omega arith, (0, omega arith, refl))

quote_good : (cs : List ℕ) → Good (39 ∷ cs) (quote_at (39 ∷ cs))
unfolding quote_at
quote_good cs = good_if (39 ∷ cs) (nat_lt 0 (prefix_len is_quotable cs) && (slice_index (39 ∷ cs) (1 + prefix_len is_quotable cs) == 39)) (Some (Quote, 2 + prefix_len is_quotable cs + modifier_at (drop (2 + prefix_len is_quotable cs) (39 ∷ cs)))) None
    (λ h.
    let parts = and_parts _ _ h in
    let n = prefix_len is_quotable cs in
    let prefix = prefix_to 39 cs n 38 (eqb-true _ _ parts.1) in
    let modifier = modifier_good (drop (2 + n) (39 ∷ cs)) in
    let m = modifier_at (drop (2 + n) (39 ∷ cs)) in (
      omega arith,
      omega (arith, prefix.0, modifier.0, length-drop (2 + n) (39 ∷ cs)),
      (take n cs, take m (drop (2 + n) (39 ∷ cs)), take-add (2 + n) m (39 ∷ cs) ∙ ap (λ l. l ++ take m (drop (2 + n) (39 ∷ cs))) prefix.1, run_good is_quotable cs (ltb-true 0 _ parts.0), modifier.1),
    ))
    (λ h. tt)

bracket_good : (cs : List ℕ) → Good (91 ∷ cs) (bracket_at (91 ∷ cs))
unfolding bracket_at
bracket_good cs = by_end (closing cs Plain) refl
  where
    by_end : (o : Option ℕ) → closing cs Plain ≡ o → Good (91 ∷ cs) (option_map (λ len. (Bracket, 1 + len + modifier_at (drop (1 + len) (91 ∷ cs)))) o)
    by_end None e = tt
    by_end (Some len) e =
        let within = closing_within cs Plain len e in
        let modifier = modifier_good (drop (1 + len) (91 ∷ cs)) in
        let m = modifier_at (drop (1 + len) (91 ∷ cs)) in
        let prefix : take (1 + len) (91 ∷ cs) ≡ 91 ∷ take len cs = ap (λ k. take k (91 ∷ cs)) (one_plus len) in (
          omega arith,
          omega (arith, within.1, modifier.0, length-drop (1 + len) (91 ∷ cs)),
          (take len cs, take m (drop (1 + len) (91 ∷ cs)), take-add (1 + len) m (91 ∷ cs) ∙ ap (λ l. l ++ take m (drop (1 + len) (91 ∷ cs))) prefix, closing_self cs Plain len e ∙ ap Some (sym (length-take-le len cs within.1)), modifier.1),
        )

pseudo_good : (cs : List ℕ) → Good (58 ∷ cs) (if nat_lt 0 (prefix_len is_word cs) then Some (Pseudo, 1 + prefix_len is_word cs) else None)
pseudo_good cs = good_if (58 ∷ cs) (nat_lt 0 (prefix_len is_word cs)) (Some (Pseudo, 1 + prefix_len is_word cs)) None
    (λ h. (omega arith, omega (arith, prefix_len-le-length is_word cs), (take (prefix_len is_word cs) cs, ap (λ k. take k (58 ∷ cs)) (one_plus (prefix_len is_word cs)), run_good is_word cs (ltb-true 0 _ h))))
    (λ h. tt)

reserved_good : (cs : List ℕ) → Good (58 ∷ 58 ∷ cs) (if nat_lt 0 (prefix_len is_word cs) then Some (Reserved, 2 + prefix_len is_word cs) else None)
reserved_good cs = good_if (58 ∷ 58 ∷ cs) (nat_lt 0 (prefix_len is_word cs)) (Some (Reserved, 2 + prefix_len is_word cs)) None
    (λ h. (omega arith, omega (arith, prefix_len-le-length is_word cs), (take (prefix_len is_word cs) cs, ap (λ k. take k (58 ∷ 58 ∷ cs)) (two_plus (prefix_len is_word cs)), run_good is_word cs (ltb-true 0 _ h))))
    (λ h. tt)

two_colons : (cs : List ℕ) → Good (58 ∷ 58 ∷ cs) (if slice_index cs 0 == 61 then Some (Mark, 3) else (if nat_lt 0 (prefix_len is_word cs) then Some (Reserved, 2 + prefix_len is_word cs) else None))
two_colons [] = tt
two_colons (d ∷ ds) = good_if (58 ∷ 58 ∷ d ∷ ds) (d == 61) (Some (Mark, 3)) (if nat_lt 0 (prefix_len is_word (d ∷ ds)) then Some (Reserved, 2 + prefix_len is_word (d ∷ ds)) else None)
    (λ e. (omega arith, omega arith, (0, omega arith, ap (λ x. 58 ∷ 58 ∷ x ∷ []) (sym (eqb-true d 61 e)))))
    (λ e. reserved_good (d ∷ ds))

colon_good : (cs : List ℕ) → Good (58 ∷ cs) (colon_at (58 ∷ cs))
unfolding colon_at
colon_good [] = tt
colon_good (d ∷ ds) = good_if (58 ∷ d ∷ ds) (d == 58) (if slice_index ds 0 == 61 then Some (Mark, 3) else (if nat_lt 0 (prefix_len is_word ds) then Some (Reserved, 2 + prefix_len is_word ds) else None)) (if nat_lt 0 (prefix_len is_word (d ∷ ds)) then Some (Pseudo, 1 + prefix_len is_word (d ∷ ds)) else None)
    (λ e. subst (λ x. Good (58 ∷ x ∷ ds) (if slice_index ds 0 == 61 then Some (Mark, 3) else (if nat_lt 0 (prefix_len is_word ds) then Some (Reserved, 2 + prefix_len is_word ds) else None))) (sym (eqb-true d 58 e)) (two_colons ds))
    (λ e. pseudo_good (d ∷ ds))

sign_good : (c : ℕ) (cs : List ℕ) → (c ≡ 43) ⊎ (c ≡ 45) → Good (c ∷ cs) (sign_at (c ∷ cs))
unfolding sign_at
sign_good c cs which = good_if (c ∷ cs) (nat_lt 0 (prefix_len is_ascii_digit cs)) (Some (Signed, 1 + prefix_len is_ascii_digit cs)) (if c == 43 then Some (Mark, 1) else None)
    (λ h. (omega arith, omega (arith, prefix_len-le-length is_ascii_digit cs), (c, take (prefix_len is_ascii_digit cs) cs, ap (λ k. take k (c ∷ cs)) (one_plus (prefix_len is_ascii_digit cs)), which, run_good is_ascii_digit cs (ltb-true 0 _ h))))
    (λ h. good_if (c ∷ cs) (c == 43) (Some (Mark, 1)) None (λ plus. (omega arith, omega arith, (9, omega arith, ap (λ x. x ∷ []) (sym (eqb-true c 43 plus))))) (λ other. tt))

bar_good : (cs : List ℕ) → Good (124 ∷ cs) (if slice_index cs 0 == 124 then Some (Mark, 2) else Some (Mark, 1))
bar_good [] = (omega arith, omega arith, (2, omega arith, refl))
bar_good (d ∷ ds) = good_if (124 ∷ d ∷ ds) (d == 124) (Some (Mark, 2)) (Some (Mark, 1))
    (λ e. (omega arith, omega arith, (3, omega arith, ap (λ x. 124 ∷ x ∷ []) (sym (eqb-true d 124 e)))))
    (λ e. (omega arith, omega arith, (2, omega arith, refl)))

equals_good : (cs : List ℕ) → Good (61 ∷ cs) (if slice_index cs 0 == 62 then Some (Mark, 2) else Some (Mark, 1))
equals_good [] = (omega arith, omega arith, (5, omega arith, refl))
equals_good (d ∷ ds) = good_if (61 ∷ d ∷ ds) (d == 62) (Some (Mark, 2)) (Some (Mark, 1))
    (λ e. (omega arith, omega arith, (4, omega arith, ap (λ x. 61 ∷ x ∷ []) (sym (eqb-true d 62 e)))))
    (λ e. (omega arith, omega arith, (5, omega arith, refl)))

single_good : (c : ℕ) (cs : List ℕ) → list_any (λ d. d == c) (codes "~()*,;") ≡ true → Good (c ∷ cs) (Some (Mark, 1))
single_good c cs h =
    ⊎_elim (λ e. on 126 e (1, omega arith, refl)) (λ h1.
    ⊎_elim (λ e. on 40 e (6, omega arith, refl)) (λ h2.
    ⊎_elim (λ e. on 41 e (7, omega arith, refl)) (λ h3.
    ⊎_elim (λ e. on 42 e (8, omega arith, refl)) (λ h4.
    ⊎_elim (λ e. on 44 e (10, omega arith, refl)) (λ h5.
    ⊎_elim (λ e. on 59 e (11, omega arith, refl)) (λ h6. absurd (impossible h6)) (or_cases (59 == c) false h5))
    (or_cases (44 == c) _ h4)) (or_cases (42 == c) _ h3)) (or_cases (41 == c) _ h2)) (or_cases (40 == c) _ h1)) (or_cases (126 == c) _ h)
  where
    impossible : false ≡ true → ⊥
    impossible e = absurd cc

    on : (d : ℕ) → (d == c) ≡ true → Contains marks (d ∷ []) → Good (c ∷ cs) (Some (Mark, 1))
    on d e is = (omega arith, omega arith, subst (λ x. Contains marks (x ∷ [])) (eqb-true d c e) is)

mark_good : (c : ℕ) (cs : List ℕ) → Good (c ∷ cs) (mark_at (c ∷ cs))
unfolding mark_at
mark_good c cs =
    good_if (c ∷ cs) (c == 124) (if slice_index cs 0 == 124 then Some (Mark, 2) else Some (Mark, 1)) (if c == 61 then (if slice_index cs 0 == 62 then Some (Mark, 2) else Some (Mark, 1)) else (if list_any (λ d. d == c) (codes "~()*,;") then Some (Mark, 1) else None))
    (λ e. subst (λ x. Good (x ∷ cs) (if slice_index cs 0 == 124 then Some (Mark, 2) else Some (Mark, 1))) (sym (eqb-true c 124 e)) (bar_good cs)) (λ _.
    good_if (c ∷ cs) (c == 61) (if slice_index cs 0 == 62 then Some (Mark, 2) else Some (Mark, 1)) (if list_any (λ d. d == c) (codes "~()*,;") then Some (Mark, 1) else None)
    (λ e. subst (λ x. Good (x ∷ cs) (if slice_index cs 0 == 62 then Some (Mark, 2) else Some (Mark, 1))) (sym (eqb-true c 61 e)) (equals_good cs)) (λ _.
    good_if (c ∷ cs) (list_any (λ d. d == c) (codes "~()*,;")) (Some (Mark, 1)) None (single_good c cs) (λ _. tt)))

token_good : (c : ℕ) (cs : List ℕ) → Good (c ∷ cs) (token_at (c ∷ cs))
unfolding token_at
token_good c cs =
    good_if (c ∷ cs) (is_word c) _ _ (word_good c cs) (λ _.
    good_if (c ∷ cs) (c == 60) _ _ (λ e. subst (λ x. Good (x ∷ cs) (angle_at (x ∷ cs))) (sym (eqb-true c 60 e)) (angle_good cs)) (λ _.
    good_if (c ∷ cs) (c == 39) _ _ (λ e. subst (λ x. Good (x ∷ cs) (quote_at (x ∷ cs))) (sym (eqb-true c 39 e)) (quote_good cs)) (λ _.
    good_if (c ∷ cs) (c == 91) _ _ (λ e. subst (λ x. Good (x ∷ cs) (bracket_at (x ∷ cs))) (sym (eqb-true c 91 e)) (bracket_good cs)) (λ _.
    good_if (c ∷ cs) (c == 58) _ _ (λ e. subst (λ x. Good (x ∷ cs) (colon_at (x ∷ cs))) (sym (eqb-true c 58 e)) (colon_good cs)) (λ _.
    good_if (c ∷ cs) ((c == 43) || (c == 45)) _ _ (λ e. sign_good c cs (⊎_elim (λ p. inl (eqb-true c 43 p)) (λ m. inr (eqb-true c 45 m)) (or_cases _ _ e))) (λ _. mark_good c cs))))))

pub found_spelled : (text : List ℕ) (kind : TokenKind) (len : ℕ) → 0 < length text → token_at text ≡ Some (kind, len) → (0 < len) × (len ≤ length text) × IsSpelling kind (take len text)
found_spelled [] kind len some found = absurd (omega arith)
found_spelled (c ∷ cs) kind len some found = subst (Good (c ∷ cs)) found (token_good c cs)

-- AT A PLACE OF A TEXT

pub IsLongest-found : (text : List ℕ) (at : ℕ) (kind : TokenKind) (len : ℕ) → at < length text → token_at (drop at text) ≡ Some (kind, len) → IsLongest text (record { kind = kind; from = at; to = at + len })
IsLongest-found text at kind len within found =
    let rest_is : length (drop at text) ≡ length text - at = length-drop at text in
    let parts = found_spelled (drop at text) kind len (omega arith) found in
    record {
      some = omega (arith, parts.0);
      within = omega (arith, parts.1);
      spelled = subst (λ n. IsSpelling kind (take n (drop at text))) (omega arith) parts.2;
      longest = λ other to after to_within is.
          let bound = subst (Bounded other (to - at)) found (bounded_at (drop at text) (to - at) other (omega arith) is) in
          omega (arith, bound.0);
    }

pub none_found : (text : List ℕ) (at : ℕ) → at < length text → token_at (drop at text) ≡ None → (kind : TokenKind) (to : ℕ) → at < to → to ≤ length text → IsSpelling kind (slice_range text at to) → ⊥
none_found text at within none kind to after within_text is =
    let rest_is : length (drop at text) ≡ length text - at = length-drop at text in
    subst (Bounded kind (to - at)) none (bounded_at (drop at text) (to - at) kind (omega arith) is)

-- ONE LIST OF TOKENS

-- what is found where a longest token stands is that token
found_is : (text : List ℕ) (t : Token) → IsLongest text t → (kind : TokenKind) (len : ℕ) → token_at (drop t.from text) ≡ Some (kind, len) → (len ≡ t.to - t.from) × (t.kind ≡ kind)
found_is text t l kind len e =
    let rest_is = length-drop t.from text in
    let bound : Bounded t.kind (t.to - t.from) (Some (kind, len)) = subst (Bounded t.kind (t.to - t.from)) e (bounded_at (drop t.from text) (t.to - t.from) t.kind (omega (arith, l.some, l.within)) l.spelled) in
    let good = found_spelled (drop t.from text) kind len (omega (arith, l.some, l.within)) e in
    let same : len ≡ t.to - t.from = by_order (nat_lt (t.to - t.from) len) refl bound.0 good.1 good.2 rest_is in
    (same, bound.1 (sym same))
  where
    by_order : (b : Bool) → nat_lt (t.to - t.from) len ≡ b → t.to - t.from ≤ len → len ≤ length (drop t.from text) → IsSpelling kind (take len (drop t.from text)) → length (drop t.from text) ≡ length text - t.from → len ≡ t.to - t.from
    by_order true more least most spelled rest_is =
        let longer = ltb-true (t.to - t.from) len more in
        let n_is : len ≡ t.from + len - t.from = omega arith in
        absurd (l.longest kind (t.from + len) (omega (arith, l.some)) (omega (arith, l.some, l.within)) (subst (λ n. IsSpelling kind (take n (drop t.from text))) n_is spelled))
    by_order false less least most spelled rest_is = let fewer = ltb-false (t.to - t.from) len less in omega arith

-- something is found where a longest token stands
some_found : (text : List ℕ) (t : Token) → IsLongest text t → token_at (drop t.from text) ≡ None → ⊥
some_found text t l e =
    let rest_is = length-drop t.from text in
    subst (Bounded t.kind (t.to - t.from)) e (bounded_at (drop t.from text) (t.to - t.from) t.kind (omega (arith, l.some, l.within)) l.spelled)

same_pair : (k j : TokenKind) (m n : ℕ) → k ≡ j → m ≡ n → (let p : TokenKind × ℕ = (k, m) in p) ≡ (j, n)
same_pair k j m n e g = cc

pub longest_found : (text : List ℕ) (t : Token) → IsLongest text t → token_at (drop t.from text) ≡ Some (t.kind, t.to - t.from)
longest_found text t l = by_found (token_at (drop t.from text)) refl
  where
    by_found : (o : Option (TokenKind × ℕ)) → token_at (drop t.from text) ≡ o → token_at (drop t.from text) ≡ Some (t.kind, t.to - t.from)
    by_found None e = absurd (some_found text t l e)
    by_found (Some f) e = let is = found_is text t l f.0 f.1 e in e ∙ ap Some (same_pair f.0 t.kind f.1 (t.to - t.from) (sym is.1) is.0)
