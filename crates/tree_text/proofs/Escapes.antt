-- Characters as they stand inside quotes: what an escape begins with, and what it tells.
use Rattle.std.proofs.Common.{◌≡◌, ◌≢◌, ℕ, ◌+◌, ◌*◌, ◌/◌, ◌%◌, ◌<◌, Bool, true, false, not, ◌&&◌, ◌||◌, ◌==◌, cond, List, [], ◌∷◌, ◌++◌, length, codes, refl, sym, ap, ◌∙◌, arith, subst, append-nil, length-append}
use Rattle.std.specs.Char.{encode_utf8}
use Rattle.std.proofs.lemmas.Str.{encode_same, encode_ascii, length-encode, len_utf8_bounds}
use Rattle.std.proofs.lemmas.Bool.{eqb-true}
use Rattle.std.proofs.lemmas.Bool.Decides.{nat_tests}
use Rattle.grammar_model.specs.Text.{escaped, hex_digit, is_control}
use Rattle.tree_text.specs.Prefixes.{NeverBegins, HasNoCharacter, has_code}

-- a text that begins with a character begins with no other
pub never_empty : (text : List ℕ) (c : ℕ) → text ≡ [] → NeverBegins text (encode_utf8 c)
never_empty text c e r is =
    let none : [] ≡ encode_utf8 c ++ r = sym e ∙ is in
    absurd (omega (arith, ap length none, length-append (encode_utf8 c) r, length-encode c, (len_utf8_bounds c).0))

pub never_other : (text rest : List ℕ) (d c : ℕ) → text ≡ encode_utf8 d ++ rest → d ≢ c → NeverBegins text (encode_utf8 c)
never_other text rest d c e other r is = other ((encode_same d c rest r (sym e ∙ is)).0)

pub encode_small : (c : ℕ) (rest : List ℕ) → c < 128 → c ∷ rest ≡ encode_utf8 c ++ rest
encode_small c rest h = ap (λ b. b ++ rest) (sym (encode_ascii c h))

pub begins_small : (text rest : List ℕ) (c : ℕ) → c < 128 → text ≡ encode_utf8 c ++ rest → text ≡ c ∷ rest
begins_small text rest c h e = e ∙ sym (encode_small c rest h)

pub never_small : (text : List ℕ) (c : ℕ) → c < 128 → NeverBegins text (encode_utf8 c) → NeverBegins text (c ∷ [])
never_small text c h never r is = never r (is ∙ encode_small c r h)

-- a character that stands after a backslash in the same way
abbrev pub is_marked : ℕ → Bool
is_marked c = (c == 92) || ((c == 34) || ((c == 36) || (c == 64)))

-- what stands after a backslash, but for codes
abbrev pub is_letter : ℕ → Bool
is_letter c = is_marked c || ((c == 110) || ((c == 114) || (c == 116)))

abbrev pub coded : ℕ → ℕ → List ℕ
coded high low = 92 ∷ 120 ∷ 123 ∷ high ∷ low ∷ 125 ∷ []

-- what a letter tells
abbrev meant : ℕ → ℕ
meant letter = cond (letter == 110) 10 (cond (letter == 114) 13 (cond (letter == 116) 9 letter))

marked_meant : (c : ℕ) → is_marked c ≡ true → c ≡ meant c
marked_meant c e = grind (arith, nat_tests)

data Shape (c : ℕ) : Type 0 where
  Short : (letter : ℕ) → escaped c ≡ 92 ∷ letter ∷ [] → is_letter letter ≡ true → c ≡ meant letter → Shape c
  Long : escaped c ≡ coded (hex_digit (c / 16)) (hex_digit (c % 16)) → has_code c ≡ true → Shape c
  Plain : escaped c ≡ encode_utf8 c → is_marked c ≡ false → is_control c ≡ false → Shape c

abbrev escaped_by : (m n r t k : Bool) → ℕ → List ℕ
escaped_by m n r t k c =
    cond m (92 ∷ c ∷ []) (cond n (codes "\\n") (cond r (codes "\\r") (cond t (codes "\\t") (cond k (codes "\\x{" ++ hex_digit (c / 16) ∷ hex_digit (c % 16) ∷ 125 ∷ []) (encode_utf8 c)))))

shape_by : (c : ℕ) (m n r t k : Bool) → is_marked c ≡ m → (c == 10) ≡ n → (c == 13) ≡ r → (c == 9) ≡ t → is_control c ≡ k → escaped c ≡ escaped_by m n r t k c → Shape c
shape_by c true n r t k em en er et ek is = Short c is (λ i. em i || ((c == 110) || ((c == 114) || (c == 116)))) (marked_meant c em)
shape_by c false true r t k em en er et ek is = Short 110 is refl (eqb-true c 10 en)
shape_by c false false true t k em en er et ek is = Short 114 is refl (eqb-true c 13 er)
shape_by c false false false true k em en er et ek is = Short 116 is refl (eqb-true c 9 et)
shape_by c false false false false true em en er et ek is = Long is (λ i. ek i && not (en i || (er i || et i)))
shape_by c false false false false false em en er et ek is = Plain is em ek

shape : (c : ℕ) → Shape c
shape c = shape_by c (is_marked c) (c == 10) (c == 13) (c == 9) (is_control c) refl refl refl refl refl refl

marked_not : (c : ℕ) → is_marked c ≡ false → c ≢ 92
marked_not c m e = let bad : true ≡ false = subst (λ x. is_marked x ≡ false) e m in cc

-- a coded escape tells its code
pub record IsCoded (c high low : ℕ) : Type 0 where
  pub high_is : hex_digit (c / 16) ≡ high
  pub low_is : hex_digit (c % 16) ≡ low
  pub code : has_code c ≡ true

pub coded_is : (c high low : ℕ) → escaped c ≡ coded high low → IsCoded c high low
unfolding encode_utf8
coded_is c high low e =
    elim (shape c) [
      | Short letter is known told ↦ let both : 92 ∷ letter ∷ [] ≡ coded high low = sym is ∙ e in cc
      | Long is code ↦ let both : coded (hex_digit (c / 16)) (hex_digit (c % 16)) ≡ coded high low = sym is ∙ e in record { high_is = cc; low_is = cc; code = code }
      | Plain is plain other ↦
          let both : encode_utf8 c ++ [] ≡ encode_utf8 92 ++ 120 ∷ 123 ∷ high ∷ low ∷ 125 ∷ [] = append-nil (encode_utf8 c) ∙ sym is ∙ e in
          absurd (marked_not c plain ((encode_same c 92 [] (120 ∷ 123 ∷ high ∷ low ∷ 125 ∷ []) both).0))
    ]

pub code_small : (c : ℕ) → has_code c ≡ true → c < 160
code_small c e = grind (arith, nat_tests)

pub hex_small : (n : ℕ) → n < 16 → hex_digit n < 128
hex_small n h = grind (arith, nat_tests)

pub hex_same : (m n : ℕ) → m < 16 → n < 16 → hex_digit m ≡ hex_digit n → m ≡ n
hex_same m n p q e = grind (arith, nat_tests)

-- digits that are none tell no character
pub no_high : (high low : ℕ) → ((n : ℕ) → n < 16 → hex_digit n ≢ high) → (c : ℕ) → escaped c ≢ coded high low
no_high high low none c e =
    let is = coded_is c high low e in
    let small : c < 160 = code_small c is.code in
    none (c / 16) (omega arith) is.high_is

pub no_low : (high low : ℕ) → ((n : ℕ) → n < 16 → hex_digit n ≢ low) → (c : ℕ) → escaped c ≢ coded high low
no_low high low none c e =
    let is = coded_is c high low e in
    let below : c % 16 < 16 = omega arith in
    none (c % 16) below is.low_is

-- and so does the code of a character whose escape is another one
pub no_code : (high low m n code : ℕ) → m < 16 → hex_digit m ≡ high → n < 16 → hex_digit n ≡ low → code ≡ 16 * m + n → has_code code ≡ false → (c : ℕ) → escaped c ≢ coded high low
no_code high low m n code p h q l is none c e =
    let it = coded_is c high low e in
    let small : c < 160 = code_small c it.code in
    let above : c / 16 < 16 = omega arith in
    let below : c % 16 < 16 = omega arith in
    let first : c / 16 ≡ m = hex_same (c / 16) m above p (it.high_is ∙ sym h) in
    let second : c % 16 ≡ n = hex_same (c % 16) n below q (it.low_is ∙ sym l) in
    let same : code ≡ c = omega arith in
    let bad : true ≡ false = sym it.code ∙ ap has_code (sym same) ∙ none in cc

code_not_marked : (c : ℕ) → has_code c ≡ true → is_marked c ≡ false
code_not_marked c e = grind (arith, nat_tests)

code_not_lf : (c : ℕ) → has_code c ≡ true → (c == 10) ≡ false
code_not_lf c e = grind (arith, nat_tests)

code_not_cr : (c : ℕ) → has_code c ≡ true → (c == 13) ≡ false
code_not_cr c e = grind (arith, nat_tests)

code_not_tab : (c : ℕ) → has_code c ≡ true → (c == 9) ≡ false
code_not_tab c e = grind (arith, nat_tests)

code_is_control : (c : ℕ) → has_code c ≡ true → is_control c ≡ true
code_is_control c e = grind (arith, nat_tests)

pub some_code : (high low m n code : ℕ) → m < 16 → hex_digit m ≡ high → n < 16 → hex_digit n ≡ low → code ≡ 16 * m + n → has_code code ≡ true → escaped code ≡ coded high low
some_code high low m n code p h q l is some =
    let first : code / 16 ≡ m = omega arith in
    let second : code % 16 ≡ n = omega arith in
    (λ i. escaped_by (code_not_marked code some i) (code_not_lf code some i) (code_not_cr code some i) (code_not_tab code some i) (code_is_control code some i) code)
    ∙ (λ i. coded (hex_digit (first i)) (hex_digit (second i))) ∙ (λ i. coded (h i) (l i))

-- what is after a backslash where an escape begins with it
pub data Escape (text : List ℕ) (c : ℕ) (rest : List ℕ) : Type 0 where
  ShortEscape : (letter : ℕ) → text ≡ letter ∷ rest → is_letter letter ≡ true → Escape text c rest
  LongEscape : text ≡ 120 ∷ 123 ∷ hex_digit (c / 16) ∷ hex_digit (c % 16) ∷ 125 ∷ rest → escaped c ≡ coded (hex_digit (c / 16)) (hex_digit (c % 16)) → c < 160 → Escape text c rest

pub escape_of : (text rest : List ℕ) (c : ℕ) → 92 ∷ text ≡ escaped c ++ rest → Escape text c rest
unfolding encode_utf8
escape_of text rest c e =
    elim (shape c) [
      | Short letter is known told ↦ let both : 92 ∷ text ≡ 92 ∷ letter ∷ rest = e ∙ ap (λ b. b ++ rest) is in ShortEscape letter (cc) known
      | Long is code ↦
          let both : 92 ∷ text ≡ 92 ∷ 120 ∷ 123 ∷ hex_digit (c / 16) ∷ hex_digit (c % 16) ∷ 125 ∷ rest = e ∙ ap (λ b. b ++ rest) is in
          LongEscape (cc) is (code_small c code)
      | Plain is plain other ↦
          let both : encode_utf8 92 ++ text ≡ encode_utf8 c ++ rest = e ∙ ap (λ b. b ++ rest) is in
          absurd (marked_not c plain (sym ((encode_same 92 c text rest both).0)))
    ]

letter_small : (c : ℕ) → is_letter c ≡ true → c < 128
letter_small c e = grind (arith, nat_tests)

-- the first character after a backslash
pub no_escape : (text rest : List ℕ) (d : ℕ) → text ≡ encode_utf8 d ++ rest → is_letter d ≡ false → d ≢ 120 → HasNoCharacter (92 ∷ text)
unfolding encode_utf8
no_escape text rest d e unknown other c r is =
    elim (escape_of text r c is) [
      | ShortEscape letter begins known ↦
          let both : encode_utf8 d ++ rest ≡ encode_utf8 letter ++ r = sym e ∙ begins ∙ encode_small letter r (letter_small letter known) in
          let bad : true ≡ false = sym known ∙ ap is_letter (sym ((encode_same d letter rest r both).0)) ∙ unknown in cc
      | LongEscape begins long small ↦
          other ((encode_same d 120 rest (123 ∷ hex_digit (c / 16) ∷ hex_digit (c % 16) ∷ 125 ∷ r) (sym e ∙ begins)).0)
    ]

pub no_escape_end : (text : List ℕ) → text ≡ [] → HasNoCharacter (92 ∷ text)
no_escape_end text e c r is =
    elim (escape_of text r c is) [
      | ShortEscape letter begins known ↦ let bad : [] ≡ letter ∷ r = sym e ∙ begins in cc
      | LongEscape begins long small ↦ let bad : [] ≡ 120 ∷ 123 ∷ hex_digit (c / 16) ∷ hex_digit (c % 16) ∷ 125 ∷ r = sym e ∙ begins in cc
    ]

-- a letter after a backslash
pub letter_begins : (text rest : List ℕ) (d letter : ℕ) → text ≡ encode_utf8 d ++ rest → d ≡ letter → letter < 128 → text ≡ letter ∷ rest
letter_begins text rest d letter e same small = begins_small text rest letter small (e ∙ ap (λ c. encode_utf8 c ++ rest) same)

pub letter_escape : (text rest : List ℕ) (d letter c : ℕ) → text ≡ encode_utf8 d ++ rest → d ≡ letter → letter < 128 → escaped c ≡ 92 ∷ letter ∷ [] → 92 ∷ text ≡ escaped c ++ rest
letter_escape text rest d letter c e same small is = ap (λ l. 92 ∷ l) (letter_begins text rest d letter e same small) ∙ ap (λ l. l ++ rest) (sym is)

marked_small : (c : ℕ) → is_marked c ≡ true → c < 128
marked_small c e = grind (arith, nat_tests)

pub marked_escape : (text rest : List ℕ) (d : ℕ) → text ≡ encode_utf8 d ++ rest → is_marked d ≡ true → 92 ∷ text ≡ escaped d ++ rest
marked_escape text rest d e marked = letter_escape text rest d d d e refl (marked_small d marked) (λ i. escaped_by (marked i) (d == 10) (d == 13) (d == 9) (is_control d) d)

plain_not_lf : (c : ℕ) → is_control c ≡ false → (c == 10) ≡ false
plain_not_lf c e = grind (arith, nat_tests)

plain_not_cr : (c : ℕ) → is_control c ≡ false → (c == 13) ≡ false
plain_not_cr c e = grind (arith, nat_tests)

plain_not_tab : (c : ℕ) → is_control c ≡ false → (c == 9) ≡ false
plain_not_tab c e = grind (arith, nat_tests)

-- a character that stands for itself
pub plain_escape : (text rest : List ℕ) (d : ℕ) → text ≡ encode_utf8 d ++ rest → is_marked d ≡ false → is_control d ≡ false → text ≡ escaped d ++ rest
plain_escape text rest d e marked control =
    e ∙ ap (λ l. l ++ rest) (sym (λ i. escaped_by (marked i) (plain_not_lf d control i) (plain_not_cr d control i) (plain_not_tab d control i) (control i) d))

-- what is after `\x` where an escape begins with it
pub record Code (text : List ℕ) (c : ℕ) (rest : List ℕ) : Type 0 where
  pub high : ℕ
  pub low : ℕ
  pub high_small : high < 128
  pub low_small : low < 128
  pub begins : text ≡ 123 ∷ high ∷ low ∷ 125 ∷ rest
  pub is : escaped c ≡ coded high low

pub code_of : (text rest : List ℕ) (c : ℕ) → 92 ∷ 120 ∷ text ≡ escaped c ++ rest → Code text c rest
code_of text rest c e =
    elim (escape_of (120 ∷ text) rest c e) [
      | ShortEscape letter begins known ↦
          let same : 120 ≡ letter = cc in
          let bad : false ≡ true = ap is_letter same ∙ known in cc
      | LongEscape begins long small ↦
          let above : c / 16 < 16 = omega arith in
          let below : c % 16 < 16 = omega arith in
          record { high = hex_digit (c / 16); low = hex_digit (c % 16); high_small = hex_small (c / 16) above; low_small = hex_small (c % 16) below; begins = cc; is = long }
    ]

pub no_brace : (text : List ℕ) → NeverBegins text (123 ∷ []) → HasNoCharacter (92 ∷ 120 ∷ text)
no_brace text never c r is = let code = code_of text r c is in never (code.high ∷ code.low ∷ 125 ∷ r) code.begins

pub no_first : (text t1 : List ℕ) → text ≡ 123 ∷ t1 → t1 ≡ [] → HasNoCharacter (92 ∷ 120 ∷ text)
no_first text t1 e none c r is =
    let code = code_of text r c is in
    let bad : 123 ∷ [] ≡ 123 ∷ code.high ∷ code.low ∷ 125 ∷ r = ap (λ b. 123 ∷ b) (sym none) ∙ sym e ∙ code.begins in cc

tail_of : (text t1 : List ℕ) (c : ℕ) (r : List ℕ) (code : Code text c r) → text ≡ 123 ∷ t1 → t1 ≡ encode_utf8 code.high ++ (code.low ∷ 125 ∷ r)
tail_of text t1 c r code e =
    let both : 123 ∷ t1 ≡ 123 ∷ code.high ∷ code.low ∷ 125 ∷ r = sym e ∙ code.begins in
    let same : t1 ≡ code.high ∷ code.low ∷ 125 ∷ r = cc in
    same ∙ encode_small code.high (code.low ∷ 125 ∷ r) code.high_small

pub no_second : (text t1 t2 : List ℕ) (high : ℕ) → text ≡ 123 ∷ t1 → t1 ≡ encode_utf8 high ++ t2 → t2 ≡ [] → HasNoCharacter (92 ∷ 120 ∷ text)
no_second text t1 t2 high e f none c r is =
    let code = code_of text r c is in
    let left : t2 ≡ code.low ∷ 125 ∷ r = (encode_same high code.high t2 (code.low ∷ 125 ∷ r) (sym f ∙ tail_of text t1 c r code e)).1 in
    let bad : [] ≡ code.low ∷ 125 ∷ r = sym none ∙ left in cc

-- both digits and what is after them
record Digits (t3 : List ℕ) (high low c : ℕ) (r : List ℕ) : Type 0 where
  rest : t3 ≡ 125 ∷ r
  is : escaped c ≡ coded high low

digits_of : (text t1 t2 t3 : List ℕ) (high low : ℕ) → text ≡ 123 ∷ t1 → t1 ≡ encode_utf8 high ++ t2 → t2 ≡ encode_utf8 low ++ t3 →
    (c : ℕ) (r : List ℕ) → 92 ∷ 120 ∷ text ≡ escaped c ++ r → Digits t3 high low c r
digits_of text t1 t2 t3 high low e f g c r is =
    let code = code_of text r c is in
    let first = encode_same high code.high t2 (code.low ∷ 125 ∷ r) (sym f ∙ tail_of text t1 c r code e) in
    let second = encode_same low code.low t3 (125 ∷ r) (sym g ∙ first.1 ∙ encode_small code.low (125 ∷ r) code.low_small) in
    record { rest = second.1; is = code.is ∙ (λ i. coded (sym first.0 i) (sym second.0 i)) }

pub no_end : (text t1 t2 t3 : List ℕ) (high low : ℕ) → text ≡ 123 ∷ t1 → t1 ≡ encode_utf8 high ++ t2 → t2 ≡ encode_utf8 low ++ t3 → NeverBegins t3 (125 ∷ []) → HasNoCharacter (92 ∷ 120 ∷ text)
no_end text t1 t2 t3 high low e f g never c r is = never r ((digits_of text t1 t2 t3 high low e f g c r is).rest)

pub no_control : (text t1 t2 t3 : List ℕ) (high low : ℕ) → text ≡ 123 ∷ t1 → t1 ≡ encode_utf8 high ++ t2 → t2 ≡ encode_utf8 low ++ t3 → ((c : ℕ) → escaped c ≢ coded high low) → HasNoCharacter (92 ∷ 120 ∷ text)
no_control text t1 t2 t3 high low e f g none c r is = none c ((digits_of text t1 t2 t3 high low e f g c r is).is)

pub some_control : (text t1 t2 t3 rest : List ℕ) (high low c : ℕ) → text ≡ 123 ∷ t1 → t1 ≡ encode_utf8 high ++ t2 → t2 ≡ encode_utf8 low ++ t3 → t3 ≡ 125 ∷ rest → escaped c ≡ coded high low → 92 ∷ 120 ∷ text ≡ escaped c ++ rest
some_control text t1 t2 t3 rest high low c e f g h is =
    let code = coded_is c high low is in
    let small : c < 160 = code_small c code.code in
    let above : c / 16 < 16 = omega arith in
    let below : c % 16 < 16 = omega arith in
    let high_small : high < 128 = subst (λ x. x < 128) code.high_is (hex_small (c / 16) above) in
    let low_small : low < 128 = subst (λ x. x < 128) code.low_is (hex_small (c % 16) below) in
    let second : t2 ≡ low ∷ 125 ∷ rest = g ∙ sym (encode_small low t3 low_small) ∙ ap (λ b. low ∷ b) h in
    let first : t1 ≡ high ∷ low ∷ 125 ∷ rest = f ∙ sym (encode_small high t2 high_small) ∙ ap (λ b. high ∷ b) second in
    ap (λ b. 92 ∷ 120 ∷ b) (e ∙ ap (λ b. 123 ∷ b) first) ∙ ap (λ b. b ++ rest) (sym is)

-- the first character inside quotes
pub data First (d c : ℕ) : Type 0 where
  Escaped : d ≡ 92 → First d c
  Itself : d ≡ c → is_marked c ≡ false → is_control c ≡ false → First d c

pub first_of : (text rest r : List ℕ) (d c : ℕ) → text ≡ encode_utf8 d ++ rest → text ≡ escaped c ++ r → First d c
unfolding encode_utf8
first_of text rest r d c e is =
    elim (shape c) [
      | Short letter begins known told ↦ Escaped ((encode_same d 92 rest (letter ∷ r) (sym e ∙ is ∙ ap (λ b. b ++ r) begins)).0)
      | Long begins code ↦ Escaped ((encode_same d 92 rest (120 ∷ 123 ∷ hex_digit (c / 16) ∷ hex_digit (c % 16) ∷ 125 ∷ r) (sym e ∙ is ∙ ap (λ b. b ++ r) begins)).0)
      | Plain begins plain other ↦ Itself ((encode_same d c rest r (sym e ∙ is ∙ ap (λ b. b ++ r) begins)).0) plain other
    ]

pub no_character_end : (text : List ℕ) → text ≡ [] → HasNoCharacter text
no_character_end text e c r is =
    let bad : [] ≡ escaped c ++ r = sym e ∙ is in
    elim (shape c) [
      | Short letter begins known told ↦ let worse : [] ≡ 92 ∷ letter ∷ r = bad ∙ ap (λ b. b ++ r) begins in cc
      | Long begins code ↦ let worse : [] ≡ 92 ∷ 120 ∷ 123 ∷ hex_digit (c / 16) ∷ hex_digit (c % 16) ∷ 125 ∷ r = bad ∙ ap (λ b. b ++ r) begins in cc
      | Plain begins plain other ↦ never_empty [] c refl r (bad ∙ ap (λ b. b ++ r) begins)
    ]

pub no_raw : (text rest : List ℕ) (d : ℕ) → text ≡ encode_utf8 d ++ rest → d ≢ 92 → (is_marked d || is_control d) ≡ true → HasNoCharacter text
no_raw text rest d e other special c r is =
    elim (first_of text rest r d c e is) [
      | Escaped same ↦ other same
      | Itself same plain common ↦
          let bad : true ≡ false = sym special ∙ (λ i. is_marked (same i) || is_control (same i)) ∙ (λ i. plain i || common i) in cc
    ]

-- a text begins with one character at most
pub record SameCharacter (c d : ℕ) (r s : List ℕ) : Type 0 where
  pub character : c ≡ d
  pub rest : r ≡ s

short_short : (c d l m : ℕ) (r s : List ℕ) → c ≡ meant l → d ≡ meant m → 92 ∷ l ∷ r ≡ 92 ∷ m ∷ s → SameCharacter c d r s
short_short c d l m r s p q e = let same : l ≡ m = cc in record { character = p ∙ ap meant same ∙ sym q; rest = cc }

short_long : (l h k : ℕ) (r s : List ℕ) → is_letter l ≡ true → 92 ∷ l ∷ r ≡ coded h k ++ s → ⊥
short_long l h k r s known e = let same : l ≡ 120 = cc in let bad : true ≡ false = sym known ∙ ap is_letter same in cc

mark_plain : (c d : ℕ) (r s : List ℕ) → is_marked d ≡ false → 92 ∷ r ≡ encode_utf8 d ++ s → ⊥
unfolding encode_utf8
mark_plain c d r s plain e = marked_not d plain (sym ((encode_same 92 d r s e).0))

long_long : (c d : ℕ) (r s : List ℕ) → has_code c ≡ true → has_code d ≡ true → coded (hex_digit (c / 16)) (hex_digit (c % 16)) ++ r ≡ coded (hex_digit (d / 16)) (hex_digit (d % 16)) ++ s → SameCharacter c d r s
long_long c d r s p q e =
    let high : hex_digit (c / 16) ≡ hex_digit (d / 16) = cc in
    let low : hex_digit (c % 16) ≡ hex_digit (d % 16) = cc in
    let c_small : c < 160 = code_small c p in
    let d_small : d < 160 = code_small d q in
    let c_high : c / 16 < 16 = omega arith in
    let d_high : d / 16 < 16 = omega arith in
    let c_low : c % 16 < 16 = omega arith in
    let d_low : d % 16 < 16 = omega arith in
    let first : c / 16 ≡ d / 16 = hex_same (c / 16) (d / 16) c_high d_high high in
    let second : c % 16 ≡ d % 16 = hex_same (c % 16) (d % 16) c_low d_low low in
    record { character = omega arith; rest = cc }

plain_plain : (c d : ℕ) (r s : List ℕ) → encode_utf8 c ++ r ≡ encode_utf8 d ++ s → SameCharacter c d r s
plain_plain c d r s e = let both = encode_same c d r s e in record { character = both.0; rest = both.1 }

same_by : (c d : ℕ) (r s : List ℕ) → Shape c → Shape d → escaped c ++ r ≡ escaped d ++ s → SameCharacter c d r s
same_by c d r s (Short l is known told) (Short m it known' told') e = short_short c d l m r s told told' (ap (λ b. b ++ r) (sym is) ∙ e ∙ ap (λ b. b ++ s) it)
same_by c d r s (Short l is known told) (Long it code) e = absurd (short_long l _ _ r s known (ap (λ b. b ++ r) (sym is) ∙ e ∙ ap (λ b. b ++ s) it))
same_by c d r s (Short l is known told) (Plain it plain other) e = absurd (mark_plain c d (l ∷ r) s plain (ap (λ b. b ++ r) (sym is) ∙ e ∙ ap (λ b. b ++ s) it))
same_by c d r s (Long is code) (Short m it known told) e = absurd (short_long m _ _ s r known (ap (λ b. b ++ s) (sym it) ∙ sym e ∙ ap (λ b. b ++ r) is))
same_by c d r s (Long is code) (Long it code') e = long_long c d r s code code' (ap (λ b. b ++ r) (sym is) ∙ e ∙ ap (λ b. b ++ s) it)
same_by c d r s (Long is code) (Plain it plain other) e = absurd (mark_plain c d _ s plain (ap (λ b. b ++ r) (sym is) ∙ e ∙ ap (λ b. b ++ s) it))
same_by c d r s (Plain is plain other) (Short m it known told) e = absurd (mark_plain d c (m ∷ s) r plain (ap (λ b. b ++ s) (sym it) ∙ sym e ∙ ap (λ b. b ++ r) is))
same_by c d r s (Plain is plain other) (Long it code) e = absurd (mark_plain d c _ r plain (ap (λ b. b ++ s) (sym it) ∙ sym e ∙ ap (λ b. b ++ r) is))
same_by c d r s (Plain is plain other) (Plain it plain' other') e = plain_plain c d r s (ap (λ b. b ++ r) (sym is) ∙ e ∙ ap (λ b. b ++ s) it)

pub escaped_same : (c d : ℕ) (r s : List ℕ) → escaped c ++ r ≡ escaped d ++ s → SameCharacter c d r s
escaped_same c d r s e = same_by c d r s (shape c) (shape d) e

-- a quote ends a text
heads : (a b : ℕ) (r s : List ℕ) → a ∷ r ≡ b ∷ s → a ≡ b
heads a b r s e = cc

quote_mark : (r s : List ℕ) → 92 ∷ r ≡ 34 ∷ s → ⊥
quote_mark r s e = omega (arith, heads 92 34 r s e)

quote_by : (c : ℕ) (r s : List ℕ) → Shape c → escaped c ++ r ≡ 34 ∷ s → ⊥
unfolding encode_utf8
quote_by c r s (Short l is known told) e = quote_mark (l ∷ r) s (ap (λ b. b ++ r) (sym is) ∙ e)
quote_by c r s (Long is code) e = quote_mark _ s (ap (λ b. b ++ r) (sym is) ∙ e)
quote_by c r s (Plain is plain other) e =
    let bad : encode_utf8 c ++ r ≡ encode_utf8 34 ++ s = ap (λ b. b ++ r) (sym is) ∙ e in
    let same : c ≡ 34 = (encode_same c 34 r s bad).0 in
    let worse : true ≡ false = ap is_marked (sym same) ∙ plain in cc

pub no_quote : (c : ℕ) (r s : List ℕ) → escaped c ++ r ≡ 34 ∷ s → ⊥
no_quote c r s e = quote_by c r s (shape c) e

some_by : (c : ℕ) → Shape c → 0 < length (escaped c)
some_by c (Short l is known told) = omega (arith, ap length is)
some_by c (Long is code) = omega (arith, ap length is)
some_by c (Plain is plain other) = omega (arith, ap length is, length-encode c, (len_utf8_bounds c).0)

pub escaped_some : (c : ℕ) → 0 < length (escaped c)
escaped_some c = some_by c (shape c)
