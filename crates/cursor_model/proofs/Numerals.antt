-- Numerals: their digits, and that they tell their numbers.
use Rattle.std.proofs.Common.{◌≡◌, ℕ, zero, suc, ◌+◌, ◌-◌, ◌*◌, ◌/◌, ◌%◌, ◌^◌, ◌<◌, ◌≤◌, Bool, true, false, cond, List, [], ◌∷◌, refl, sym, ap, ◌∙◌, subst, arith}
use Rattle.std.specs.Fmt.{digits_onto, digit_glyph, digits, decimal}
use Rattle.std.proofs.Math.Dec.{eqb}
use Rattle.std.proofs.lemmas.Bool.{eqb-true, eqb-false, lt-ltb}
use Rattle.std.proofs.Math.Nat.{mod-lt, pow-zero, pow-suc, div-lt_iff_lt-mul}
use Rattle.std.proofs.lemmas.Nat.{div-add-mod'}
use Rattle.cursor_model.specs.Cursor.{numeral}

-- the number that digits tell, where they are read after another number
abbrev value_after : ℕ → List ℕ → ℕ
value_after n [] = n
value_after n (c ∷ cs) = value_after (n * 10 + (c - 48)) cs

-- each of them is a digit
abbrev pub AreDigits : List ℕ → Type 0
AreDigits [] = Unit {0}
AreDigits (c ∷ cs) = (48 ≤ c) × (c ≤ 57) × AreDigits cs

glyph : (d : ℕ) → d < 10 → digit_glyph false d ≡ 48 + d
glyph d h = ap (λ (b : Bool). cond b (48 + d) (87 + d)) (lt-ltb d 10 h)

-- digits that are put before others
record IsPut (n : ℕ) (acc put : List ℕ) : Type 0 where
  value : value_after 0 put ≡ value_after n acc
  digits : AreDigits acc → AreDigits put

put : (k n : ℕ) (acc : List ℕ) → n < k → IsPut n acc (digits_onto k 10 false n acc)
put zero n acc lt = absurd (omega arith)
put (suc k) n acc lt = by (eqb (n / 10) 0) refl (λ m front less. put k m front less)
  where
    rest : n % 10 < 10
    rest = mod-lt n (omega arith)

    whole : n / 10 * 10 + n % 10 ≡ n
    whole = div-add-mod' n 10

    g : digit_glyph false (n % 10) ≡ 48 + n % 10
    g = glyph (n % 10) rest

    by : (b : Bool) → eqb (n / 10) 0 ≡ b → ((m : ℕ) (front : List ℕ) → m < k → IsPut m front (digits_onto k 10 false m front)) → IsPut n acc (cond (eqb (n / 10) 0) (digit_glyph false (n % 10) ∷ acc) (digits_onto k 10 false (n / 10) (digit_glyph false (n % 10) ∷ acc)))
    by true e on =
        let none = eqb-true (n / 10) 0 e in
        let is : 0 * 10 + (digit_glyph false (n % 10) - 48) ≡ n = omega (arith, g, rest, whole, none) in
        subst (λ b. IsPut n acc (cond b (digit_glyph false (n % 10) ∷ acc) (digits_onto k 10 false (n / 10) (digit_glyph false (n % 10) ∷ acc)))) (sym e)
        (record { value = ap (λ m. value_after m acc) is; digits = λ a. (omega (arith, g, rest), omega (arith, g, rest), a) })
    by false e on =
        let some = eqb-false (n / 10) 0 e in
        let more : IsPut (n / 10) (digit_glyph false (n % 10) ∷ acc) (digits_onto k 10 false (n / 10) (digit_glyph false (n % 10) ∷ acc)) = on (n / 10) (digit_glyph false (n % 10) ∷ acc) (omega (arith, whole, rest, lt, some)) in
        let is : n / 10 * 10 + (digit_glyph false (n % 10) - 48) ≡ n = omega (arith, g, rest, whole) in
        subst (λ b. IsPut n acc (cond b (digit_glyph false (n % 10) ∷ acc) (digits_onto k 10 false (n / 10) (digit_glyph false (n % 10) ∷ acc)))) (sym e)
        (record { value = more.value ∙ ap (λ m. value_after m acc) is; digits = λ a. more.digits (omega (arith, g, rest), omega (arith, g, rest), a) })

pub numeral_digits : (n : ℕ) → AreDigits (numeral n)
numeral_digits n = (put (suc n) n [] (omega arith)).digits tt

pub numerals_tell : (m n : ℕ) → numeral m ≡ numeral n → m ≡ n
numerals_tell m n e = sym (put (suc m) m [] (omega arith)).value ∙ ap (value_after 0) e ∙ (put (suc n) n [] (omega arith)).value

-- ---- numerals of numbers in 32 bits are those that programs write

below : (j n : ℕ) → n < 10 ^ suc j → n / 10 < 10 ^ j
below j n lt = (div-lt_iff_lt-mul (omega arith)).1 (omega (arith, pow-suc 10 j, lt))

some_left : (n : ℕ) → eqb (n / 10) 0 ≡ false → n / 10 < 10 ^ 0 → ⊥
some_left n e lt = let none = eqb-false (n / 10) 0 e in let one = pow-zero 10 in none (omega (arith, lt, one))

last_alike : (k m n : ℕ) (acc : List ℕ) → eqb (n / 10) 0 ≡ true → digits_onto (suc k) 10 false n acc ≡ digits_onto (suc m) 10 false n acc
last_alike k m n acc e =
    ap (λ (b : Bool). cond b (digit_glyph false (n % 10) ∷ acc) (digits_onto k 10 false (n / 10) (digit_glyph false (n % 10) ∷ acc))) e
    ∙ sym (ap (λ (b : Bool). cond b (digit_glyph false (n % 10) ∷ acc) (digits_onto m 10 false (n / 10) (digit_glyph false (n % 10) ∷ acc))) e)

more_alike : (k m n : ℕ) (acc : List ℕ) → eqb (n / 10) 0 ≡ false → digits_onto k 10 false (n / 10) (digit_glyph false (n % 10) ∷ acc) ≡ digits_onto m 10 false (n / 10) (digit_glyph false (n % 10) ∷ acc) →
    digits_onto (suc k) 10 false n acc ≡ digits_onto (suc m) 10 false n acc
more_alike k m n acc e same =
    ap (λ (b : Bool). cond b (digit_glyph false (n % 10) ∷ acc) (digits_onto k 10 false (n / 10) (digit_glyph false (n % 10) ∷ acc))) e
    ∙ same ∙ sym (ap (λ (b : Bool). cond b (digit_glyph false (n % 10) ∷ acc) (digits_onto m 10 false (n / 10) (digit_glyph false (n % 10) ∷ acc))) e)

-- of two fuels that are enough it is all one which is taken
one_fuel : (k m n : ℕ) (acc : List ℕ) (b : Bool) → eqb (n / 10) 0 ≡ b → n < 10 ^ suc k → n < 10 ^ suc m → digits_onto (suc k) 10 false n acc ≡ digits_onto (suc m) 10 false n acc
one_fuel k m n acc true e low high = last_alike k m n acc e
one_fuel zero m n acc false e low high = absurd (some_left n e (below zero n low))
one_fuel (suc k) zero n acc false e low high = absurd (some_left n e (below zero n high))
one_fuel (suc k) (suc m) n acc false e low high =
    more_alike (suc k) (suc m) n acc e (one_fuel k m (n / 10) (digit_glyph false (n % 10) ∷ acc) (eqb (n / 10 / 10) 0) refl (below (suc k) n low) (below (suc m) n high))

enough : (n : ℕ) → n < 10 ^ suc n
enough zero = omega (arith, pow-suc 10 0, pow-zero 10)
enough (suc n) = let h = enough n in omega (arith, h, pow-suc 10 (suc n))

wide : (n : ℕ) → n < 2 ^ 32 → n < 10 ^ 64
wide n lt = omega (arith, lt)

pub numeral_is_decimal : (n : ℕ) → n < 2 ^ 32 → numeral n ≡ decimal n
unfolding digits
numeral_is_decimal n lt = one_fuel n 63 n [] (eqb (n / 10) 0) refl (enough n) (wide n lt)
