-- Numbers at the front of a text: all the digits there, and no zero in front of others.
use Rattle.std.proofs.Common.{◌≡◌, ℕ, zero, suc, ◌<◌, ◌≤◌, ◌^◌, List, [], ◌∷◌, ◌++◌, length, get_or, refl, sym, ap, ◌∙◌, arith, subst, length-append, Ok, Err}
use Rattle.std.specs.Int.{IsInRange}
use Rattle.std.specs.Fmt.{decimal}
use Rattle.std.specs.Str.Parse.{AllDigits, digits_value, ParsesUnsigned}
use Rattle.std.proofs.lemmas.Str.Parse.{IsNumeralModel, numerals_by_value, tells_digits, parse_digits, digit_from_value}
use Rattle.std.proofs.lemmas.Fmt.{digits_decimal, digits_value-decimal, decimal-digits_value, decimal_nonempty, first_decimal, decimal_digit, decimal_injective}
use Rattle.tree_text.specs.Prefixes.{IsNumberEnd, IsNumber, HasNoNumber}

own : IsNumeralModel (AllDigits 10) (digits_value 10)
own = numerals_by_value (AllDigits 10) tells_digits

-- a text is cut after its first digits in one way
record Cut (xs ys r s : List ℕ) : Type 0 where
  prefix : xs ≡ ys
  back : r ≡ s

cut : (xs ys r s : List ℕ) → AllDigits 10 xs → AllDigits 10 ys → IsNumberEnd r → IsNumberEnd s → xs ++ r ≡ ys ++ s → Cut xs ys r s
cut [] [] r s dx dy er es e = record { prefix = refl; back = e }
cut [] (y ∷ ys) r s dx dy er es e =
    let first : get_or r 0 0 ≡ y = ap (λ b. get_or b 0 0) e in
    absurd (er (subst (IsInRange 48 57) (sym first) (digit_from_value y dy.0)))
cut (x ∷ xs) [] r s dx dy er es e =
    let first : x ≡ get_or s 0 0 = ap (λ b. get_or b 0 0) e in
    absurd (es (subst (IsInRange 48 57) first (digit_from_value x dx.0)))
cut (x ∷ xs) (y ∷ ys) r s dx dy er es e =
    let rest : xs ++ r ≡ ys ++ s = cc in
    let first : x ≡ y = cc in
    let more = cut xs ys r s dx.1 dy.1 er es rest in
    record { prefix = λ i. first i ∷ more.prefix i; back = more.back }

-- the digits of a number that a text begins with are all its first digits
digits_are : (text ds rest : List ℕ) → text ≡ ds ++ rest → AllDigits 10 ds → IsNumberEnd rest → (n : ℕ) (r : List ℕ) → IsNumber text n r → ds ≡ decimal n
digits_are text ds rest e digits end n r is =
    (cut ds (decimal n) rest r digits (digits_decimal own n is.small) end is.ends (sym e ∙ is.is)).prefix

no_zero_first : (n : ℕ) → n < 2 ^ 64 → 1 < length (decimal n) → get_or (decimal n) 0 0 ≡ 48 → ⊥
no_zero_first zero small long first =
    let one : length (decimal 0) ≡ 1 = ap length (decimal_digit 0 (omega arith)) in omega arith
no_zero_first (suc n) small long first = let more : 48 < get_or (decimal (suc n)) 0 0 = first_decimal (suc n) (omega arith) small in omega arith

pub no_number_zero : (text ds rest : List ℕ) → text ≡ ds ++ rest → AllDigits 10 ds → IsNumberEnd rest → (1 < length ds) × (get_or ds 0 0 ≡ 48) → HasNoNumber text
no_number_zero text ds rest e digits end zero_first n r is =
    let same = digits_are text ds rest e digits end n r is in
    no_zero_first n is.small (subst (λ x. 1 < length x) same zero_first.0) (sym (ap (λ b. get_or b 0 0) same) ∙ zero_first.1)

pub no_number_parse : (text ds rest : List ℕ) → text ≡ ds ++ rest → AllDigits 10 ds → IsNumberEnd rest → ParsesUnsigned {E = ℕ} 64 10 ds (Err 0) → HasNoNumber text
no_number_parse text ds rest e digits end parses n r is =
    let same = digits_are text ds rest e digits end n r is in
    let value : digits_value 10 ds ≡ n = ap (digits_value 10) same ∙ digits_value-decimal own n is.small in
    let long : 0 < length ds = subst (λ x. 0 < length x) (sym same) (decimal_nonempty n is.small) in
    parse_digits own {E = ℕ} 64 ds (Err 0) parses digits (long, subst (λ x. x < 2 ^ 64) (sym value) is.small)

pub some_number : (text ds rest : List ℕ) (n : ℕ) → text ≡ ds ++ rest → AllDigits 10 ds → IsNumberEnd rest → (get_or ds 0 0 ≡ 48 → length ds ≤ 1) → ParsesUnsigned {E = ℕ} 64 10 ds (Ok n) → IsNumber text n rest
some_number text ds rest n e digits end first parses =
    let is = parse_digits own {E = ℕ} 64 ds (Ok n) parses digits in
    let long : 0 < length ds = is.0.0 in
    let written : decimal (digits_value 10 ds) ≡ ds = decimal-digits_value own ds digits long (λ h. let short : length ds ≤ 1 = first h in omega arith) is.0.1 in
    record { is = e ∙ ap (λ b. b ++ rest) (sym written ∙ ap decimal (sym is.1)); small = subst (λ x. x < 2 ^ 64) (sym is.1) is.0.1; ends = end }

-- the first digit of a number
pub record FirstDigit (bytes : List ℕ) : Type 0 where
  pub digit : ℕ
  pub rest : List ℕ
  pub is : bytes ≡ digit ∷ rest
  pub digits : IsInRange 48 57 digit

first_digit_of : (ds rest : List ℕ) → AllDigits 10 ds → 0 < length ds → FirstDigit (ds ++ rest)
first_digit_of [] rest digits long = absurd (omega arith)
first_digit_of (d ∷ ds) rest digits long = record { digit = d; rest = ds ++ rest; is = refl; digits = digit_from_value d digits.0 }

pub first_digit : (n : ℕ) (rest : List ℕ) → n < 2 ^ 64 → FirstDigit (decimal n ++ rest)
first_digit n rest small = first_digit_of (decimal n) rest (digits_decimal own n small) (decimal_nonempty n small)

-- a number is read in one way
pub same_number : (text : List ℕ) (m n : ℕ) (r s : List ℕ) → IsNumber text m r → IsNumber text n s → (m ≡ n) × (r ≡ s)
same_number text m n r s is it =
    let both = cut (decimal m) (decimal n) r s (digits_decimal own m is.small) (digits_decimal own n it.small) is.ends it.ends (sym is.is ∙ it.is) in
    (decimal_injective m n is.small it.small both.prefix, both.back)

-- some digit is read
pub number_shorter : (text rest : List ℕ) (n : ℕ) → IsNumber text n rest → length rest < length text
number_shorter text rest n is = omega (arith, ap length is.is, length-append (decimal n) rest, decimal_nonempty n is.small)
