-- What digits spell.
use Rattle.std.proofs.Common.{◌≡◌, ◌∙◌, ◌^◌, ◌*◌, ◌+◌, ◌<◌, ◌≤◌, ℕ, Bool, cond, true, false, ◌&&◌, nat_lt, nat_le, refl, sym, ap, List, [], ◌∷◌, length, drop, fold, Some, None, IsTrue, arith, true≢false}
use Rattle.std.specs.Prelude.{if◌then◌else◌, ◌==◌}
use Rattle.std.specs.Char.{digit_value, is_ascii_digit}
use Rattle.std.specs.List.{list_all}
use Rattle.std.specs.Str.Parse.{AllDigits, IsNumeral, digits_value, digits_value_after, without_leading_plus}
use Rattle.std.proofs.lemmas.Bool.Decides.{nat_tests}
use Rattle.grammar_model.specs.Limits.{digits_number}

spelled : (n : ℕ) (ds : List ℕ) → digits_value_after 10 n ds ≡ fold (λ m d. 10 * m + digit_value d) n ds
spelled n [] = refl
spelled n (d ∷ ds) =
    let same : n * 10 + digit_value d ≡ 10 * n + digit_value d = omega arith in
    spelled (n * 10 + digit_value d) ds ∙ ap (λ m. fold (λ m d. 10 * m + digit_value d) m ds) same

digit : (d : ℕ) → is_ascii_digit d ≡ true → (48 ≤ d) × (d < 58)
digit d e = (grind (arith, nat_tests, e), grind (arith, nat_tests, e))

digit_small : (d : ℕ) → is_ascii_digit d ≡ true → digit_value d < 10
digit_small d e =
    let r = digit d e in
    let low : nat_lt d 48 ≡ false = grind (arith, nat_tests) in
    let high : nat_lt d 58 ≡ true = grind (arith, nat_tests) in
    rw (low, high) (omega (arith, r))

all_digits : (ds : List ℕ) → list_all is_ascii_digit ds ≡ true → AllDigits 10 ds
all_digits [] e = tt
all_digits (d ∷ ds) e = go (is_ascii_digit d) refl (all_digits ds)
  where
    go : (b : Bool) → is_ascii_digit d ≡ b → (list_all is_ascii_digit ds ≡ true → AllDigits 10 ds) → AllDigits 10 (d ∷ ds)
    go true h next = (digit_small d h, next (rw h at e))
    go false h next = absurd (true≢false (sym (rw h at e)))

no_plus : (ds : List ℕ) → list_all is_ascii_digit ds ≡ true → without_leading_plus ds ≡ ds
no_plus [] e = refl
no_plus (d ∷ ds) e = go (is_ascii_digit d) refl
  where
    go : (b : Bool) → is_ascii_digit d ≡ b → without_leading_plus (d ∷ ds) ≡ d ∷ ds
    go true h =
        let r = digit d h in
        let plus : (d == 43) ≡ false = grind (arith, nat_tests) in
        ap (λ (b : Bool). drop (cond b 1 0) (d ∷ ds)) plus
    go false h = absurd (true≢false (sym (rw h at e)))

abbrev pub AreDigits : List ℕ → Type 0
AreDigits ds = IsTrue (nat_lt 0 (length ds) && nat_le (length ds) 10 && list_all is_ascii_digit ds)

parts : (a b c : Bool) → IsTrue (a && b && c) → (a ≡ true) × (c ≡ true)
parts true true true h = (refl, refl)
parts true true false h = absurd (true≢false (sym h))
parts true false c h = absurd (true≢false (sym h))
parts false b c h = absurd (true≢false (sym h))

value_is : (ds : List ℕ) → AreDigits ds → digits_value 10 (without_leading_plus ds) ≡ digits_number ds
value_is ds h =
    let p = parts (nat_lt 0 (length ds)) (nat_le (length ds) 10) (list_all is_ascii_digit ds) h in
    ap (digits_value 10) (no_plus ds p.1) ∙ spelled 0 ds

numeral : (ds : List ℕ) → AreDigits ds → IsNumeral 10 (without_leading_plus ds)
numeral ds h =
    let p = parts (nat_lt 0 (length ds)) (nat_le (length ds) 10) (list_all is_ascii_digit ds) h in
    let some : 0 < length ds = grind (arith, nat_tests, p.0) in
    rw (no_plus ds p.1) (some, all_digits ds p.1)

pub spells : (ds : List ℕ) (n : ℕ) → AreDigits ds → (IsNumeral 10 (without_leading_plus ds) × (digits_value 10 (without_leading_plus ds) < 2 ^ 32)) × (n ≡ digits_value 10 (without_leading_plus ds))
    → Some n ≡ if nat_lt (digits_number ds) (2 ^ 32) then Some (digits_number ds) else None
spells ds n h r =
    let same = value_is ds h in
    let small : digits_number ds < 4294967296 = rw same at r.0.1 in
    let test : nat_lt (digits_number ds) 4294967296 ≡ true = grind (arith, nat_tests) in
    rw test (ap (λ m. Some m) (r.1 ∙ same))

pub spells_more : (ds : List ℕ) → AreDigits ds → (IsNumeral 10 (without_leading_plus ds) × (digits_value 10 (without_leading_plus ds) < 2 ^ 32) → ⊥)
    → None ≡ if nat_lt (digits_number ds) (2 ^ 32) then Some (digits_number ds) else None
spells_more ds h r = go (nat_lt (digits_number ds) 4294967296) refl
  where
    go : (b : Bool) → nat_lt (digits_number ds) 4294967296 ≡ b → None ≡ if b then Some (digits_number ds) else None
    go true e =
        let same = value_is ds h in
        let small : digits_number ds < 4294967296 = grind (arith, nat_tests) in
        absurd (r (numeral ds h, rw same small))
    go false e = refl
