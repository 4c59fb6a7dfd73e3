-- How words look, to clap and in the model.
use Rattle.std.proofs.Common.{◌≡◌, ℕ, Bool, true, false, refl, sym, ap, subst, List, [], ◌∷◌, length, Some, None, codes, bytes_eq, arith, nat_eq, IsUtf8, chars, nat_lt}
use Rattle.std.specs.Prelude.{slice_get, ◌==◌, encode_utf8_all}
use Rattle.std.specs.List.{starts_with}
use Rattle.std.proofs.lemmas.Str.{encodes-chars, IsUtf8-drop, IsCharBoundary-after_ascii}
use Rattle.std.proofs.lemmas.Bool.Decides.{nat_tests}
use Rattle.clap.specs.Lexer.{long_of, short_of}
use Rattle.clap.specs.Walk.{Held, Text}
use Rattle.clap.specs.Faults.{bundle_fault, flags_fault}
use Rattle.words_model.specs.Words.{is_dashed}
use Rattle.command_line.proofs.Options.{clean, shape, none_by_short}

-- no option, and not the end of the options
pub record Plain (word : Text) : Type 0 where
  pub end : bytes_eq word (codes "--") ≡ false
  pub long : long_of word ≡ None
  pub short : short_of word ≡ None
  pub starts : starts_with nat_eq word (codes "--") ≡ false
  pub dashed : is_dashed word ≡ false

-- a hyphen and more, but no second hyphen
pub record Dashed (x : ℕ) (xs : Text) : Type 0 where
  pub end : bytes_eq (45 ∷ x ∷ xs) (codes "--") ≡ false
  pub long : long_of (45 ∷ x ∷ xs) ≡ None
  pub short : short_of (45 ∷ x ∷ xs) ≡ Some (x ∷ xs)
  pub starts : starts_with nat_eq (45 ∷ x ∷ xs) (codes "--") ≡ false
  pub dashed : is_dashed (45 ∷ x ∷ xs) ≡ true

plain_one : (c : ℕ) → Plain (c ∷ [])
plain_one c = go (c == 45) refl
  where
    go : (b : Bool) → (c == 45) ≡ b → Plain (c ∷ [])
    go true e =
        let is : c ≡ 45 = grind (arith, nat_tests) in
        subst (λ n. Plain (n ∷ [])) (sym is) (record { end = refl; long = refl; short = refl; starts = refl; dashed = refl })
    go false e =
        let one : nat_eq c 45 ≡ false = grind (arith, nat_tests) in
        let two : nat_eq 45 c ≡ false = grind (arith, nat_tests) in
        record { end = rw one refl; long = rw e refl; short = rw e refl; starts = rw two refl; dashed = rw e refl }

plain_more : (c d : ℕ) (rest : Text) → (c == 45) ≡ false → Plain (c ∷ d ∷ rest)
plain_more c d rest e =
    let one : nat_eq c 45 ≡ false = grind (arith, nat_tests) in
    let two : nat_eq 45 c ≡ false = grind (arith, nat_tests) in
    record { end = rw one refl; long = rw e refl; short = rw e refl; starts = rw two refl; dashed = rw e refl }

one_hyphen : (x : ℕ) (xs : Text) → (x == 45) ≡ false → Dashed x xs
one_hyphen x xs e =
    let one : nat_eq x 45 ≡ false = grind (arith, nat_tests) in
    let two : nat_eq 45 x ≡ false = grind (arith, nat_tests) in
    let long : nat_lt 0 (length (x ∷ xs)) ≡ true = grind (arith, nat_tests) in
    record { end = rw one refl; long = rw e refl; short = rw e refl; starts = rw two refl; dashed = long }

pub by_look : (P : Text → Type 0) → ((word : Text) → Plain word → P word) → ((x : ℕ) (xs : Text) → Dashed x xs → P (45 ∷ x ∷ xs)) → P (45 ∷ 45 ∷ [])
    → ((x : ℕ) (xs : Text) → P (45 ∷ 45 ∷ x ∷ xs)) → (word : Text) → P word
by_look P plain dashed end long [] = plain [] (record { end = refl; long = refl; short = refl; starts = refl; dashed = refl })
by_look P plain dashed end long (c ∷ []) = plain (c ∷ []) (plain_one c)
by_look P plain dashed end long (c ∷ d ∷ rest) = go (c == 45) refl (d == 45) refl
  where
    two : (rest : Text) → P (45 ∷ 45 ∷ rest)
    two [] = end
    two (x ∷ xs) = long x xs

    go : (a : Bool) → (c == 45) ≡ a → (b : Bool) → (d == 45) ≡ b → P (c ∷ d ∷ rest)
    go false e b f = plain (c ∷ d ∷ rest) (plain_more c d rest e)
    go true e false f =
        let is : c ≡ 45 = grind (arith, nat_tests) in
        subst (λ n. P (n ∷ d ∷ rest)) (sym is) (dashed d rest (one_hyphen d rest f))
    go true e true f =
        let is : c ≡ 45 = grind (arith, nat_tests) in
        let also : d ≡ 45 = grind (arith, nat_tests) in
        subst (λ n. P (n ∷ d ∷ rest)) (sym is) (subst (λ n. P (45 ∷ n ∷ rest)) (sym also) (two rest))

-- ---- the characters after one hyphen

first_char : (x : ℕ) (xs : Text) → IsUtf8 (x ∷ xs) → (y : ℕ) × (slice_get (chars (x ∷ xs)) 0 ≡ Some y)
first_char x xs u = go (chars (x ∷ xs)) (encodes-chars (x ∷ xs) u)
  where
    go : (cs : List ℕ) → encode_utf8_all cs ≡ x ∷ xs → (y : ℕ) × (slice_get cs 0 ≡ Some y)
    go [] e =
        let bad : 0 ≡ length (x ∷ xs) = ap length e in
        absurd (omega arith)
    go (y ∷ ys) e = (y, refl)

pub dashed_fault : (x : ℕ) (xs : Text) (again : Bool) (h : Held) → IsUtf8 (x ∷ xs) → h.skip ≡ 0 → clean (bundle_fault shape.rules again (x ∷ xs) h) ≡ false
unfolding flags_fault
dashed_fault x xs again h u skip =
    let first = first_char x xs u in
    rw (skip, first.1, none_by_short first.0) refl

-- what stands after a hyphen is UTF-8 too
pub utf8_behind : (x : ℕ) (xs : Text) → IsUtf8 (45 ∷ x ∷ xs) → IsUtf8 (x ∷ xs)
utf8_behind x xs u = IsUtf8-drop (45 ∷ x ∷ xs) 1 u (IsCharBoundary-after_ascii (45 ∷ x ∷ xs) 0 u (omega arith) (omega arith))
