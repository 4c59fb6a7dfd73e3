-- The job's own input: its characters are those of its terminals, and it is a text.
use Rattle.std.proofs.Common.{◌≡◌, ℕ, zero, suc, ◌+◌, ◌<◌, ◌≤◌, nat_le, nat_lt, Bool, true, ◌&&◌, List, [], ◌∷◌, ◌++◌, length, map, replicate, chars, option_map, slice_get, Some, IsAscii, IsUtf8, refl, sym, ◌∙◌, ap, subst, arith, leb-true}
use Rattle.std.specs.List.{list_all}
use Rattle.std.proofs.lemmas.Bool.{and_parts}
use Rattle.std.proofs.lemmas.List.{map-append}
use Rattle.std.proofs.lemmas.List.Folds.{list_all-append}
use Rattle.std.proofs.lemmas.Option.{slice_get-map}
use Rattle.std.proofs.lemmas.Str.{chars-IsAscii, IsUtf8-from_ascii}
use Rattle.run_model.specs.Jobs.{work_input}
use Rattle.work_laws.proofs.Text.{ascii_of}
use Rattle.work_laws.proofs.Shapes.{At}
use Rattle.work_laws.proofs.Word.{word}
use Rattle.work_laws.proofs.Matching.{spelling}
use Rattle.work_laws.proofs.Reading.{AreSpelled}

-- ---- tests over all elements

all_copy : (test : ℕ → Bool) (n x : ℕ) → test x ≡ true → list_all test (replicate n x) ≡ true
all_copy test zero x h = refl
all_copy test (suc n) x h = rw (h, all_copy test n x h) refl

all_both : (test : ℕ → Bool) (xs ys : List ℕ) → list_all test xs ≡ true → list_all test ys ≡ true → list_all test (xs ++ ys) ≡ true
all_both test xs ys h h' = list_all-append test xs ys ∙ rw (h, h') refl

all_first : (test : ℕ → Bool) (x : ℕ) (xs : List ℕ) → test x ≡ true → list_all test xs ≡ true → list_all test (x ∷ xs) ≡ true
all_first test x xs h h' = rw (h, h') refl

-- of a list that is made as the input is
all_of : (test : ℕ → Bool) (n a b c : ℕ) → test a ≡ true → test b ≡ true → test c ≡ true → list_all test (replicate n a ++ (replicate n b ++ (a ∷ replicate n c))) ≡ true
all_of test n a b c h h' h'' =
    all_both test (replicate n a) (replicate n b ++ (a ∷ replicate n c)) (all_copy test n a h)
    (all_both test (replicate n b) (a ∷ replicate n c) (all_copy test n b h') (all_first test a (replicate n c) h (all_copy test n c h'')))

passes : (test : ℕ → Bool) (xs : List ℕ) (i x : ℕ) → list_all test xs ≡ true → slice_get xs i ≡ Some x → test x ≡ true
passes test [] i x all e = cc
passes test (y ∷ ys) zero x all e = let (h, t) = and_parts (test y) (list_all test ys) all in let same : y ≡ x = cc in subst (λ z. test z ≡ true) same h
passes test (y ∷ ys) (suc i) x all e = let (h, t) = and_parts (test y) (list_all test ys) all in passes test ys i x t e

-- ---- the characters

-- of a terminal
abbrev character_of : ℕ → ℕ
character_of zero = 0
character_of (suc zero) = 0
character_of (suc (suc n)) = spelling n

map_copy : (f : ℕ → ℕ) (n x : ℕ) → map f (replicate n x) ≡ replicate n (f x)
map_copy f zero x = refl
map_copy f (suc n) x = ap (λ l. f x ∷ l) (map_copy f n x)

module _ (size : ℕ) where
  pub input_is : map character_of (word size) ≡ work_input size
  input_is =
      let a = map-append character_of (replicate size 2) (replicate size 3 ++ (2 ∷ replicate size 4)) in
      let b = map-append character_of (replicate size 3) (2 ∷ replicate size 4) in
      rw (a, b, map_copy character_of size 2, map_copy character_of size 3, map_copy character_of size 4) refl

  input_ascii : IsAscii (work_input size)
  input_ascii = ascii_of (work_input size) (all_of (λ b. nat_lt b 128) size 97 40 41 refl refl refl)

  pub input_utf8 : IsUtf8 (work_input size)
  input_utf8 = IsUtf8-from_ascii (work_input size) input_ascii

  pub input_chars : chars (work_input size) ≡ work_input size
  input_chars = chars-IsAscii (work_input size) input_ascii

  pub input_length : length (work_input size) ≡ length (word size)
  input_length = ap length (sym input_is) ∙ length_map character_of (word size)
    where
      length_map : (f : ℕ → ℕ) (xs : List ℕ) → length (map f xs) ≡ length xs
      length_map f [] = refl
      length_map f (x ∷ xs) = ap suc (length_map f xs)

  terminal_between : (i s : ℕ) → At (word size) i s → (2 ≤ s) × (s ≤ 4)
  terminal_between i s e =
      let (low, high) = and_parts (nat_le 2 s) (nat_le s 4) (passes (λ z. nat_le 2 z && nat_le z 4) (word size) i s (all_of (λ z. nat_le 2 z && nat_le z 4) size 2 3 4 refl refl refl) e) in
      (leb-true 2 s low, leb-true s 4 high)

  spelled_at : (i s : ℕ) → At (word size) i s → (2 ≤ s) × (s ≤ 4) → (n : ℕ) × (n < 3) × (2 + n ≡ s) × (slice_get (work_input size) i ≡ Some (spelling n))
  spelled_at i zero e (low, high) = absurd (omega (arith, low))
  spelled_at i (suc zero) e (low, high) = absurd (omega (arith, low))
  spelled_at i (suc (suc n)) e (low, high) =
      (n, omega (arith, high), omega arith, ap (λ xs. slice_get xs i) (sym input_is) ∙ slice_get-map character_of (word size) i ∙ ap (option_map character_of) e)

  pub input_spelled : AreSpelled (word size) (work_input size)
  input_spelled = record { long = input_length; each = λ i s e. spelled_at i s e (terminal_between i s e) }
