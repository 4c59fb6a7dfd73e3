-- How many characters bytes spell, and what numbers digits spell, one byte after the other.
use Rattle.std.proofs.Common.{◌≡◌, ℕ, zero, suc, ◌+◌, ◌-◌, ◌*◌, ◌≤◌, ◌==◌, cond, List, [], ◌∷◌, length, take, refl, sym, ap, ◌∙◌, arith}
use Rattle.std.specs.Prelude.{fold}
use Rattle.std.specs.Str.{chars, chars_after, continuation_len, lead_bits}
use Rattle.std.specs.Char.{digit_value}
use Rattle.std.proofs.lemmas.Bool.Decides.{nat_tests}
use Rattle.language_model.specs.Building.{digits_number}

-- how many characters end in bytes, where so many bytes of one are still to come
abbrev pub count_behind : ℕ → List ℕ → ℕ
count_behind zero bs = length (chars bs)
count_behind (suc n) bs = length (chars_after (suc n) 0 bs)

same_count : (n c d : ℕ) (bs : List ℕ) → length (chars_after n c bs) ≡ length (chars_after n d bs)
same_count zero c d [] = refl
same_count zero c d (b ∷ bs) = refl
same_count (suc n) c d [] = refl
same_count (suc n) c d (b ∷ bs) = same_count n (c * 64 + (b - 128)) (d * 64 + (b - 128)) bs

abbrev next : ℕ → ℕ → ℕ
next zero b = continuation_len b
next (suc n) b = n

-- a character ends where nothing of it is to come
abbrev ended : ℕ → ℕ
ended zero = 1
ended (suc n) = 0

behind_here : (n c : ℕ) (bs : List ℕ) → length (chars_after n c bs) ≡ ended n + count_behind n bs
unfolding chars
behind_here zero c [] = refl
behind_here zero c (b ∷ bs) = omega arith
behind_here (suc n) c bs = same_count (suc n) c 0 bs ∙ omega arith

count_on : (n b : ℕ) (bs : List ℕ) → count_behind n (b ∷ bs) ≡ ended (next n b) + count_behind (next n b) bs
unfolding chars
count_on zero b bs = behind_here (continuation_len b) (lead_bits b) bs
count_on (suc n) b bs = behind_here n (0 * 64 + (b - 128)) bs

pub count_none : (n : ℕ) → count_behind n [] ≡ 0
unfolding chars
count_none zero = refl
count_none (suc n) = refl

count_step : (n b m : ℕ) (bs : List ℕ) → m ≡ cond (n == 0) (continuation_len b) (n - 1) → count_behind n (b ∷ bs) ≡ ended m + count_behind m bs
count_step zero b m bs e = count_on 0 b bs ∙ ap (λ j. ended j + count_behind j bs) (sym e)
count_step (suc n) b m bs e = let same : m ≡ n = grind (arith, nat_tests) in count_on (suc n) b bs ∙ ap (λ j. ended j + count_behind j bs) (sym same)

unended : (m : ℕ) → (m ≡ 0 → ⊥) → ended m ≡ 0
unended zero h = absurd (h refl)
unended (suc m) h = refl

pub count_ends : (n b m count : ℕ) (bs : List ℕ) (whole : ℕ) → m ≡ cond (n == 0) (continuation_len b) (n - 1) → m ≡ 0 → count + count_behind n (b ∷ bs) ≡ whole → count + 1 + count_behind m bs ≡ whole
count_ends n b m count bs whole e z h = let o = count_step n b m bs e in let f : ended m ≡ 1 = ap ended z in omega (arith, o, f, h)

pub count_goes_on : (n b m count : ℕ) (bs : List ℕ) (whole : ℕ) → m ≡ cond (n == 0) (continuation_len b) (n - 1) → (m ≡ 0 → ⊥) → count + count_behind n (b ∷ bs) ≡ whole → count + count_behind m bs ≡ whole
count_goes_on n b m count bs whole e z h = let o = count_step n b m bs e in let f = unended m z in omega (arith, o, f, h)

-- NUMBERS

abbrev folded : ℕ → List ℕ → ℕ
folded n ds = fold (λ m d. 10 * m + digit_value d) n ds

grown : (n : ℕ) (ds : List ℕ) → n ≤ folded n ds
grown n [] = omega arith
grown n (d ∷ ds) = let e = grown (10 * n + digit_value d) ds in omega (arith, e)

prefix_less : (n i : ℕ) (ds : List ℕ) → folded n (take i ds) ≤ folded n ds
prefix_less n zero ds = grown n ds
prefix_less n (suc i) [] = omega arith
prefix_less n (suc i) (d ∷ ds) = prefix_less (10 * n + digit_value d) i ds

pub digits_prefix : (ds : List ℕ) (i : ℕ) → digits_number (take i ds) ≤ digits_number ds
digits_prefix ds i = prefix_less 0 i ds
