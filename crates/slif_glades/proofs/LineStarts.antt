-- The lines of characters, by where they begin.
use Rattle.std.proofs.Common.{◌≡◌, ◌∙◌, ℕ, zero, suc, ◌+◌, ◌-◌, ◌<◌, ◌≤◌, ◌==◌, Bool, true, false, cond, List, [], ◌∷◌, ◌++◌, length, get_or, take, refl, sym, ap, subst, arith, append_assoc, append-nil, IsUtf8, leb, leb-true, leb-false}
use borrow.Author.Tests.{eqb-true}
use Rattle.std.specs.Str.{chars}
use Rattle.std.specs.Char.{encode_utf8}
use Rattle.std.proofs.lemmas.Str.{chars_past_char, chars-nil}
use Rattle.std.specs.Prelude.{count_by}
use Rattle.std.proofs.lemmas.List.Sums.{sum_by-cons}
use Rattle.std.proofs.lemmas.List.Sorted.{IsNonDecreasingBy-from_default}
use Rattle.std.specs.List.Sorted.{IsNonDecreasingBy, IsPartitionPoint}
use Rattle.std.proofs.Math.Seq.{take-suc}
use Rattle.outside_model.specs.Places.{line_after, column_after}
use Rattle.slif_base.proofs.Lines.{line_break, line_same, column_break, column_same}
use Rattle.slif_glades.specs.Lines.{behind, starts_from, line_starts}

-- THE STARTS RISE

above_by : (b : Bool) (base : ℕ) (S : List ℕ) → ((k : ℕ) → k < length S → suc base < get_or S k 0) → (k : ℕ) → k < length (behind b (suc base) ++ S)
    → base < get_or (behind b (suc base) ++ S) k 0
above_by true base S above zero h = omega arith
above_by true base S above (suc k) h = let x : suc base < get_or S k 0 = above k (omega arith) in omega arith
above_by false base S above k h = let x : suc base < get_or S k 0 = above k h in omega arith

pub above : (base : ℕ) (cs : List ℕ) (k : ℕ) → k < length (starts_from base cs) → base < get_or (starts_from base cs) k 0
above base [] k h = absurd (omega arith)
above base (c ∷ cs) k h = above_by (c == 10) base (starts_from (suc base) cs) (above (suc base) cs) k h

rise_by : (b : Bool) (base : ℕ) (S : List ℕ) → ((k : ℕ) → k < length S → suc base < get_or S k 0) → ((i j : ℕ) → i ≤ j → j < length S → get_or S i 0 ≤ get_or S j 0)
    → (i j : ℕ) → i ≤ j → j < length (behind b (suc base) ++ S) → get_or (behind b (suc base) ++ S) i 0 ≤ get_or (behind b (suc base) ++ S) j 0
rise_by true base S above rise zero zero le h = omega arith
rise_by true base S above rise zero (suc j) le h = let x : suc base < get_or S j 0 = above j (omega arith) in omega arith
rise_by true base S above rise (suc i) zero le h = absurd (omega arith)
rise_by true base S above rise (suc i) (suc j) le h = rise i j (omega arith) (omega arith)
rise_by false base S above rise i j le h = rise i j le h

rise : (base : ℕ) (cs : List ℕ) (i j : ℕ) → i ≤ j → j < length (starts_from base cs) → get_or (starts_from base cs) i 0 ≤ get_or (starts_from base cs) j 0
rise base [] i j le h = absurd (omega arith)
rise base (c ∷ cs) i j le h = rise_by (c == 10) base (starts_from (suc base) cs) (above (suc base) cs) (rise (suc base) cs) i j le h

starts_rise : (cs : List ℕ) (i j : ℕ) → i ≤ j → j < length (line_starts cs) → get_or (line_starts cs) i 0 ≤ get_or (line_starts cs) j 0
starts_rise cs zero j le h = omega arith
starts_rise cs (suc i) zero le h = absurd (omega arith)
starts_rise cs (suc i) (suc j) le h = rise 0 cs i j (omega arith) (omega arith)

pub are_rising : (cs : List ℕ) → IsNonDecreasingBy (λ x. x) (line_starts cs)
are_rising cs = IsNonDecreasingBy-from_default (λ x. x) (line_starts cs) 0 (starts_rise cs)

-- THE LINE: so many begin at the character or before

count_by_test : (b : Bool) (base at n k : ℕ) (S : List ℕ) → ((j : ℕ) → j ≤ length S → ((i : ℕ) → i < j → get_or S i 0 ≤ suc base + at) → ((i : ℕ) → j ≤ i → i < length S → suc base + at < get_or S i 0) → n ≡ j)
    → k ≤ length (behind b (suc base) ++ S) → ((i : ℕ) → i < k → get_or (behind b (suc base) ++ S) i 0 ≤ base + suc at)
    → ((i : ℕ) → k ≤ i → i < length (behind b (suc base) ++ S) → base + suc at < get_or (behind b (suc base) ++ S) i 0) → cond b 1 0 + n ≡ k
count_by_test true base at n zero S known le low high = let x : base + suc at < suc base = high 0 (omega arith) (omega arith) in absurd (omega arith)
count_by_test true base at n (suc k) S known le low high =
    let x : n ≡ k = known k (omega arith) (λ i h. let y = low (suc i) (omega arith) in omega (arith, y)) (λ i h l. let y = high (suc i) (omega arith) (omega arith) in omega (arith, y)) in omega arith
count_by_test false base at n k S known le low high =
    let x : n ≡ k = known k le (λ i h. let y = low i h in omega (arith, y)) (λ i h l. let y = high i h l in omega (arith, y)) in omega arith

count_is : (base at : ℕ) (cs : List ℕ) (k : ℕ) → k ≤ length (starts_from base cs) → ((i : ℕ) → i < k → get_or (starts_from base cs) i 0 ≤ base + at)
    → ((i : ℕ) → k ≤ i → i < length (starts_from base cs) → base + at < get_or (starts_from base cs) i 0) → count_by (λ c. c == 10) (take at cs) ≡ k
count_is base zero [] k le low high = omega arith
count_is base (suc at) [] k le low high = omega arith
count_is base zero (c ∷ cs) zero le low high = refl
count_is base zero (c ∷ cs) (suc k) le low high =
    let x = low 0 (omega arith) in let y = above base (c ∷ cs) 0 (omega arith) in absurd (omega (arith, x, y))
count_is base (suc at) (c ∷ cs) k le low high =
    sum_by-cons (λ c. cond (c == 10) 1 0) c (take at cs) ∙ count_by_test (c == 10) base at (count_by (λ c. c == 10) (take at cs)) k (starts_from (suc base) cs) (count_is (suc base) at cs) le low high

pub line_is : (cs : List ℕ) (at k : ℕ) → k ≤ length (line_starts cs) → ((i : ℕ) → i < k → get_or (line_starts cs) i 0 ≤ at) → ((i : ℕ) → k ≤ i → i < length (line_starts cs) → at < get_or (line_starts cs) i 0)
    → k ≡ line_after (take at cs)
line_is cs at zero le low high = let x : at < 0 = high 0 (omega arith) (omega arith) in absurd (omega arith)
line_is cs at (suc k) le low high =
    ap suc (sym (count_is 0 at cs k (omega arith) (λ i h. let y = low (suc i) (omega arith) in omega (arith, y)) (λ i h l. let y = high (suc i) (omega arith) (omega arith) in omega (arith, y))))

pub line_between : (cs : List ℕ) (at k : ℕ) (S : List ℕ) → S ≡ line_starts cs → k ≤ length S → IsPartitionPoint (λ y. leb y at ≡ true) (λ y. leb y at ≡ false) S k → k ≡ line_after (take at cs)
line_between cs at k S same le point =
    let parted = subst (λ (xs : List ℕ). (k ≤ length xs) × IsPartitionPoint (λ y. leb y at ≡ true) (λ y. leb y at ≡ false) xs k) same (le, point) in
    line_is cs at k parted.0 (λ i h. leb-true _ _ (parted.1.0 i 0 (omega arith) h)) (λ i h l. leb-false _ _ (parted.1.1 i 0 h l))

-- THE COLUMN: counted from where the line begins

-- the line behind an LF begins there
next_by : (b : Bool) (base at n : ℕ) (S : List ℕ) → get_or S n 0 ≡ suc base + suc at → get_or (behind b (suc base) ++ S) (cond b 1 0 + n) 0 ≡ base + suc (suc at)
next_by true base at n S e = let index : 1 + n ≡ suc n = omega arith in ap (λ (i : ℕ). get_or (suc base ∷ S) i 0) index ∙ e ∙ omega arith
next_by false base at n S e = let index : 0 + n ≡ n = omega arith in ap (λ (i : ℕ). get_or S i 0) index ∙ e ∙ omega arith

next_start : (base at : ℕ) (cs : List ℕ) → at < length cs → (get_or cs at 0 == 10) ≡ true → get_or (starts_from base cs) (count_by (λ c. c == 10) (take at cs)) 0 ≡ base + suc at
next_start base at [] h e = absurd (omega arith)
next_start base zero (c ∷ cs) h e = ap (λ (b : Bool). get_or (behind b (suc base) ++ starts_from (suc base) cs) 0 0) e ∙ omega arith
next_start base (suc at) (c ∷ cs) h e =
    ap (λ (n : ℕ). get_or (starts_from base (c ∷ cs)) n 0) (sum_by-cons (λ c. cond (c == 10) 1 0) c (take at cs))
    ∙ next_by (c == 10) base at (count_by (λ c. c == 10) (take at cs)) (starts_from (suc base) cs) (next_start (suc base) at cs (omega arith) e)

-- where the line of a character begins
abbrev start_before : List ℕ → ℕ → ℕ
start_before cs at = get_or (line_starts cs) (line_after (take at cs) - 1) 0

column_step : (b : Bool) (cs : List ℕ) (at : ℕ) → at < length cs → (get_or cs at 0 == 10) ≡ b → start_before cs at + column_after (take at cs) ≡ at + 1
    → start_before cs (suc at) + column_after (take (suc at) cs) ≡ suc at + 1
column_step true cs at h e known =
    let c : ℕ = get_or cs at 0 in
    let is : c ≡ 10 = eqb-true c 10 e in
    let more : take (suc at) cs ≡ take at cs ++ c ∷ [] = take-suc cs at 0 h in
    let line : line_after (take (suc at) cs) ≡ line_after (take at cs) + 1 = ap line_after more ∙ line_break (take at cs) c is in
    let column : column_after (take (suc at) cs) ≡ 1 = ap column_after more ∙ column_break (take at cs) c is in
    let index : line_after (take (suc at) cs) - 1 ≡ suc (count_by (λ c. c == 10) (take at cs)) = omega (arith, line) in
    let start : start_before cs (suc at) ≡ suc at = ap (λ (i : ℕ). get_or (line_starts cs) i 0) index ∙ next_start 0 at cs h e ∙ omega arith in
    omega (arith, start, column)
column_step false cs at h e known =
    let c : ℕ = get_or cs at 0 in
    let more : take (suc at) cs ≡ take at cs ++ c ∷ [] = take-suc cs at 0 h in
    let line : line_after (take (suc at) cs) ≡ line_after (take at cs) = ap line_after more ∙ line_same (take at cs) c e in
    let column : column_after (take (suc at) cs) ≡ column_after (take at cs) + 1 = ap column_after more ∙ column_same (take at cs) c e in
    let start : start_before cs (suc at) ≡ start_before cs at = ap (λ (n : ℕ). get_or (line_starts cs) (n - 1) 0) line in
    omega (arith, start, column, known)

pub column_is : (cs : List ℕ) (at : ℕ) → at ≤ length cs → start_before cs at + column_after (take at cs) ≡ at + 1
column_is cs zero h = refl
column_is cs (suc at) h = column_step (get_or cs at 0 == 10) cs at (omega arith) refl (column_is cs at (omega arith))

-- from the start of the line that so many starts tell
pub column_from : (cs : List ℕ) (at line start gap : ℕ) → at ≤ length cs → line ≡ line_after (take at cs) → start ≡ get_or (line_starts cs) (line - 1) 0 → gap ≡ at - start → gap + 1 ≡ column_after (take at cs)
column_from cs at line start gap h line_is start_is gap_is =
    let begins : start ≡ start_before cs at = start_is ∙ ap (λ (n : ℕ). get_or (line_starts cs) (n - 1) 0) line_is in
    omega (arith, column_is cs at h, begins, gap_is)

-- ONE CHARACTER FURTHER

module _ (at : ℕ) (bytes rest out : List ℕ) (c : ℕ) (utf8 : IsUtf8 bytes) (e : bytes ≡ encode_utf8 c ++ rest) where
  index : at + 1 ≡ suc at
  index = omega arith

  pub starts_step : (out' whole : List ℕ) → out' ≡ out ++ behind (c == 10) (at + 1) → out ++ starts_from at (chars bytes) ≡ whole → out' ++ starts_from (at + 1) (chars rest) ≡ whole
  starts_step out' whole step w =
      let all : starts_from at (chars bytes) ≡ behind (c == 10) (suc at) ++ starts_from (suc at) (chars rest) = ap (starts_from at) (chars_past_char bytes rest c utf8 e) in
      ap (λ o. o ++ starts_from (at + 1) (chars rest)) step ∙ append_assoc out (behind (c == 10) (at + 1)) (starts_from (at + 1) (chars rest))
      ∙ ap (λ (n : ℕ). out ++ (behind (c == 10) n ++ starts_from n (chars rest))) index ∙ ap (λ s. out ++ s) (sym all) ∙ w

  pub one_further : (n : ℕ) → at + length (chars bytes) ≡ n → at + 1 + length (chars rest) ≡ n
  one_further n h = omega (arith, ap length (chars_past_char bytes rest c utf8 e))

pub starts_end : (at n : ℕ) (bytes out whole : List ℕ) → length bytes ≡ 0 → at + length (chars bytes) ≡ n → out ++ starts_from at (chars bytes) ≡ whole → (out ≡ whole) × (at ≡ n)
starts_end at n [] out whole e h w = (sym (append-nil out) ∙ ap (λ cs. out ++ starts_from at cs) (sym chars-nil) ∙ w, omega (arith, ap length chars-nil))
starts_end at n (b ∷ bytes) out whole e h w = absurd (omega arith)
