-- Lines and columns, one character further.
use Rattle.std.proofs.Common.{◌≡◌, ◌∙◌, ℕ, suc, ◌+◌, ◌≤◌, ◌==◌, Bool, true, false, not, cond, List, [], ◌∷◌, ◌++◌, length, reverse, sym, ap, arith, append_assoc, append-nil, IsUtf8}
use Rattle.std.specs.Prelude.{count_by, take_while}
use Rattle.std.specs.Str.{chars}
use Rattle.std.specs.Char.{encode_utf8}
use Rattle.std.proofs.lemmas.Str.{chars_past_char, chars-nil}
use Rattle.std.proofs.lemmas.List.{reverse-append, length-reverse}
use Rattle.std.proofs.lemmas.List.Sums.{sum_by-append, count_by-le-length, take_while-cons}
use Rattle.outside_model.specs.Places.{line_after, column_after}

pub line_break : (prefix : List ℕ) (c : ℕ) → c ≡ 10 → line_after (prefix ++ c ∷ []) ≡ line_after prefix + 1
line_break prefix c e = ap (λ c. line_after (prefix ++ c ∷ [])) e ∙ omega (arith, sum_by-append (λ c. cond (c == 10) 1 0) prefix (10 ∷ []))

pub line_same : (prefix : List ℕ) (c : ℕ) → (c == 10) ≡ false → line_after (prefix ++ c ∷ []) ≡ line_after prefix
line_same prefix c e =
    let one : count_by (λ c. c == 10) (c ∷ []) ≡ 0 = ap (λ b. 0 + cond b 1 0) e in
    omega (arith, one, sum_by-append (λ c. cond (c == 10) 1 0) prefix (c ∷ []))

pub column_break : (prefix : List ℕ) (c : ℕ) → c ≡ 10 → column_after (prefix ++ c ∷ []) ≡ 1
column_break prefix c e = ap (λ c. column_after (prefix ++ c ∷ [])) e ∙ ap (λ (cs : List ℕ). suc (length (take_while (λ c. not (c == 10)) cs))) (reverse-append prefix (10 ∷ []))

pub column_same : (prefix : List ℕ) (c : ℕ) → (c == 10) ≡ false → column_after (prefix ++ c ∷ []) ≡ column_after prefix + 1
column_same prefix c e =
    let other : ℕ → Bool = λ c. not (c == 10) in
    let turned : column_after (prefix ++ c ∷ []) ≡ suc (length (take_while other (c ∷ reverse prefix))) = ap (λ (cs : List ℕ). suc (length (take_while other cs))) (reverse-append prefix (c ∷ [])) in
    let step : take_while other (c ∷ reverse prefix) ≡ cond (other c) (c ∷ take_while other (reverse prefix)) [] = take_while-cons other c (reverse prefix) in
    let kept : suc (length (cond (other c) (c ∷ take_while other (reverse prefix)) [])) ≡ suc (suc (length (take_while other (reverse prefix)))) = ap (λ b. suc (length (cond (not b) (c ∷ take_while other (reverse prefix)) []))) e in
    omega (arith, turned, ap length step, kept)

by_test : (p : ℕ → Bool) (c : ℕ) (cs : List ℕ) (b : Bool) → length (take_while p cs) ≤ length cs → length (cond b (c ∷ take_while p cs) []) ≤ suc (length cs)
by_test p c cs true h = omega arith
by_test p c cs false h = omega arith

length-take_while : (p : ℕ → Bool) (cs : List ℕ) → length (take_while p cs) ≤ length cs
length-take_while p [] = omega arith
length-take_while p (c ∷ cs) = omega (arith, by_test p c cs (p c) (length-take_while p cs), ap length (take_while-cons p c cs))

pub line_small : (prefix : List ℕ) → line_after prefix ≤ length prefix + 1
line_small prefix = omega (arith, count_by-le-length (λ c. c == 10) prefix)

pub column_small : (prefix : List ℕ) → column_after prefix ≤ length prefix + 1
column_small prefix = omega (arith, length-take_while (λ c. not (c == 10)) (reverse prefix), length-reverse prefix)

pub read_on : (prefix bytes rest whole : List ℕ) (c : ℕ) → IsUtf8 bytes → bytes ≡ encode_utf8 c ++ rest → prefix ++ chars bytes ≡ whole → (prefix ++ c ∷ []) ++ chars rest ≡ whole
read_on prefix bytes rest whole c utf8 e w = append_assoc prefix (c ∷ []) (chars rest) ∙ ap (λ cs. prefix ++ cs) (sym (chars_past_char bytes rest c utf8 e)) ∙ w

pub read_all : (prefix bytes whole : List ℕ) → length bytes ≡ 0 → prefix ++ chars bytes ≡ whole → prefix ≡ whole
read_all prefix [] whole e w = sym (append-nil prefix) ∙ ap (λ cs. prefix ++ cs) (sym chars-nil) ∙ w
read_all prefix (b ∷ bytes) whole e w = absurd (omega arith)
