-- Bytes that are not UTF-8 have a longest prefix that is.
use Rattle.std.proofs.Common.{◌≡◌, ◌∙◌, ℕ, zero, suc, ◌≤◌, Bool, true, false, List, refl, sym, subst, arith, length, take, IsUtf8}
use Rattle.std.proofs.lemmas.Bool.{true≢false}
use Rattle.std.proofs.lemmas.List.{take_all}
use Rattle.std.specs.Str.{IsValidUpTo, is_utf8}
use Rattle.std.proofs.lemmas.Str.{IsUtf8-from_is_utf8, is_utf8-from_IsUtf8, IsUtf8-nil}

pub broken : (bytes : List ℕ) → is_utf8 bytes ≡ false → IsUtf8 bytes → ⊥
broken bytes e utf8 = true≢false (sym (is_utf8-from_IsUtf8 bytes utf8) ∙ e)

-- prefixes of this length and longer ones are not UTF-8
abbrev NoneFrom : List ℕ → ℕ → Type 0
NoneFrom bytes n = (m : ℕ) → n ≤ m → IsUtf8 (take m bytes) → ⊥

longest_below : (n : ℕ) (bytes : List ℕ) → n ≤ length bytes → NoneFrom bytes n → (at : ℕ) × IsValidUpTo bytes at
longest_below zero bytes within none = absurd (none 0 (omega arith) IsUtf8-nil)
longest_below (suc n) bytes within none =
    by_prefix (is_utf8 (take n bytes)) refl (λ (more : NoneFrom bytes n). longest_below n bytes (omega (arith, within)) more)
  where
    here : is_utf8 (take n bytes) ≡ false → (m : ℕ) → n ≤ m → IsUtf8 (take m bytes) → ⊥
    here e m le utf8 = none m (omega (arith, le, differs m utf8)) utf8
      where
        differs : (m : ℕ) → IsUtf8 (take m bytes) → n ≡ m → ⊥
        differs m utf8 same = broken (take n bytes) e (subst (λ (k : ℕ). IsUtf8 (take k bytes)) (sym same) utf8)

    by_prefix : (b : Bool) → is_utf8 (take n bytes) ≡ b → (NoneFrom bytes n → (at : ℕ) × IsValidUpTo bytes at) → (at : ℕ) × IsValidUpTo bytes at
    by_prefix true e more = (n, record { short = omega (arith, within); front = IsUtf8-from_is_utf8 (take n bytes) e; longest = λ m lt utf8. none m (omega (arith, lt)) utf8 })
    by_prefix false e more = more (here e)

pub broken_at : (bytes : List ℕ) → is_utf8 bytes ≡ false → (at : ℕ) × (¬ (IsUtf8 bytes)) × IsValidUpTo bytes at
broken_at bytes e =
    let some = longest_below (length bytes) bytes (omega arith) (λ m le utf8. broken bytes e (subst IsUtf8 (take_all m bytes le) utf8)) in
    (some.0, broken bytes e, some.1)
