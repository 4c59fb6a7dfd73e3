-- Results, and tests of two parts.
use Rattle.std.proofs.Common.{◌≡◌, Bool, true, false, ◌&&◌, Result, Ok, Err, refl, sym, true≢false}
use Rattle.std.specs.Prelude.{OnOk}

pub on_ok : {T E P Q : Type 0} (r : Result T E) → OnOk r P → (P → Q) → OnOk r Q
on_ok (Ok x) p f = f p
on_ok (Err y) p f = tt

pub both_true : (a b : Bool) → true ≡ a → true ≡ b → (a && b) ≡ true
both_true true b p q = sym q
both_true false b p q = absurd (true≢false p)

pub left_false : (a b : Bool) → false ≡ a → (a && b) ≡ false
left_false false b p = refl
left_false true b p = absurd (true≢false (sym p))

pub right_false : (a b : Bool) → false ≡ b → (a && b) ≡ false
right_false true b p = sym p
right_false false b p = refl
