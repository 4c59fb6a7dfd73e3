-- A text has a piece just where it can be taken apart about it.
use Rattle.std.proofs.Common.{◌↔◌, ◌≡◌, ℕ, Bool, true, false, ◌||◌, List, [], ◌∷◌, ◌++◌, length, drop, sym, ap, refl, arith}
use Rattle.std.specs.Bool.{nat_eq}
use Rattle.std.specs.List.{starts_with}
use Rattle.std.specs.Str.Iter.{HasSubslice}
use Rattle.std.proofs.lemmas.Slice.Eq.{starts_is}
use Rattle.std.proofs.lemmas.Bool.Decides.{Decides-eqb}
use Rattle.lint_hints.specs.Hints.{has_piece}

front : (piece text : List ℕ) → starts_with nat_eq text piece ≡ true → HasSubslice text piece
front piece text e = ([], drop (length piece) text, (starts_is Decides-eqb text piece (starts_with nat_eq text piece) refl).0 e)

begins_has : (piece text : List ℕ) → starts_with nat_eq text piece ≡ true → has_piece piece text ≡ true
begins_has piece [] e = e
begins_has piece (c ∷ text) e = ap (λ b. b || has_piece piece text) e

or_true : (a b : Bool) → b ≡ true → (a || b) ≡ true
or_true true b e = refl
or_true false b e = e

has_of : (piece text a b : List ℕ) → text ≡ a ++ (piece ++ b) → has_piece piece text ≡ true
has_of piece text [] b e = begins_has piece text ((starts_is Decides-eqb text piece (starts_with nat_eq text piece) refl).1 b e)
has_of piece [] (x ∷ a) b e = absurd (grind arith)
has_of piece (c ∷ text) (x ∷ a) b e = or_true (starts_with nat_eq (c ∷ text) piece) (has_piece piece text) (has_of piece text a b (grind arith))

of_has : (piece text : List ℕ) → has_piece piece text ≡ true → HasSubslice text piece
of_has piece [] e = front piece [] e
of_has piece (c ∷ text) e = by (starts_with nat_eq (c ∷ text) piece) refl e (of_has piece text)
  where
    by : (b : Bool) → starts_with nat_eq (c ∷ text) piece ≡ b → (b || has_piece piece text) ≡ true → (has_piece piece text ≡ true → HasSubslice text piece) → HasSubslice (c ∷ text) piece
    by true is t rest = front piece (c ∷ text) is
    by false is t rest = let w = rest t in (c ∷ w.0, w.1, ap (λ xs. c ∷ xs) w.2)

pub same : (r s : Bool) → (r ≡ true → s ≡ true) → (s ≡ true → r ≡ true) → r ≡ s
same true s f g = sym (f refl)
same false true f g = g refl
same false false f g = refl

pub piece_is : (r : Bool) (piece text : List ℕ) → (r ≡ true) ↔ HasSubslice text piece → r ≡ has_piece piece text
piece_is r piece text h = same r (has_piece piece text) (λ e. let w = h.0 e in has_of piece text w.0 w.1 w.2) (λ e. h.1 (of_has piece text e))
