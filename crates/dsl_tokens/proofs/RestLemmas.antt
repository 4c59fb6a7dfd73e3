-- Whether a text begins with another, one character further.
use Rattle.std.proofs.Common.{◌≡◌, ◌∙◌, ap, refl, ℕ, ◌+◌, ◌<◌, ◌≤◌, true, false, ◌&&◌, List, [], ◌∷◌, length, drop, get_or, nat_eq, arith}
use Rattle.std.specs.List.{starts_with}
use Rattle.std.proofs.Math.ListN.{drop_of_length-le}
use Rattle.std.proofs.Math.Bool.{and-false}
use Rattle.std.proofs.lemmas.List.{drop_more}

pub prefix_step : (text prefix : List ℕ) (i : ℕ) → i < length text → i < length prefix → starts_with nat_eq (drop i text) (drop i prefix) ≡ (nat_eq (get_or prefix i 0) (get_or text i 0) && starts_with nat_eq (drop (i + 1) text) (drop (i + 1) prefix))
prefix_step text prefix i h l = (λ j. starts_with nat_eq (drop_more text i 0 h j) (drop_more prefix i 0 l j))

pub prefix_end : (text prefix : List ℕ) (i : ℕ) → length prefix ≤ i → starts_with nat_eq (drop i text) (drop i prefix) ≡ true
prefix_end text prefix i h = ap (λ (f : List ℕ). starts_with nat_eq (drop i text) f) (drop_of_length-le prefix h)

pub prefix_too_long : (text prefix : List ℕ) → length text < length prefix → starts_with nat_eq text prefix ≡ false
prefix_too_long [] [] h = absurd (omega arith)
prefix_too_long [] (f ∷ fs) h = refl
prefix_too_long (t ∷ ts) [] h = absurd (omega arith)
prefix_too_long (t ∷ ts) (f ∷ fs) h = ap (λ b. nat_eq f t && b) (prefix_too_long ts fs (omega arith)) ∙ and-false (nat_eq f t)
