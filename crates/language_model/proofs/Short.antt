-- A side that tells no fault has at most a thousand parts.
use Rattle.std.proofs.Common.{arith, ◌≡◌, ℕ, ◌+◌, ◌≤◌, ◌==◌, Bool, true, false, List, [], ◌∷◌, length, refl}
use Rattle.std.specs.Prelude.{◌||◌, ◌&&◌, nat_lt}
use Rattle.std.proofs.lemmas.Bool.{true≢false, eqb-false}
use Rattle.finite_sets.proofs.Lists.{prefix_empty, back_empty}
use Rattle.language_model.specs.Tokens.{Spelled}
use Rattle.language_model.specs.Building.{Fault, long_parts, at_most, fault_at, is_quote, quoted}

pub none_of : (b : Bool) (f : Fault) → at_most b f ≡ [] → b ≡ false
none_of true f e = cc
none_of false f e = refl

pub not_long : (before : ℕ) (ts : List Spelled) → before ≤ 1000 → long_parts before ts ≡ [] → before + length ts ≤ 1000
not_long before [] le e = omega (arith, le)
not_long before (t ∷ ts) le e =
    let quote = is_quote t && nat_lt 1000 (length (quoted t.content)) in
    let here = at_most (before == 1000 || quote) (fault_at t) in
    let last : (before == 1000 || quote) ≡ false = none_of (before == 1000 || quote) (fault_at t) (prefix_empty here (long_parts (before + 1) ts) e) in
    let rest = not_long (before + 1) ts (go before le (before == 1000) refl quote last) (back_empty here (long_parts (before + 1) ts) e) in
    omega (arith, rest)
  where
    go : (n : ℕ) → n ≤ 1000 → (b : Bool) → (n == 1000) ≡ b → (c : Bool) → (b || c) ≡ false → n + 1 ≤ 1000
    go n le true is c f = absurd (true≢false f)
    go n le false is c f = let other = eqb-false n 1000 is in omega (arith, le, other)
