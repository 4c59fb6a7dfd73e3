use Rattle.std.proofs.Common.{◌≡◌, ℕ, zero, suc, ◌%◌, Bool, true, false, nat_eq, refl, ◌∙◌, ap, arith}
use Rattle.std.specs.Prelude.{not}
use Rattle.grammar_model.specs.Grammar.{is_even}
use Rattle.tree_iter.proofs.jump.is_even.Goals as goal

even_mod : (n : ℕ) → nat_eq (n % 2) 0 ≡ is_even n
even_mod zero = refl
even_mod (suc zero) = refl
even_mod (suc (suc n)) =
    let e : suc (suc n) % 2 ≡ n % 2 = omega arith in
    ap (λ k. nat_eq k 0) e ∙ even_mod n ∙ twice (is_even n)
  where
    twice : (b : Bool) → b ≡ not (not b)
    twice true = refl
    twice false = refl

pub returns : goal.returns
returns c = even_mod c.args.count
