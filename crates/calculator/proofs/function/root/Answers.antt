use Rattle.std.proofs.Common.{◌≡◌, ℕ, ◌+◌, ◌*◌, ◌<◌, ◌≤◌, sym, ◌∙◌, ap, arith, Some, pos, to_z, w64}
use Rattle.std.proofs.lemmas.Int.{ints}
use Rattle.calculator.proofs.function.root.Goals as goal

squares_meet : (r k : ℕ) → r * r ≤ k * k → k * k < (r + 1) * (r + 1) → r ≡ k
squares_meet r k low high = grind arith

pub returns-then-root-square : goal.returns-then-root-square
returns-then-root-square c =
    let number : c.args.number ≡ pos c.in_ok-square.square = grind (arith, ints) in
    let root : to_z w64 c.isqrt-root.result ≡ pos c.isqrt-root.result = grind (arith, ints) in
    record {
      root = λ k is.
          let square : k * k ≡ c.in_ok-square.square = (cc (sym is ∙ number)) in
          ap Some (root ∙ ap pos (squares_meet c.isqrt-root.result k (omega arith) (omega arith)));
      none = λ none. absurd (none c.isqrt-root.result (number ∙ ap pos (sym c.if-root-square.true)));
    }
