use Rattle.std.proofs.Common.{◌≡◌, ◌<◌, ◌≤◌, arith, ℕ, ⊎_elim}
use Rattle.std.proofs.lemmas.Bool.{cases_lt}
use Rattle.recognizer_model.specs.Flat.{lhs_of, IsRule}
use Rattle.grammar_core.proofs.flat.Flat.rules_of.Goals as goal

pub returns : goal.returns
returns c = λ r.
    let low = c.rules_below-start.ensures in
    let high = c.rules_up_to-end.ensures in (
      (λ h. (let rule : IsRule c.args.self.now r = omega (arith, h.1, high.bound) in
          let a = low.above r h.0 rule in let b = high.below r h.1 in (rule, omega arith))),
      (λ h. (inside (lhs_of c.args.self.now r) c.args.x r (c.rules_below-start.result) (low.below r) h.1, outside (lhs_of c.args.self.now r) c.args.x r (c.rules_up_to-end.result) (λ le. high.above r le h.0) h.1)),
    )
  where
    inside : (l x r n : ℕ) → (r < n → l < x) → l ≡ x → n ≤ r
    inside l x r n below e = ⊎_elim (λ lt. (let h = below lt in absurd (omega arith))) (λ ge. ge) (cases_lt r n)

    outside : (l x r n : ℕ) → (n ≤ r → x < l) → l ≡ x → r < n
    outside l x r n above e = ⊎_elim (λ lt. lt) (λ ge. (let h = above ge in absurd (omega arith))) (cases_lt r n)
