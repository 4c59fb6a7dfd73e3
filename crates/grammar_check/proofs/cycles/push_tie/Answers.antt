use Rattle.std.proofs.Common.{◌+◌, ◌-◌, ◌++◌, ◌∷◌, [], ℕ, List, inl, inr, ap, refl, ◌∙◌}
use Rattle.std.proofs.lemmas.Result.{on_ok_weaker}
use Rattle.grammar_check.proofs.Settling.{use_is}
use Rattle.grammar_check.proofs.cycles.push_tie.Goals as goal

pub returns-then-floors-y : goal.returns-then-floors-y
returns-then-floors-y c =
    on_ok_weaker c.push.result (λ e. e ∙ ap (λ (b : List ℕ). c.args.clauses.now ++ record { head = c.args.total + c.args.y; body = b } ∷ [])
    (use_is c.args.floors.now c.args.total c.args.y (c.args.y ∷ (c.args.total + (c.args.y - 1)) ∷ []) (inl (c.if-floors-y.true, refl)))) c.push.ensures.ok

pub returns-else-floors-y : goal.returns-else-floors-y
returns-else-floors-y c =
    on_ok_weaker c.push-else-floors-y.result (λ e. e ∙ ap (λ (b : List ℕ). c.args.clauses.now ++ record { head = c.args.total + c.args.y; body = b } ∷ [])
    (use_is c.args.floors.now c.args.total c.args.y (c.args.y ∷ []) (inr (c.if-floors-y.false, refl)))) c.push-else-floors-y.ensures.ok
