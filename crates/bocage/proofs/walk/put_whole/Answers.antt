use Rattle.std.proofs.Common.{◌≡◌, ◌∙◌, ◌-◌, ◌++◌, ℕ, List, [], Option, Some, length, Contains, sym, ap, subst}
use Rattle.recognizer_model.specs.declared.NodeKey.{NodeKey}
use Rattle.earley_sets.proofs.Membership.{Contains-first}
use Rattle.forest_parts.specs.declared.parts.RuleKey.{RuleKey}
use Rattle.bocage.specs.Walk.{whole_keys_by}
use Rattle.bocage.proofs.Growing.{grows_weaker}
use Rattle.bocage.proofs.walk.put_whole.Goals as goal

pub returns-in_ok-push-clause-grows : goal.returns-in_ok-push-clause-grows
returns-in_ok-push-clause-grows c =
    let key : List ℕ → NodeKey = λ (rhs : List ℕ). record { rule = c.in-Some.whole.rule; dot = length rhs; origin = c.args.part.end - c.args.part.length; end = c.args.part.end } in
    grows_weaker (λ (k : NodeKey). Contains (whole_keys_by c.args.flat.now c.args.part c.args.part.whole ++ []) k) (λ (k : NodeKey). k ≡ record { rule = c.in-Some.whole.rule; dot = length c.rhs.result.now; origin = c.args.part.end - c.args.part.length; end = c.args.part.end }) c.args.keys.now.keys c.number_of.new.keys.keys
    (λ k e. subst (λ (o : Option RuleKey). Contains (whole_keys_by c.args.flat.now c.args.part o ++ []) k) (sym c.in-Some.is) (subst (λ (z : NodeKey). Contains (whole_keys_by c.args.flat.now c.args.part (Some c.in-Some.whole) ++ []) z) (sym (e ∙ ap (λ (rhs : List ℕ). record { rule = c.in-Some.whole.rule; dot = length rhs; origin = c.args.part.end - c.args.part.length; end = c.args.part.end }) c.rhs.ensures)) (Contains-first _ [])))
    c.in_ok-node.ensures.grows
