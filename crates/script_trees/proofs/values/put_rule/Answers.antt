use Rattle.std.proofs.Common.{◌∙◌, ◌∷◌, ℕ, List, sym, subst}
use Rattle.grammar_model.specs.Values.{Text, Number}
use Rattle.value_text.specs.Pool.{AreIds}
use Rattle.valuator.specs.Made.{values_at}
use Rattle.valuator.proofs.Grown.{grown_put, grown_through}
use Rattle.script_trees.specs.Stack.{Holds}
use Rattle.script_trees.proofs.Holding.{none_held, part_put, parts_and, list_result}
use Rattle.script_trees.proofs.values.put_rule.Goals as goal

pub list-requires : goal.list-requires
list-requires c =
    let none = none_held c.args.pool.now c.clear.new.self.items c.clear.ensures.items in
    let one = part_put _ _ _ _ _ _ _ none c.in_ok-left.ensures.ok c.in_ok-push.ensures.items in
    let two = part_put _ _ _ _ _ _ _ one c.in_ok-number.ensures.ok c.in_ok-push-2.ensures.items in
    let grown = grown_through _ _ _ (grown_put _ _ _ _ c.in_ok-left.ensures.ok) (grown_put _ _ _ _ c.in_ok-number.ensures.ok) in
    let all = parts_and _ _ _ _ _ _ grown two c.requires c.in_ok-extend_from_slice.ensures.items in
    subst (AreIds _) (sym c.deref.ensures.value) all.inside

pub returns : goal.returns
returns c =
    let none = none_held c.args.pool.now c.clear.new.self.items c.clear.ensures.items in
    let one = part_put _ _ _ _ _ _ _ none c.in_ok-left.ensures.ok c.in_ok-push.ensures.items in
    let two = part_put _ _ _ _ _ _ _ one c.in_ok-number.ensures.ok c.in_ok-push-2.ensures.items in
    let grown = grown_through _ _ _ (grown_put _ _ _ _ c.in_ok-left.ensures.ok) (grown_put _ _ _ _ c.in_ok-number.ensures.ok) in
    let all = parts_and _ _ _ _ _ _ grown two c.requires c.in_ok-extend_from_slice.ensures.items in
    list_result c.list.result _ _ _ c.deref.result.now (Text c.args.name.now ∷ Number c.args.rule ∷ values_at c.args.pool.now c.args.children.now) grown
    (subst (λ (n : ℕ). Holds c.num.new.self c.deref.result.now (Text c.args.name.now ∷ Number n ∷ values_at c.args.pool.now c.args.children.now)) (c.from.ensures ∙ c.rule.view_is)
    (subst (λ (ids : List ℕ). Holds c.num.new.self ids (Text c.args.name.now ∷ Number c.from.result ∷ values_at c.args.pool.now c.args.children.now)) (sym c.deref.ensures.value) all))
    c.list.ensures.ok
