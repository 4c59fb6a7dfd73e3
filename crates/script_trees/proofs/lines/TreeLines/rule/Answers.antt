use Rattle.std.proofs.Common.{◌≡◌, ◌∙◌, ◌∷◌, ◌++◌, ◌-◌, [], List, length, take, drop, ap}
use Rattle.grammar_model.specs.Values.{Value, Text, Number, list_of}
use Rattle.valuator.specs.Made.{values_at}
use Rattle.valuator.proofs.Grown.{are_ids-drop}
use Rattle.script_trees.proofs.Holding.{newest_replaced}
use Rattle.script_trees.proofs.lines.TreeLines.rule.Goals as goal

pub put_rule-requires : goal.put_rule-requires
put_rule-requires c =
    are_ids-drop _ _ _ (length c.args.self.now.held.items - c.args.children) c.requires.held
    (c.newest-taken.ensures ∙ (λ i. drop (length (c.deref.ensures.value i) - c.args.children) (c.deref.ensures.value i)))

pub returns : goal.returns
returns c =
    let held = c.newest-taken.ensures ∙ (λ i. drop (length (c.deref.ensures.value i) - c.args.children) (c.deref.ensures.value i)) in
    let long : c.len.result ≡ length c.args.self.now.held.items = search in
    let front = c.truncate.ensures.items ∙ ap (λ n. take (n - c.args.children) c.args.self.now.held.items) long in
    newest_replaced _ _ _ _ _ _ c.in_ok-id.ensures c.requires.held c.args.children (λ (vs : List Value). list_of (Text c.args.name.now ∷ Number c.args.rule ∷ vs))
    (c.in_ok-push.ensures.items ∙ ap (λ ids. ids ++ c.in_ok-id.id ∷ []) front)
    (ap (λ ids. list_of (Text c.args.name.now ∷ Number c.args.rule ∷ values_at c.args.self.now.pool ids)) held)
