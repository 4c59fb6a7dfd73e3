use Rattle.std.proofs.Common.{◌≡◌, ◌-◌, [], length, take, drop, refl, sym, ap, ◌∙◌, arith}
use Rattle.std.proofs.lemmas.Option.{get_or_from_slice_get}
use Rattle.grammar_model.specs.Grammar.{WrittenRule, no_rule, rule_at, lhs_of}
use Rattle.grammar_model.specs.Values.{name_of}
use Rattle.grammar_core.specs.Steps.{step_of}
use Rattle.grammar_core.specs.Written.{rule_of}
use Rattle.valuator.specs.Play.{tokens_of}
use Rattle.tree_fold.specs.Values.{Gives, left_of}
use Rattle.tree_fold.proofs.Holding.{value_kept, failure_kept, left_kept}
use Rattle.tree_fold.proofs.fold.make.Given as given
use Rattle.tree_fold.proofs.fold.make.Goals as goal
use Rattle.tree_fold.proofs.fold.make.Goals.{in-Token, in-Nulled, in-Rule+in_ok-values-in-Rule}

-- what the semantics made is what comes of the step
gives : (g : given.Over) (c : goal.After-map_err g) → Gives g.S.Semantics.token_gives g.S.Semantics.nulled_gives g.S.Semantics.rule_gives c.args.text.now.w.now (tokens_of c.args.text.now.chars.now c.args.text.now.spans.now) c.args.semantics.now c.args.held.now.items (step_of c.args.step) c.match-step.made c.match-step.semantics
gives g c =
    elim c.match-step.branch [
      | in-Token w ↦ rw (w.made-is, w.semantics-is, w.in-Token.is, ← w.token_of.ensures.name, ← w.token_of.ensures.token, ← w.token_of.ensures.symbol) w.token-made.ensures
      | in-Nulled w ↦ rw (w.made-is, w.semantics-is, w.in-Nulled.is, get_or_from_slice_get c.args.text.now.w.now.names w.in-Nulled.symbol w.name.result.now [] w.name.ensures) w.nulled-made.ensures
      | in-Rule+in_ok-values-in-Rule w ↦
          let grammar = c.args.text.now.w.now in
          let held = c.args.held.now.items in
          let rule = get_or_from_slice_get grammar.rules w.in-Rule.rule (rule_of w.written_rule.result.now) no_rule w.written_rule.ensures in
          let name : name_of grammar (lhs_of (rule_at grammar w.in-Rule.rule)) ≡ w.name-in-Rule.result.now =
          ap (λ (r : WrittenRule). name_of grammar (lhs_of r)) rule ∙ ap (name_of grammar) (sym w.lhs-left.ensures) ∙ get_or_from_slice_get grammar.names w.lhs-left.result w.name-in-Rule.result.now [] w.name-in-Rule.ensures in
          let count : length held ≡ w.len.result = omega (arith, c.args.held.now.ok, w.len.ensures) in
          let values : drop (length held - w.in-Rule.children) held ≡ w.in_ok-values-in-Rule.values.items = ap (λ k. drop (k - w.in-Rule.children) held) count ∙ sym {b = drop (w.len.result - w.in-Rule.children) held} w.in_ok-values-in-Rule.ensures.tail in
          rw (w.made-is, w.semantics-is, w.in-Rule.is, name, values) w.rule-made.ensures
    ]

pub returns-clause-value : goal.returns-clause-value
returns-clause-value g c = value_kept c.match-step.made c.map_err.result _ (λ r. Gives g.S.Semantics.token_gives g.S.Semantics.nulled_gives g.S.Semantics.rule_gives c.args.text.now.w.now (tokens_of c.args.text.now.chars.now c.args.text.now.spans.now) c.args.semantics.now c.args.held.now.items (step_of c.args.step) r c.match-step.semantics) c.map_err.ensures.cases (gives g c)

pub returns-clause-failure : goal.returns-clause-failure
returns-clause-failure g c = failure_kept c.match-step.made c.map_err.result (λ r. Gives g.S.Semantics.token_gives g.S.Semantics.nulled_gives g.S.Semantics.rule_gives c.args.text.now.w.now (tokens_of c.args.text.now.chars.now c.args.text.now.spans.now) c.args.semantics.now c.args.held.now.items (step_of c.args.step) r c.match-step.semantics) (c.match-step.semantics ≡ c.args.semantics.now) c.map_err.ensures.cases (gives g c)

pub returns-clause-left : goal.returns-clause-left
returns-clause-left g c =
    left_kept c.map_err.result (c.match-step.held.items ≡ left_of c.args.held.now.items (step_of c.args.step)) (
    elim c.match-step.branch [
      | in-Token w ↦ rw (w.held-is, w.in-Token.is) refl
      | in-Nulled w ↦ rw (w.held-is, w.in-Nulled.is) refl
      | in-Rule+in_ok-values-in-Rule w ↦
          let held = c.args.held.now.items in
          let count : length held ≡ w.len.result = omega (arith, c.args.held.now.ok, w.len.ensures) in
          rw (w.held-is, w.in-Rule.is) (w.in_ok-values-in-Rule.ensures.items ∙ ap (λ k. take (k - w.in-Rule.children) held) (sym count))
    ])
