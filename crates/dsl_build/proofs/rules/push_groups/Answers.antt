use Rattle.std.proofs.Common.{◌≡◌, ◌<◌, ◌-◌, ◌+◌, ◌++◌, ◌∷◌, ◌∙◌, ℕ, suc, ap, sym, map, length, drop, arith, List, Vec, Global, get_or, append_assoc, add-one}
use Rattle.std.proofs.Math.Seq.{drop-cons}
use Rattle.std.proofs.lemmas.List.{length-map, length-drop}
use Rattle.grammar_model.specs.Grammar.{WrittenRule}
use Rattle.grammar_core.specs.Written.{rule_of}
use Rattle.language_model.specs.Tokens.{Spelled}
use Rattle.language_model.specs.Building.{plain_rule, rules_of_groups}
use Rattle.language_model.specs.Description.{Alternative}
use Rattle.dsl_statement.specs.declared.statement.Alternative.{Alternative as HeldAlternative}
use Rattle.dsl_build.specs.Resolving.{plain_with}
use Rattle.dsl_build.proofs.rules.push_groups.Goals as goal

abbrev Group : Type 0
Group = Vec HeldAlternative Global

abbrev alternatives : Group → List Alternative
alternatives g = g.items

-- one group more
groups_on : (names : List (List ℕ)) (left : Spelled) (count level i : ℕ) (gs : List Group) (g : Group) (before after whole : List WrittenRule) → i < length gs → g ≡ get_or gs i g → level + (i + 1) ≡ length gs →
    before ++ rules_of_groups names left count (map alternatives (drop i gs)) ≡ whole → after ≡ before ++ map (plain_rule names left level count) g.items → after ++ rules_of_groups names left count (map alternatives (drop (i + 1) gs)) ≡ whole
groups_on names left count level i gs g before after whole lt is sum so grown =
    let rest = map alternatives (drop (i + 1) gs) in
    let cut : drop i gs ≡ g ∷ drop (i + 1) gs = drop-cons gs i g lt ∙ ap (λ y. y ∷ drop (suc i) gs) (sym is) ∙ ap (λ k. g ∷ drop k gs) (sym (add-one i)) in
    let mapped = length-map (drop (i + 1) gs) alternatives in
    let dropped = length-drop (i + 1) gs in
    let long : length rest ≡ level = omega (arith, mapped, dropped, sum) in
    ap (λ rs. rs ++ rules_of_groups names left count rest) grown ∙ append_assoc before (map (plain_rule names left level count) g.items) (rules_of_groups names left count rest)
    ∙ ap (λ l. before ++ (map (plain_rule names left l count) g.items ++ rules_of_groups names left count rest)) (sym long)
    ∙ ap (λ xs. before ++ rules_of_groups names left count (map alternatives xs)) (sym cut) ∙ so

pub loop-group-preserved : goal.loop-group-preserved
loop-group-preserved c =
    let names = c.args.names.now in
    let left = c.args.left.now in
    let groups = c.args.groups.now in
    let level = c.loop-group.level - 1 in
    let count = length groups in
    let grown = c.in_ok-push_group.ensures ∙ ap (λ (rs : List WrittenRule). map rule_of c.loop-group.out.items ++ rs)
    (ap (λ lhs. map (plain_with names lhs level count) c.deref.result.now) c.number_of-lhs.ensures ∙ ap (map (plain_rule names left level count)) c.deref.ensures.value) in
    let sum : level + (c.loop-group.group-index + 1) ≡ length groups = omega (arith, c.loop-group.invariant.level) in
    record {
      level = sum;
      rules = groups_on names left count level c.loop-group.group-index groups c.group-item.result (map rule_of c.loop-group.out.items) _ _ (omega arith) c.group-item.is sum c.loop-group.invariant.rules grown;
    }
