use Rattle.std.proofs.Common.{◌≡◌, ◌++◌, ◌∷◌, [], map, ap, ◌∙◌, sym, arith}
use Rattle.grammar_model.specs.Grammar.{rule_at}
use Rattle.grammar_model.specs.Simple.{numbers, part_count}
use Rattle.flat_rules.specs.Added.{part_in}
use Rattle.flat_rules.proofs.Adding.{map_next}
use Rattle.flat_rules.proofs.pushing.right_side.Goals as goal

pub loop-k-preserved : goal.loop-k-preserved
loop-k-preserved c =
    c.in_ok-push.ensures.items ∙ (λ z. c.loop-k.invariant z ++ c.part_number.ensures z ∷ []) ∙ sym (map_next (part_in c.args.symbols.now (rule_at c.args.w.now c.args.i)) c.loop-k.k)

pub returns : goal.returns
returns c =
    let is = ap part_count c.rule.ensures.is in
    let all : c.loop-k.k ≡ part_count (rule_at c.args.w.now c.args.i) = omega (arith, c.loop-k-test.false, c.loop-k.auto.k-end, c.count_parts-count.ensures, is) in
    c.loop-k.invariant ∙ ap (λ n. map (part_in c.args.symbols.now (rule_at c.args.w.now c.args.i)) (numbers n)) all
