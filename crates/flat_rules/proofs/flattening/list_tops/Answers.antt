use Rattle.std.proofs.Common.{◌≡◌, map, length, sym, ◌∙◌, ap, refl, arith, ◌++◌}
use Rattle.std.proofs.lemmas.Simd.{map-map}
use Rattle.grammar_model.specs.Grammar.{Grammar}
use Rattle.grammar_model.specs.Simple.{numbers}
use Rattle.recognizer_model.specs.declared.flat.FlatSymbol.TheVariants.{Top}
use Rattle.flat_model.specs.Flatten.{is_marked}
use Rattle.flat_rules.proofs.Adding.{numbers_step}
use Rattle.flat_rules.proofs.SymbolRules.{top_told}
use Rattle.flat_rules.proofs.flattening.list_tops.Goals as goal

pub loop-k-preserved : goal.loop-k-preserved
loop-k-preserved c = record {
  list = numbers_step Top c.loop-k.k (Top c.loop-k.k) c.args.list.now.items c.loop-k.list.items c.push.new.self.items c.loop-k.invariant.list c.in_ok-push.ensures.items refl;
  marks = λ d. numbers_step (λ k. is_marked c.args.c.now d (Top k)) c.loop-k.k c.nullable.result c.args.marks.now.items c.loop-k.marks.items c.push-in-loop-k.new.self.items (c.loop-k.invariant.marks d) c.in_ok-push-2.ensures.items
      (top_told c.args.c.now c.written-w.result.now d c.loop-k.k c.start.result c.nullable.result c.written-w.ensures c.start.ensures c.nullable.ensures);
}

pub returns-clause-list : goal.returns-clause-list
returns-clause-list c =
    let same = ap (λ (g : Grammar). length g.starts) c.written-w.ensures in
    let all : c.loop-k.k ≡ length c.args.c.now.starts = omega (arith, c.loop-k-test.false, c.loop-k.auto.k-end, c.start_count-k-end.ensures.count, same) in
    c.loop-k.invariant.list ∙ ap (λ n. c.args.list.now.items ++ map Top (numbers n)) all

pub returns-clause-marks : goal.returns-clause-marks
returns-clause-marks c = λ d.
    let same = ap (λ (g : Grammar). length g.starts) c.written-w.ensures in
    let all : c.loop-k.k ≡ length c.args.c.now.starts = omega (arith, c.loop-k-test.false, c.loop-k.auto.k-end, c.start_count-k-end.ensures.count, same) in
    c.loop-k.invariant.marks d ∙ ap (λ n. c.args.marks.now.items ++ map (λ k. is_marked c.args.c.now d (Top k)) (numbers n)) all
    ∙ ap (λ l. c.args.marks.now.items ++ l) (sym (map-map (is_marked c.args.c.now d) Top (numbers (length c.args.c.now.starts))))
