use Rattle.std.proofs.Common.{arith, ◌++◌, ◌∷◌, [], map, ap, sym, ◌∙◌, ℕ}
use Rattle.std.specs.List.{range_with_len}
use Rattle.std.proofs.lemmas.List.FromFn.{map-range_with_len_more}
use Rattle.grammar_model.specs.Grammar.{rule_at, child_slot}
use Rattle.slot_analysis.specs.Slots.{number}
use Rattle.slot_analysis.proofs.Known.{body_small}
use Rattle.slot_analysis.proofs.clauses.put_body.Goals as goal

pub child_number-requires-clause-part : goal.child_number-requires-clause-part
child_number-requires-clause-part c = body_small c.args.separators (rule_at c.args.w.now c.args.i) c.loop-k.k (omega (arith, c.loop-k-test.true, c.count_at-k-end.ensures))

pub loop-k-preserved : goal.loop-k-preserved
loop-k-preserved c =
    let f : ℕ → ℕ = λ k. number c.args.bases.now (child_slot (rule_at c.args.w.now c.args.i) k) in
    c.in_ok-push.ensures.items ∙ (ap (λ l. l ++ c.child_number.result ∷ []) c.loop-k.invariant ∙
    (ap (λ x. map f (range_with_len 0 c.loop-k.k) ++ x ∷ []) c.child_number.ensures ∙ sym (map-range_with_len_more f 0 c.loop-k.k c.loop-k.k (omega arith))))
