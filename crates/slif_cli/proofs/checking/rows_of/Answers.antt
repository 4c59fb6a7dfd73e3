use Rattle.std.proofs.Common.{◌≡◌, ◌<◌, ◌∙◌, ℕ, [], ◌∷◌, length, map, sym, ap, subst, arith, slice_index_or}
use Rattle.std.proofs.lemmas.List.{map-append}
use Rattle.grammar_model.specs.Grammar.{Grammar, rule_at, lhs_of}
use Rattle.slif_cli.specs.Stops.{told_row}
use Rattle.slif_cli.proofs.Rows.{collected_same, collected_more, known_held}
use Rattle.slif_cli.proofs.checking.rows_of.Goals.{then-not-index+in_ok-push, else-not-index}
use Rattle.slif_cli.proofs.checking.rows_of.Goals as goal

pub returns-clause-known : goal.returns-clause-known
returns-clause-known c = known_held (length c.args.prepared.now.g1.names) c.loop-i.rows.items c.loop-i.invariant.known

pub loop-i-preserved : goal.loop-i-preserved
loop-i-preserved c =
    let g : Grammar = c.args.prepared.now.g1 in
    let i = c.loop-i.i in
    let seen = c.loop-i.seen.items in
    let s = c.lhs-symbol.result in
    let r = c.index.result.now in
    let e : c.written-w.result.now ≡ g = c.written-w.ensures in
    let size : length c.written-w.result.now.rules ≡ length g.rules = ap (λ (x : Grammar). length x.rules) e in
    let lt : i < length g.rules = omega (arith, c.loop-i-test.true, c.loop-i.auto.i-end, c.rule_count-i-end.ensures.count, size) in
    let is : s ≡ lhs_of (rule_at g i) = subst (λ (x : Grammar). s ≡ lhs_of (rule_at x i)) e c.lhs-symbol.ensures.is in
    let known : s < length g.names = subst (λ (x : Grammar). s < length x.names) e c.lhs-symbol.ensures.known in
    let held : r ≡ slice_index_or seen s r = subst (λ (x : ℕ). r ≡ slice_index_or seen x r) c.symbol.view_is c.index.ensures in
    elim c.if-not-index.branch [
      | then-not-index+in_ok-push w ↦
          rw (w.seen-is, w.rows-is, w.in_ok-push.ensures.items, w.mark.ensures, c.symbol.view_is, map-append told_row c.loop-i.rows.items (w.row_of.result ∷ []))
          (collected_more g i seen (map told_row c.loop-i.rows.items) c.loop-i.invariant lt s is known (told_row w.row_of.result) w.row_of.ensures.same w.row_of.ensures.told r (sym held ∙ w.if-not-index.true))
      | else-not-index w ↦
          rw (w.seen-is, w.rows-is) (collected_same g i seen (map told_row c.loop-i.rows.items) c.loop-i.invariant lt s is known r (sym held ∙ w.if-not-index.false))
    ]
