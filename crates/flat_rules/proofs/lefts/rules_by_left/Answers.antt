use Rattle.std.proofs.Common.{arith, ◌∙◌, ap, ◌≡◌, length}
use Rattle.flat_rules.specs.Tables.{rows_of}
use Rattle.flat_rules.proofs.Rows.{lefts_more, rows_length, rules_to}
use Rattle.flat_rules.proofs.lefts.rules_by_left.Goals as goal

pub loop-i-init : goal.loop-i-init
loop-i-init c = (c.in_ok-rows.ensures.length ∙ c.symbol_count.ensures.count, c.in_ok-rows.ensures.empty)

pub loop-i-preserved : goal.loop-i-preserved
loop-i-preserved c =
    let a = c.in_ok-add_to_row.ensures in (
      omega (arith, a.same_length, rows_length c.loop-i.rows.items, rows_length c.add_to_row.new.rows.items, c.loop-i.invariant.0),
      lefts_more c.args.w.now (rows_of c.loop-i.rows.items) (rows_of c.add_to_row.new.rows.items) c.loop-i.i c.left.inside.0 (c.left.view_is ∙ c.lhs.ensures.is) c.loop-i.invariant.1 a,
    )

pub returns : goal.returns
returns c =
    let all : c.loop-i.i ≡ length c.args.w.now.rules = omega (arith, c.loop-i-test.false, c.loop-i.auto.i-end, c.rule_count-i-end.ensures.count) in record {
      sized = rows_length c.loop-i.rows.items ∙ c.loop-i.invariant.0;
      each = λ s lt. c.loop-i.invariant.1 s ∙ ap (λ n. rules_to c.args.w.now n s) all;
    }
