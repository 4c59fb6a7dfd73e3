use Rattle.std.proofs.Common.{arith, ◌++◌, length, sym, ap, ◌∙◌, length}
use Rattle.std.proofs.lemmas.Bool.{eqb-false}
use Rattle.grammar_check.proofs.Naming.{named_more, named_end}
use Rattle.grammar_check.proofs.message.names_text.Goals as goal

pub loop-k-preserved : goal.loop-k-preserved
loop-k-preserved c =
    let name = c.as_bytes.ensures.value ∙ c.symbol_name-in-loop-k.ensures in
    c.in_ok-extend_from_slice-2.ensures.items ∙ (ap (λ l. l ++ c.as_bytes.result.now) c.in_ok-extend_from_slice.ensures.items
    ∙ named_more c.args.w.now c.args.cycle.now c.loop-k.k c.index-cycle-k.result c.loop-k.text.items c.as_bytes.result.now c.loop-k.auto.k c.loop-k-test.true c.loop-k.invariant name)

pub returns : goal.returns
returns c =
    let some = eqb-false (length c.args.cycle.now) 0 (sym c.is_empty.ensures ∙ c.if-is_empty.false) in
    named_end c.args.w.now c.args.cycle.now c.loop-k.k c.loop-k.text.items (omega (arith, some)) (omega (arith, some, c.loop-k-test.false, c.loop-k.auto.k-end)) c.loop-k.invariant
