use Rattle.std.proofs.Common.{◌∷◌, [], ◌∙◌, ap, length, length-append, arith, ◌≡◌, subst}
use Rattle.item_rows.specs.Dotted.{IsSpan, AreSpans}
use Rattle.item_rows.proofs.Ruled.{more_noted}
use Rattle.item_rows.proofs.dotted.list_spans.Goals as goal

pub loop-symbol-preserved : goal.loop-symbol-preserved
loop-symbol-preserved c =
    let grown = ap length c.in_ok-push.ensures.items ∙ length-append c.loop-symbol.spans.items (c.find_span.result ∷ []) in
    let long = c.loop-symbol.invariant.all in
    record {
      all = omega (arith, grown, long);
      are = more_noted (IsSpan c.args.flat.now c.args.rules.now) c.loop-symbol.spans.items c.find_span.result c.loop-symbol.symbol c.push.new.self.items c.loop-symbol.invariant.are long c.find_span.ensures c.in_ok-push.ensures.items;
    }

pub returns : goal.returns
returns c =
    let same : c.loop-symbol.symbol ≡ length c.args.flat.now.symbols = (let done = c.loop-symbol-test.false in let count = c.symbol_count-symbol-end.ensures in omega arith) in
    subst (AreSpans c.args.flat.now c.args.rules.now c.loop-symbol.spans.items) same c.loop-symbol.invariant
