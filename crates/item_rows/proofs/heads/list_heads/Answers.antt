use Rattle.std.proofs.Common.{ap, length, length-append, ◌∙◌, ◌∷◌, [], arith}
use Rattle.item_rows.proofs.Ruled.{more_heads, more_symbols}
use Rattle.item_rows.proofs.heads.list_heads.Goals as goal

pub loop-number-preserved : goal.loop-number-preserved
loop-number-preserved c =
    let n = ap length c.in_ok-push.ensures.items ∙ length-append c.loop-number.rules.items (c.find_rules.result ∷ []) in
    let m = ap length c.in_ok-push-2.ensures.items ∙ length-append c.loop-number.symbols.items (c.find_symbol.result ∷ []) in
    let long = c.loop-number.invariant.2 in
    let wide = c.loop-number.invariant.3 in (
      more_heads c.args.flat.now c.loop-number.rules.items c.find_rules.result c.loop-number.number c.push.new.self.items c.loop-number.invariant.0 long c.find_rules.ensures c.in_ok-push.ensures.items,
      more_symbols c.args.flat.now c.loop-number.symbols.items c.find_symbol.result c.loop-number.number c.push-in-loop-number.new.self.items c.loop-number.invariant.1 wide c.find_symbol.ensures c.in_ok-push-2.ensures.items,
      omega (arith, n, long),
      omega (arith, m, wide),
    )
