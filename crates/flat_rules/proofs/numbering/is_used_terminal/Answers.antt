use Rattle.std.proofs.Common.{◌<◌, ◌∙◌, sym, true≢false, length, arith}
use Rattle.flat_rules.proofs.Rows.{row_is, rows_length}
use Rattle.flat_rules.proofs.Listing.{terminal_then, terminal_else}
use Rattle.flat_rules.proofs.numbering.is_used_terminal.Goals as goal

pub returns-then-has_none : goal.returns-then-has_none
returns-then-has_none c = λ d.
    let long = rows_length c.args.rows.now in
    let lt : c.args.s < length c.args.rows.now = omega (arith, long, c.requires.rows.sized, c.requires.symbol) in
    let row = c.deref.ensures.value ∙ row_is c.args.rows.now c.args.s c.index-rows-s.result lt c.index-rows-s.is ∙ c.requires.rows.each c.args.s c.requires.symbol in
    terminal_then c.args.c.now d c.args.s c.is_used.result (sym row ∙ c.has_none.ensures.0 c.if-has_none.true) c.is_used.ensures

pub returns-else-has_none : goal.returns-else-has_none
returns-else-has_none c = λ d.
    let long = rows_length c.args.rows.now in
    let lt : c.args.s < length c.args.rows.now = omega (arith, long, c.requires.rows.sized, c.requires.symbol) in
    let row = c.deref.ensures.value ∙ row_is c.args.rows.now c.args.s c.index-rows-s.result lt c.index-rows-s.is ∙ c.requires.rows.each c.args.s c.requires.symbol in
    c.if-has_none.false ∙ terminal_else c.args.c.now d c.args.s (λ e. true≢false (sym (c.has_none.ensures.1 (row ∙ e)) ∙ c.if-has_none.false))
