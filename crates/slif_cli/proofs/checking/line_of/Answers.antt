use Rattle.std.proofs.Common.{[]}
use Rattle.std.proofs.lemmas.Option.{get_or_from_slice_get}
use Rattle.slif_cli.proofs.checking.line_of.Goals as goal

pub returns : goal.returns
returns c =
    let name = get_or_from_slice_get c.args.w.now.names c.args.row.now.symbol c.name.result.now [] c.name.ensures in
    cc (name, c.as_bytes.ensures.value, c.in_ok-line.ensures.items, c.in_ok-add_where.ensures, c.in_ok-add_where-2.ensures, c.in_ok-add_where-3.ensures, c.in_ok-push.ensures.items)
