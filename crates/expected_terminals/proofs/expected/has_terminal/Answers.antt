use Rattle.std.proofs.Common.{◌↔◌, sym, subst, Contains}
use Rattle.std.specs.Prelude.{IsTrue}
use Rattle.item_rows.proofs.Packing.{search_tells}
use Rattle.expected_terminals.proofs.expected.has_terminal.Goals as goal

pub returns : goal.returns
returns c =
    subst (λ b. IsTrue b ↔ Contains c.args.terminals.now c.args.t) (sym c.is_ok.ensures.value) (search_tells c.args.terminals.now c.requires c.args.t c.binary_search.result c.binary_search.ensures.position)
