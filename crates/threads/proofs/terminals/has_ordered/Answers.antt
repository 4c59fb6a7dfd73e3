use Rattle.std.proofs.Common.{◌↔◌, sym, subst, Contains}
use Rattle.std.specs.Prelude.{IsTrue}
use Rattle.threads.proofs.Searching.{search_tells}
use Rattle.threads.proofs.terminals.has_ordered.Goals as goal

pub returns : goal.returns
returns c = subst (λ b. IsTrue b ↔ Contains c.args.list.now c.args.t) (sym c.is_ok.ensures.value) (search_tells c.args.list.now c.args.t c.binary_search.result c.requires c.binary_search.ensures.position)
