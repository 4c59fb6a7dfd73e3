use Rattle.std.proofs.Common.{◌↔◌, sym, subst, Contains}
use Rattle.std.specs.Prelude.{IsTrue}
use Rattle.item_rows.proofs.Packing.{search_tells}
use Rattle.item_rows.proofs.packed.has_slotted.Goals as goal

pub returns : goal.returns
returns c =
    subst (λ b. IsTrue b ↔ Contains c.args.slotted.now c.args.number) (sym c.is_ok.ensures.value) (search_tells c.args.slotted.now c.requires c.args.number c.binary_search.result c.binary_search.ensures.position)
