use Rattle.std.proofs.Common.{◌↔◌, sym, subst, Bool, Contains}
use Rattle.std.specs.Prelude.{IsTrue}
use Rattle.slot_analysis.proofs.Counting.{found_test}
use Rattle.slot_analysis.proofs.levels.is_level.Goals as goal

pub returns : goal.returns
returns c = subst (λ (b : Bool). IsTrue b ↔ Contains c.args.levels.now c.args.level) (sym c.is_ok.ensures.value) (found_test c.args.levels.now c.requires c.args.level c.binary_search.result c.binary_search.ensures.position)
