use Rattle.std.proofs.Common.{◌∙◌, map}
use Rattle.bocage.proofs.Whole.{begun_top, top_used, forest_by}
use Rattle.bocage.proofs.forest.Forest.grow_in.Goals as goal

pub walk-requires-clause-read : goal.walk-requires-clause-read
walk-requires-clause-read g c = record { checked = c.requires.checked; flat_of = c.requires.flat; is = c.in_ok-root.ensures.is }

pub walk-requires-clause-used : goal.walk-requires-clause-used
walk-requires-clause-used g c = top_used c.args.w.now c.args.ranking c.args.recce.now (record { checked = c.requires.checked; flat_of = c.requires.flat; is = c.in_ok-root.ensures.is }) c.requires.tree c.begin.new.keys.keys c.in_ok-root.root c.in_ok-root.ensures.root

pub walk-requires-clause-top : goal.walk-requires-clause-top
walk-requires-clause-top g c = begun_top c.args.recce.now c.begin.new.keys.keys c.in_ok-root.root c.in_ok-root.ensures.root

pub invariant_of-result : goal.invariant_of-result
invariant_of-result g c =
    forest_by c.args.w.now c.args.ranking c.args.recce.now (record { checked = c.requires.checked; flat_of = c.requires.flat; is = c.in_ok-root.ensures.is }) c.walk.new.found (map (λ r. r.now) c.in_ok-table.table.items) c.in_ok-table.ensures.visited
    c.begin.new.keys.keys c.in_ok-table.ensures.grows c.in_ok-keys.keys.items (c.in_ok-keys.ensures.items ∙ c.as_slice.ensures.keys) c.replace.result.items (λ i. (c.replace.ensures.value i).items) c.in_ok-root.root c.in_ok-root.ensures.root c.requires.tree c.differ.ensures

pub returns-clause-forest : goal.returns-clause-forest
returns-clause-forest g c =
    (forest_by c.args.w.now c.args.ranking c.args.recce.now (record { checked = c.requires.checked; flat_of = c.requires.flat; is = c.in_ok-root.ensures.is }) c.walk.new.found (map (λ r. r.now) c.in_ok-table.table.items) c.in_ok-table.ensures.visited
    c.begin.new.keys.keys c.in_ok-table.ensures.grows c.in_ok-keys.keys.items (c.in_ok-keys.ensures.items ∙ c.as_slice.ensures.keys) c.replace.result.items (λ i. (c.replace.ensures.value i).items) c.in_ok-root.root c.in_ok-root.ensures.root c.requires.tree c.differ.ensures).0
