use Rattle.std.proofs.Common.{subst, List}
use Rattle.recognizer_model.specs.declared.Item.{Item}
use Rattle.leo_items.specs.ByRows.{IsMemo}
use Rattle.leo_items.proofs.Chains.{memo_none, memo_empty}
use Rattle.earley_sets.proofs.recce.add_first.Goals as goal

pub add_row-requires-clause-memo : goal.add_row-requires-clause-memo
add_row-requires-clause-memo g c = memo_none c.args.flat.now c.args.rows.now.sets c.args.memo.now c.requires.memo

pub returns-clause-memo : goal.returns-clause-memo
returns-clause-memo g c = memo_empty c.args.flat.now c.add_row.new.memo (subst (λ (l : List (List Item)). IsMemo c.args.flat.now l c.add_row.new.memo) c.requires.rows c.add_row.ensures.memo)
