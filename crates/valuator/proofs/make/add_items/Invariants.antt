use Rattle.std.proofs.Common.{◌≡◌, ◌++◌, take}
use Rattle.std.specs.List.{flat_map}
use Rattle.grammar_model.specs.Values.{item_values}
use Rattle.value_text.specs.Pool.{AreIds}
use Rattle.valuator.specs.Made.{made_of, values_at, IsGrown}
use Rattle.valuator.proofs.make.add_items.Given as goal

abbrev pub invariant-loop-item : goal.invariant-loop-item
invariant-loop-item l = record {
  values : values_at l.pool l.ids.items ≡ values_at l.fn.pool l.fn.ids.items ++ flat_map (item_values (made_of l.fn.pool l.fn.parts)) (take l.item-index l.items);
  ids : AreIds l.pool l.ids.items;
  children : AreIds l.pool l.parts.children.now;
  grown : IsGrown l.fn.pool l.pool;
}
