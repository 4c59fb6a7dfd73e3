use Rattle.forest_parts.proofs.NodeKeys.{key_there}
use Rattle.forest_parts.proofs.unasked.is_met.Goals as goal

pub returns : goal.returns
returns c = key_there c.args.keys.now.keys (record { rule = c.args.item.rule; dot = c.args.item.dot; origin = c.args.item.origin; end = c.args.end }) c.contains.result c.contains.ensures
