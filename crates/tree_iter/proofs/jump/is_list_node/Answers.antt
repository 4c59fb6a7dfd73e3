use Rattle.std.proofs.Common.{◌∙◌}
use Rattle.forest_laws.specs.Written.{is_list_rule}
use Rattle.tree_iter.proofs.GoalLemmas.{key_sound}
use Rattle.tree_iter.proofs.jump.is_list_node.Goals as goal

pub is_list_rule-requires : goal.is_list_rule-requires
is_list_rule-requires c = (key_sound c.args.forest.now c.known.ensures c.args.node c.requires c.flat-flat.result.now c.flat-flat.ensures c.key-key.result c.key-key.ensures.value).rule

pub returns : goal.returns
returns c = c.is_list_rule.ensures ∙ (λ i. is_list_rule (c.flat-flat.ensures i) ((c.key-key.ensures.value i).rule))
