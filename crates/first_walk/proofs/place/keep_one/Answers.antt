use Rattle.std.proofs.Common.{List, ap, ◌∙◌}
use Rattle.indexmap.specs.IndexSet.{insert_key}
use Rattle.recognizer_model.specs.declared.NodeKey.{NodeKey}
use Rattle.forest_parts.proofs.NodeKeys.{node_eq}
use Rattle.first_walk.proofs.place.keep_one.Goals as goal

pub returns : goal.returns
returns c = c.in_ok-insert.ensures.keys ∙ ap (λ (l : List NodeKey). insert_key node_eq l c.args.key) c.truncate.ensures.keys
