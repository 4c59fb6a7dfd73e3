use Rattle.std.proofs.Common.{◌∙◌, ap, length, sym, string_bytes}
use Rattle.std.proofs.lemmas.List.{length-map}
use Rattle.tree_pictures.proofs.Appended.{same_length}
use Rattle.tree_pictures.proofs.boxes.boxes_by.Goals as goal

pub returns-clause-each : goal.returns-clause-each
returns-clause-each c =
    sym (length-map c.in_ok-labels.labels.items string_bytes) ∙ ap length c.in_ok-labels.ensures ∙ same_length c.args.counts.now c.deref.result.now 0 c.args.nodes.now ∙ sym (ap length c.in_ok-aboves.ensures)
