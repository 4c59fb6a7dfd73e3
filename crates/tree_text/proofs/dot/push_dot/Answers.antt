use Rattle.std.proofs.Common.{◌∙◌, ◌++◌, ap, codes, append_assoc, string_bytes}
use Rattle.std.proofs.lemmas.Result.{on_ok_weaker}
use Rattle.tree_text.specs.Written.{boxes_from, graph_head}
use Rattle.tree_text.proofs.dot.push_dot.Goals as goal

pub returns : goal.returns
returns c =
    let out = string_bytes c.args.out.now in
    let boxes = boxes_from 0 c.args.nodes.now in
    on_ok_weaker c.put-2.result
    (λ e. e ∙ ap (λ t. t ++ codes "}\n") c.in_ok-push_boxes.ensures ∙ ap (λ t. (t ++ boxes) ++ codes "}\n") c.in_ok-put.ensures
    ∙ ap (λ t. t ++ codes "}\n") (append_assoc out graph_head boxes) ∙ append_assoc out (graph_head ++ boxes) (codes "}\n")
    ∙ ap (λ t. out ++ t) (append_assoc graph_head boxes (codes "}\n"))) c.put-2.ensures
