use Rattle.std.proofs.Common.{◌∙◌, ◌++◌, ap, string_bytes}
use Rattle.std.proofs.lemmas.Result.{on_ok_weaker}
use Rattle.tree_text.specs.Telling.{cut_of}
use Rattle.tree_text.proofs.Found.{found}
use Rattle.tree_text.proofs.telling.push_cut.Goals as goal

pub returns : goal.returns
returns c =
    on_ok_weaker c.push_node_cut.result
    (λ e. e ∙ ap (λ o. string_bytes c.args.out.now ++ cut_of o c.args.nodes.now c.args.at) (found c.args.nodes.now c.args.at c.in-Some.node c.in-Some.ensures.lookup)) c.push_node_cut.ensures
