use Rattle.std.proofs.Common.{◌∙◌, ◌++◌, ap, string_bytes}
use Rattle.std.proofs.lemmas.Result.{on_ok_weaker}
use Rattle.tree_text.specs.Telling.{difference_of}
use Rattle.tree_text.proofs.Found.{found}
use Rattle.tree_text.proofs.telling.push_difference.Goals as goal

pub returns : goal.returns
returns c =
    let out = string_bytes c.args.out.now in
    on_ok_weaker c.put.result
    (λ e. e ∙ ap (λ t. out ++ t) (c.as_str.ensures.value ∙ c.in_ok-text.ensures)
    ∙ ap (λ o. out ++ difference_of o c.args.one.now c.args.other.now c.args.at) (found c.args.one.now c.args.at c.in-Some.node c.in-Some.ensures.lookup)) c.put.ensures
