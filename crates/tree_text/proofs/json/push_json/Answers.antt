use Rattle.std.proofs.Common.{◌∙◌, ◌++◌, ap, codes, append_assoc, string_bytes}
use Rattle.std.proofs.lemmas.Result.{on_ok_weaker}
use Rattle.tree_text.proofs.Jsons.{json_is}
use Rattle.tree_text.proofs.json.push_json.Goals as goal

pub returns : goal.returns
returns c = λ value e. on_ok_weaker c.put.result
    (λ w. w ∙ ap (λ t. t ++ codes "\n") c.in_ok-push_parts.ensures ∙ append_assoc (string_bytes c.args.out.now) _ (codes "\n")
    ∙ ap (λ t. string_bytes c.args.out.now ++ (t ++ codes "\n")) (json_is value _ e)) c.put.ensures
