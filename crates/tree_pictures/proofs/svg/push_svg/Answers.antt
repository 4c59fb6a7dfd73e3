use Rattle.std.proofs.Common.{◌++◌, ◌∙◌, ap, string_bytes}
use Rattle.std.proofs.lemmas.Result.{on_ok_weaker}
use Rattle.tree_pictures.proofs.svg.push_svg.Goals as goal

pub returns : goal.returns
returns c = on_ok_weaker c.put.result
    (λ e. record {
      text = string_bytes c.in_ok-picture.picture;
      drawing = c.in_ok-picture.ensures;
      is = e ∙ ap (λ t. string_bytes c.args.out.now ++ t) c.as_str.ensures.value;
    }) c.put.ensures
