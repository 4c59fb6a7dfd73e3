use Rattle.std.proofs.Common.{codes, string_bytes}
use Rattle.std.proofs.lemmas.Result.{on_ok_weaker}
use Rattle.tree_pictures.specs.Pictures.{escaped_text, text_begin}
use Rattle.tree_pictures.proofs.Appended.{four}
use Rattle.tree_pictures.proofs.svg.push_text.Goals as goal

pub returns : goal.returns
returns c =
    on_ok_weaker c.put-2.result
    (λ e. four (string_bytes c.args.out.now) (text_begin c.args.tile.now) (codes "\" text-anchor=\"middle\">") (escaped_text c.args.label.now) (codes "</text>\n") _ _ _ _
    c.in_ok-push_text_begin.ensures c.in_ok-put.ensures c.in_ok-push_escaped.ensures e) c.put-2.ensures
