use Rattle.std.proofs.Common.{codes, decimal, string_bytes}
use Rattle.std.proofs.lemmas.Result.{on_ok_weaker}
use Rattle.tree_pictures.proofs.Appended.{three}
use Rattle.tree_pictures.proofs.svg.push_frame_end.Goals as goal

pub returns : goal.returns
returns c =
    on_ok_weaker c.put-2.result
    (λ e. three (string_bytes c.args.out.now) (codes "\" width=\"") (decimal c.args.tile.now.width) (codes "\" height=\"26\" rx=\"4\" fill=\"#fff\" stroke=\"#888\"/>\n") _ _ _ c.in_ok-put.ensures c.in_ok-put_long.ensures e) c.put-2.ensures
