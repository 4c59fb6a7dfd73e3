use Rattle.std.proofs.Common.{codes, decimal, string_bytes}
use Rattle.std.proofs.lemmas.Result.{on_ok_weaker}
use Rattle.tree_pictures.specs.Pictures.{row_top}
use Rattle.tree_pictures.proofs.Appended.{five}
use Rattle.tree_pictures.proofs.svg.push_line_end.Goals as goal

pub returns : goal.returns
returns c =
    on_ok_weaker c.put-3.result
    (λ e. five (string_bytes c.args.out.now) (codes "\" x2=\"") (decimal c.args.tile.now.middle) (codes "\" y2=\"") (decimal (row_top c.args.tile.now)) (codes "\" stroke=\"#888\"/>\n") _ _ _ _ _
    c.in_ok-put.ensures c.in_ok-put_middle.ensures c.in_ok-put-2.ensures c.in_ok-put_top.ensures e) c.put-3.ensures
