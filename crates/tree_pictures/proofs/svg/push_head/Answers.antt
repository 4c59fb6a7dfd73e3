use Rattle.std.proofs.Common.{codes, decimal, string_bytes}
use Rattle.std.proofs.lemmas.Result.{on_ok_weaker}
use Rattle.tree_pictures.proofs.Appended.{five}
use Rattle.tree_pictures.proofs.svg.push_head.Goals as goal

pub returns : goal.returns
returns c =
    on_ok_weaker c.put-3.result
    (λ e. five (string_bytes c.args.out.now) (codes "<svg xmlns=\"http://www.w3.org/2000/svg\" width=\"") (decimal c.args.size.now.width) (codes "\" height=\"") (decimal c.args.size.now.height)
    (codes "\" font-family=\"monospace\" font-size=\"14\">\n<rect width=\"100%\" height=\"100%\" fill=\"#fff\"/>\n") _ _ _ _ _
    c.in_ok-put.ensures c.in_ok-put_width.ensures c.in_ok-put-2.ensures c.in_ok-put_long.ensures e) c.put-3.ensures
