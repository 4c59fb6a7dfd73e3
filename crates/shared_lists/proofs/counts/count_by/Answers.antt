use Rattle.std.proofs.Common.{◌∙◌, sym}
use Rattle.shared_lists.proofs.counts.count_by.Goals as goal

pub returns-in-Some : goal.returns-in-Some
returns-in-Some c =
    let is = c.requires.counts c.args.bound c.in-Some.number (sym c.count_at.ensures ∙ c.in-Some.is) in
    record { bound = is.within; below = is.below; above = is.above }
