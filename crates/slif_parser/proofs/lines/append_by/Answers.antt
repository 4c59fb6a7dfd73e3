use Rattle.slif_parser.proofs.Showing.{alone}
use Rattle.slif_parser.proofs.lines.append_by.Goals as goal

pub append_told-requires-clause-tellers : goal.append_told-requires-clause-tellers
append_told-requires-clause-tellers g c =
    (c.args.show, alone _ _ c.push.new.self.items c.new-tellers.result.items c.args.teller c.in_ok-push.ensures.items c.new-tellers.ensures.items c.requires.empty c.args.show c.requires.kind)

pub returns-clause-ok : goal.returns-clause-ok
returns-clause-ok g c = λ t is.
    c.append_told.ensures.ok c.args.show t
    (alone _ _ c.push.new.self.items c.new-tellers.result.items c.args.teller c.in_ok-push.ensures.items c.new-tellers.ensures.items c.requires.empty c.args.show c.requires.kind) is
