use Rattle.threads.proofs.Parts.{parts_more}
use Rattle.threads.proofs.part.part_for.Goals as goal

pub list_part-requires-clause-rules : goal.list_part-requires-clause-rules
list_part-requires-clause-rules c = λ th h. (c.requires.row th h).is_rule

pub returns-in_err-number-clause-parts : goal.returns-in_err-number-clause-parts
returns-in_err-number-clause-parts c =
    parts_more c.args.flat.now c.args.parts.now c.number.new.self c.in_ok-part.part.items c.requires.parts (λ th h. c.requires.row th (c.in_ok-part.ensures.inside th h)) c.in_err-number.ensures.added

pub returns-clause-parts : goal.returns-clause-parts
returns-clause-parts c =
    parts_more c.args.flat.now c.args.parts.now c.number.new.self c.in_ok-part.part.items c.requires.parts (λ th h. c.requires.row th (c.in_ok-part.ensures.inside th h)) c.in_ok-number.ensures.added

pub returns-clause-part : goal.returns-clause-part
returns-clause-part c = c.in_ok-part.ensures.part c.number.new.self c.in_ok-number.number c.in_ok-number.ensures.found c.in_ok-number.ensures.list
