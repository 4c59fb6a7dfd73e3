use Rattle.std.proofs.Common.{ap}
use Rattle.flat_rules.proofs.Counted.{few_rules, many_rules}
use Rattle.script_model.specs.Machine.{that_reads}
use Rattle.script_model.specs.Replies.{says, TooManyRules, Ready}
use Rattle.marpa_script.specs.Machines.{building}
use Rattle.marpa_script.proofs.precomputing.answer_checked.Goals as goal

pub returns-in_ok-put-in-Ok-clause-replies : goal.returns-in_ok-put-in-Ok-clause-replies
returns-in_ok-put-in-Ok-clause-replies c =
    let g = c.args.checked.now in
    Ready c.known.ensures.checked (few_rules g c.in-Ok.flat c.in-Ok.ensures.flat) (ap (says (that_reads (building g))) c.in_ok-put-in-Ok.ensures)

pub returns-in_ok-put-in-Err-TooManyRules-clause-replies : goal.returns-in_ok-put-in-Err-TooManyRules-clause-replies
returns-in_ok-put-in-Err-TooManyRules-clause-replies c =
    let g = c.args.checked.now in
    let many = c.in-Err-TooManyRules.ensures.many c.in-Err-TooManyRules.field-0-is in
    TooManyRules c.known.ensures.checked (many_rules g c.known.ensures.checked many) (ap (says (building g)) c.in_ok-put-in-Err-TooManyRules.ensures)
