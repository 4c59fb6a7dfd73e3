use Rattle.std.proofs.Common.{◌∙◌, ap}
use Rattle.grammar_check.proofs.Saying.{said, refusal_told}
use Rattle.script_model.specs.Replies.{says, Refused}
use Rattle.marpa_script.specs.Machines.{building}
use Rattle.marpa_script.proofs.Replying.{on_ok}
use Rattle.marpa_script.proofs.precomputing.answer_refused.Goals as goal

pub returns-in_default : goal.returns-in_default
returns-in_default c =
    let g = c.args.w.now in
    let s = said g c.args.refusal.now c.requires.told c.requires.of c.in_default.not-NoMemory in
    on_ok c.put_refusal.result c.put_refusal.ensures (λ is. Refused s.told s.fault (ap (says (building g)) (is ∙ refusal_told g c.args.refusal.now s.told s.says)))
