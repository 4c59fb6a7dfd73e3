use Rattle.std.proofs.Common.{◌∙◌, sym, subst}
use Rattle.script_model.specs.Replies.{says, PrecomputeReplies}
use Rattle.marpa_script.specs.Machines.{after_precompute, building}
use Rattle.scanning_calls.proofs.Hearing.{refused_now}
use Rattle.scanning_calls.proofs.scanning.Scanning.precompute.Goals as goal

pub returns-in-Ok-None : goal.returns-in-Ok-None
returns-in-Ok-None c =
    let w = c.self.inside.written in let text = c.answer_precompute.new.line.items in
    refused_now _ c.args.self.now w c.self.inside.session text c.self.view_is (sym c.is_some.ensures ∙ c.if-is_some.false)
    (subst (λ o. PrecomputeReplies (building w) (says (after_precompute w o) text)) c.in-Ok-None.field-0-is c.in-Ok-None.ensures.replies)
