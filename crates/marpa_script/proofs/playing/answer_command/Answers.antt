use Rattle.std.proofs.Common.{◌≡◌, refl, sym, subst}
use Rattle.std.specs.Prelude.{IfOk}
use Rattle.script_model.specs.Commands as model
use Rattle.script_model.specs.Replies.{says, Played}
use Rattle.marpa_script.specs.declared.commands.Command.{Command}
use Rattle.marpa_script.specs.declared.commands.Command.TheVariants.{Symbol, Rule, Sequence, Start, Precompute, Alternative, Complete, Expected, Report, Trees}
use Rattle.marpa_script.specs.Told.{told}
use Rattle.marpa_script.specs.Machines.{building, after_precompute, LineReplies}
use Rattle.marpa_script.proofs.Answering.{if_ok}
use Rattle.marpa_script.proofs.playing.answer_command.Goals as goal

precompute_told : (x : Command) → told x ≡ model.Precompute → x ≡ Precompute
precompute_told (Symbol name) e = absurd (cc e)
precompute_told (Rule lhs rhs) e = absurd (cc e)
precompute_told (Sequence lhs item plus separator proper) e = absurd (cc e)
precompute_told (Start name) e = absurd (cc e)
precompute_told Precompute e = refl
precompute_told (Alternative name length) e = absurd (cc e)
precompute_told Complete e = absurd (cc e)
precompute_told Expected e = absurd (cc e)
precompute_told (Report at) e = absurd (cc e)
precompute_told (Trees count) e = absurd (cc e)

pub answer_building-requires-clause-other : goal.answer_building-requires-clause-other
answer_building-requires-clause-other c e = c.in_default.not-Precompute (precompute_told c.args.command e)

pub returns-in-Precompute-clause-replies : goal.returns-in-Precompute-clause-replies
returns-in-Precompute-clause-replies c =
    let g = c.args.w.now in
    subst (λ (x : Command). IfOk c.answer_precompute.result (λ o. LineReplies (building g) (told x) (says (after_precompute g o) c.answer_precompute.new.line.items))) (sym c.in-Precompute.is)
    (if_ok c.answer_precompute.result c.answer_precompute.ensures.replies (λ o replies line command. Played model.Precompute command refl replies))
