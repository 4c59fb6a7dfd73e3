use Rattle.std.proofs.lemmas.Result.{on_ok_weaker}
use Rattle.value_text.specs.Meaning.{meaning_of}
use Rattle.valuator.specs.Play.{tokens_of}
use Rattle.valuator.proofs.Played.{told_nulled}
use Rattle.valuator.proofs.playing.tell_nulled.Goals as goal

pub returns-clause-ok : goal.returns-clause-ok
returns-clause-ok g c =
    on_ok_weaker c.pass_nulling.result
    (λ e. told_nulled _ c.args.p.now.w.now (meaning_of c.args.p.now.meaning.now) (tokens_of c.args.p.now.chars.now c.args.p.now.spans.now) _ _ c.args.symbol c.args.at _ _ _
    c.name_in-name.ensures c.end_of-start.ensures c.nulling_action-action.ensures e)
    c.pass_nulling.ensures.ok
