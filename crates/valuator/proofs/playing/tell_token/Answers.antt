use Rattle.std.proofs.Common.{ap, option_map}
use Rattle.std.proofs.lemmas.Result.{on_ok_weaker}
use Rattle.value_text.specs.Meaning.{action_of, meaning_of}
use Rattle.valuator.proofs.Played.{told_token}
use Rattle.valuator.proofs.playing.tell_token.Goals as goal

pub returns-clause-ok : goal.returns-clause-ok
returns-clause-ok g c =
    on_ok_weaker c.pass_token.result
    (λ e. told_token _ c.args.p.now.w.now (meaning_of c.args.p.now.meaning.now) c.args.p.now.chars.now c.args.p.now.spans.now _ _ c.args.symbol c.args.from _ _ _ _
    c.name_in-name.ensures c.token_text-text.ensures c.requires.from (ap (option_map action_of) c.as_ref-action.ensures.value) e)
    c.pass_token.ensures.ok
