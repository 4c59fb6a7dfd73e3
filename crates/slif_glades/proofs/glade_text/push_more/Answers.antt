use Rattle.std.proofs.Common.{◌++◌, ◌∙◌, ap, sym, append_assoc, codes, decimal}
use Rattle.std.proofs.lemmas.Result.{on_ok_weaker}
use Rattle.slif_glades.proofs.Parts.{more_said}
use Rattle.slif_glades.proofs.glade_text.push_more.Goals as goal

pub returns : goal.returns
returns c =
    let words = codes " more of these two rules\n" in
    on_ok_weaker c.push.result
    (λ e. e ∙ ap (λ t. t ++ words) c.in_ok-push_number.ensures ∙ append_assoc c.args.text.now.items (decimal c.args.more) words
    ∙ ap (λ t. c.args.text.now.items ++ t) (sym (more_said c.args.more c.if-more-eq0.false))) c.push.ensures
