use Rattle.std.proofs.Common.{◌∙◌}
use Rattle.std.proofs.lemmas.Result.{on_ok_weaker}
use Rattle.valuator.specs.Play.{tokens_of}
use Rattle.valuator.proofs.Derived.{advanced_by_tree}
use Rattle.valuator.proofs.playing.Player.play.Goals as goal

pub returns-else-is_err-clause-ok : goal.returns-else-is_err-clause-ok
returns-else-is_err-clause-ok g c = λ t e.
    on_ok_weaker c.tell_list-told.result
    (λ h. h ∙ advanced_by_tree c.args.self.now.grammar c.args.self.now.meaning (tokens_of c.args.self.now.chars c.args.self.now.spans) _ _ t e)
    c.tell_list-told.ensures.ok
