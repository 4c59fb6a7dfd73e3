use Rattle.std.proofs.lemmas.List.{map-append}
use Rattle.grammar_core.specs.Written.{rule_of}
use Rattle.grammar_core.proofs.Growth.{with_new_rule}
use Rattle.grammar_core.proofs.written.Written.add_rule.Goals as goal

pub invariant_of-self-2 : goal.invariant_of-self-2
invariant_of-self-2 c =
    rw (c.in_ok-push.ensures.items, map-append)
    (with_new_rule _ (rule_of c.args.rule) c.self.invariant (rw (← c.self.view_is) at c.requires.known) c.requires.levelled (rw (← c.self.view_is) at c.requires.room))
