use Rattle.std.proofs.Common.{◌∙◌, ◌++◌, ap, map, arith}
use Rattle.grammar_core.proofs.Placed.{at_found}
use Rattle.earley_sets.proofs.Following.{advanced_more}
use Rattle.std.proofs.lemmas.List.{take_all}
use Rattle.recognizer_model.specs.Items.{advanced}
use Rattle.earley_sets.proofs.follow.list_advanced.Goals as goal

pub advanced-requires : goal.advanced-requires
advanced-requires c = c.requires _ (at_found c.args.waiting.now c.loop-k.k c.at.result c.at.ensures)

pub loop-k-preserved : goal.loop-k-preserved
loop-k-preserved c =
    advanced_more c.args.waiting.now c.loop-k.k c.at.result c.at.ensures c.args.next.now.items c.loop-k.next.items c.push.new.self.items c.advanced.result c.loop-k.invariant c.in_ok-push.ensures.items c.advanced.ensures

pub returns : goal.returns
returns c = c.loop-k.invariant ∙ ap (λ l. c.args.next.now.items ++ map advanced l) (take_all c.loop-k.k c.args.waiting.now (omega (arith, c.loop-k-test.false, c.len-k-end.ensures)))
