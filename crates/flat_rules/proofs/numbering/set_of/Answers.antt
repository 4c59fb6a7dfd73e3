use Rattle.std.proofs.Common.{◌∙◌}
use Rattle.std.proofs.lemmas.List.{get_or_default, take_all}
use Rattle.flat_rules.proofs.Listing.{keys_more}
use Rattle.flat_rules.proofs.numbering.set_of.Goals as goal

pub loop-key-preserved : goal.loop-key-preserved
loop-key-preserved c =
    keys_more c.args.keys.now c.loop-key.set.keys c.insert.new.self.keys c.loop-key.key-index _ c.requires c.loop-key-test.true (get_or_default c.args.keys.now c.loop-key.key-index _ _ c.loop-key-test.true) c.loop-key.invariant c.in_ok-insert.ensures.keys

pub returns : goal.returns
returns c = c.loop-key.invariant ∙ take_all c.loop-key.key-index c.args.keys.now c.loop-key-test.false
