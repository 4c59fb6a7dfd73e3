use Rattle.std.proofs.Common.{◌+◌, sym, refl}
use Rattle.grammar_model.specs.Growth.{has_name}
use Rattle.marpa_script.proofs.Naming.{none_known, one_more}
use Rattle.marpa_script.proofs.building.numbers_of.Goals as goal

pub returns-in-None-clause-known : goal.returns-in-None-clause-known
returns-in-None-clause-known c = sym (none_known (has_name c.args.w.now) c.args.names.now c.loop-name.name-index _ c.loop-name-test.true c.in-None.ensures.held)

pub loop-name-preserved : goal.loop-name-preserved
loop-name-preserved c =
    one_more c.args.w.now c.args.names.now c.loop-name.name-index (c.loop-name.name-index + 1) c.loop-name.numbers.items c.push.new.self.items _ c.in-Some.symbol c.loop-name.invariant c.loop-name-test.true refl
    c.in-Some.ensures.held c.in-Some.ensures.number c.in-Some.ensures.named c.in_ok-push-in-Some.ensures.items
