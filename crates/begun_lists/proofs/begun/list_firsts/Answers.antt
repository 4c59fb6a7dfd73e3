use Rattle.std.proofs.Common.{sym}
use Rattle.std.proofs.lemmas.Option.{slice_get-get_or}
use Rattle.begun_lists.proofs.Starting.{firsts_none, rules_none, firsts_more, rules_more, firsts_all, rules_all}
use Rattle.begun_lists.proofs.begun.list_firsts.Goals as goal

pub loop-symbol-init : goal.loop-symbol-init
loop-symbol-init c = record {
  listed = firsts_none c.args.flat.now c.args.symbols.now c.clear.new.self.items c.clear.ensures.items;
  tried = rules_none c.args.flat.now c.args.symbols.now c.clear.new.self.items c.clear.ensures.items;
}

pub loop-symbol-preserved : goal.loop-symbol-preserved
loop-symbol-preserved c =
    let at = sym (slice_get-get_or c.args.symbols.now c.loop-symbol.symbol-index 0 c.loop-symbol-test.true) in
    record {
      listed = firsts_more c.args.flat.now c.args.symbols.now c.loop-symbol.symbol-index _ at c.loop-symbol.next.items c.list_rules.new.next.items c.loop-symbol.invariant.listed c.in_ok-list_rules.ensures.listed;
      tried = rules_more c.args.flat.now c.args.symbols.now c.loop-symbol.symbol-index _ at c.loop-symbol.next.items c.list_rules.new.next.items c.requires.once c.loop-symbol.invariant.tried c.in_ok-list_rules.ensures.links;
    }

pub returns-clause-listed : goal.returns-clause-listed
returns-clause-listed c = firsts_all c.args.flat.now c.args.symbols.now c.loop-symbol.next.items c.loop-symbol.symbol-index c.loop-symbol-test.false c.loop-symbol.invariant.listed

pub returns-clause-tried : goal.returns-clause-tried
returns-clause-tried c = rules_all c.args.flat.now c.args.symbols.now c.loop-symbol.next.items c.loop-symbol.symbol-index c.loop-symbol-test.false c.loop-symbol.invariant.tried
