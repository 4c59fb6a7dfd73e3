use Rattle.slot_analysis.proofs.Collected.{without_terminals, with_terminals}
use Rattle.slot_analysis.proofs.clauses.clauses_of.Goals as goal

pub returns-then-separators : goal.returns-then-separators
returns-then-separators c = without_terminals c.args.separators c.args.w.now c.args.bases.now c.new-clauses.result c.push_rules.new.clauses c.push_levels.new.clauses c.if-separators.true c.new-clauses.ensures c.in_ok-push_rules.ensures c.in_ok-push_levels.ensures

pub returns : goal.returns
returns c = with_terminals c.args.separators c.args.w.now c.args.bases.now c.new-clauses.result c.push_rules.new.clauses c.push_levels.new.clauses c.push_terminals.new.clauses c.args.lefts.now c.if-separators.false c.requires.left c.new-clauses.ensures c.in_ok-push_rules.ensures c.in_ok-push_levels.ensures c.in_ok-push_terminals.ensures
