use Rattle.std.proofs.Common.{arith, subst}
use Rattle.slot_analysis.specs.Packed.{HasFirsts}
use Rattle.slot_analysis.proofs.LevelRows.{same_both, table_of}
use Rattle.horn_clauses.proofs.Results.{if_both}
use Rattle.slot_analysis.proofs.levels.levels_of.Goals as goal

pub push_rules-requires : goal.push_rules-requires
push_rules-requires c = subst (λ n. HasFirsts n c.push_firsts.new.rows) (omega (arith, c.new-gathered.ensures.length, c.symbol_count.ensures.count)) c.in_ok-push_firsts.ensures

pub returns : goal.returns
returns c = if_both c.sort_all.result (λ sorted same rising. table_of c.args.w.now c.push_rules.new.rows sorted c.in_ok-push_rules.ensures (same_both c.push_rules.new.rows c.in_ok-rows.rows sorted c.in_ok-rows.ensures same) rising)
    c.sort_all.ensures.same c.sort_all.ensures.sorted
