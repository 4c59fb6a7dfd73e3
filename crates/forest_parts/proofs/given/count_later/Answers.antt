use Rattle.std.proofs.Common.{rules, of_calls, arith, sym, ◌∙◌, ap, nat_lt}
use Rattle.std.proofs.lemmas.Bool.{ltb-true}
use Rattle.std.proofs.lemmas.Fn.{always_returns_same}
use Rattle.finite_sets.proofs.Lists.{got_at}
use Rattle.forest_parts.specs.declared.given.GivenRow.{GivenRow}
use Rattle.forest_parts.proofs.Rows.{later_parted, not_below}
use Rattle.forest_parts.proofs.given.count_later.Goals as goal

pub returns : goal.returns
returns c =
    let point = c.partition_point.ensures.partitioned (λ (row : GivenRow). nat_lt c.args.place row.place) (always_returns_same _ _ _ (λ a r f k. search (rules, of_calls))) (later_parted c.args.rows.now c.requires c.args.place) in
    let bound = c.partition_point.ensures.bound in
    record {
      bound = bound;
      later = λ k row lt at. (let (below, e) = got_at c.args.rows.now k row row (sym at) in ltb-true _ _ (ap (λ (z : GivenRow). nat_lt c.args.place z.place) (sym e) ∙ point.0 k row (omega arith) lt));
      other = λ k row le at. (let (below, e) = got_at c.args.rows.now k row row (sym at) in not_below c.args.place row.place (ap (λ (z : GivenRow). nat_lt c.args.place z.place) (sym e) ∙ point.1 k row le below));
    }
