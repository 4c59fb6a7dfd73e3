use Rattle.std.proofs.Common.{arith, inl, inr, subst, sym}
use Rattle.horn_clauses.specs.Least.{Waits}
use Rattle.horn_clauses.proofs.Search.{same_or_below}
use Rattle.horn_clauses.proofs.least.begin.Goals as goal

pub loop-i-preserved : goal.loop-i-preserved
loop-i-preserved c =
    let a = c.in_ok-advance.ensures in (
      a.search,
      λ j lt. elim (same_or_below j c.loop-i.i lt) [
        | inl below ↦ a.others 0 j (omega arith) (c.loop-i.invariant.1 j below)
        | inr same ↦ subst (Waits c.args.clauses.now c.advance.new.found c.advance.new.places 0) (sym same) (a.settled 0 (omega arith))
      ],
    )
