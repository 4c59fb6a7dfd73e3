use Rattle.std.proofs.Common.{length, sym, subst}
use Rattle.std.proofs.lemmas.Result.{on_ok_weaker}
use Rattle.threads.proofs.Parts.{StartsTo, begun_threads, begin_is}
use Rattle.threads.proofs.row.first_row.Goals as goal

pub row_of-requires-clause-seeds : goal.row_of-requires-clause-seeds
row_of-requires-clause-seeds c =
    begun_threads c.args.flat.now c.known.ensures.flat (length c.args.parts.now) c.args.starts.now c.deref.result.now (subst (StartsTo c.args.flat.now c.args.starts.now c.args.starts.now) (sym c.deref.ensures.value) c.in_ok-list_starts.ensures)

pub returns-clause-begins : goal.returns-clause-begins
returns-clause-begins c =
    let seeded = subst (StartsTo c.args.flat.now c.args.starts.now c.args.starts.now) (sym c.deref.ensures.value) c.in_ok-list_starts.ensures in
    on_ok_weaker c.row_of.result
    (λ (set, closed, begins, keeps). (
      set,
      begin_is c.args.flat.now c.args.parts.now c.args.starts.now c.deref.result.now set c.row_of.new.row.items c.requires.parts
          (begun_threads c.args.flat.now c.known.ensures.flat (length c.args.parts.now) c.args.starts.now c.deref.result.now seeded) seeded closed begins keeps,
    ))
    c.row_of.ensures.closed
