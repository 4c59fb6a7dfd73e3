use Rattle.std.proofs.Common.{List, length, sym, subst}
use Rattle.std.proofs.lemmas.Result.{on_ok_weaker}
use Rattle.recognizer_model.specs.declared.thread.Thread.{Thread}
use Rattle.threads.specs.Lists.{IsGrown, AreThreads}
use Rattle.threads.specs.Steps.{AreSeeds, IsReadBy}
use Rattle.threads.proofs.Parts.{next_is}
use Rattle.threads.proofs.row.next_row.Goals as goal

pub row_of-requires-clause-seeds : goal.row_of-requires-clause-seeds
row_of-requires-clause-seeds c = subst (AreThreads c.args.flat.now (length c.scan.new.parts)) (sym c.deref.ensures.value) c.in_ok-scan.ensures.threads

pub returns-clause-steps : goal.returns-clause-steps
returns-clause-steps c =
    on_ok_weaker c.row_of.result
    (λ (set, closed, begins, keeps). (
      set,
      next_is c.args.flat.now c.scan.new.parts (IsReadBy c.args.flat.now c.args.terminals.now) c.args.row.now c.deref.result.now set c.row_of.new.row.items c.in_ok-scan.ensures.parts
          (subst (AreThreads c.args.flat.now (length c.scan.new.parts)) (sym c.deref.ensures.value) c.in_ok-scan.ensures.threads)
          (subst (λ (l : List Thread). (later : List (List Thread)) → IsGrown c.scan.new.parts later → AreSeeds c.args.flat.now later (IsReadBy c.args.flat.now c.args.terminals.now) c.args.row.now c.args.row.now l) (sym c.deref.ensures.value) c.in_ok-scan.ensures.seeds)
          closed begins keeps,
    ))
    c.row_of.ensures.closed
