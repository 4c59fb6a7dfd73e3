use Rattle.std.proofs.Common.{ℕ, List, subst}
use Rattle.std.specs.Prelude.{OnOk}
use Rattle.recognizer_model.specs.declared.thread.Thread.{Thread}
use Rattle.threads.specs.Lists.{IsGrown}
use Rattle.threads.specs.Steps.{IsReadBy, AreSeeds}
use Rattle.threads.proofs.scan.scan.Goals as goal

pub returns-clause-seeds : goal.returns-clause-seeds
returns-clause-seeds c =
    subst (λ (ts : List ℕ). OnOk c.scan_by.result ((later : List (List Thread)) → IsGrown c.scan_by.new.parts later → AreSeeds c.args.flat.now later (IsReadBy c.args.flat.now ts) c.args.row.now c.args.row.now c.scan_by.new.seeds.items))
    c.terminals_of-terminals.ensures c.scan_by.ensures.seeds
