use Rattle.std.proofs.Common.{[], ◌∷◌, Err, ap}
use Rattle.slif_base.proofs.Bytes.{same_then, adds_none, asks_all, asks_some, may_hold, file_holds, was_large, was_fault, rose_before}
use Rattle.slif_base.proofs.read.read_named.Goals as goal

pub returns-in_err-read_current-in-Ok-clause-held : goal.returns-in_err-read_current-in-Ok-clause-held
returns-in_err-read_current-in-Ok-clause-held g c = same_then (g.F.Files.told c.args.files.now) (g.F.Files.told c.open_file.new.self) (g.F.Files.told c.read_current.new.files) c.in-Ok.ensures.held c.in_err-read_current-in-Ok.ensures.held

pub returns-in_err-read_current-in-Ok-clause-asks : goal.returns-in_err-read_current-in-Ok-clause-asks
returns-in_err-read_current-in-Ok-clause-asks g c =
    asks_all (g.F.Files.asked c.args.files.now) (g.F.Files.asked c.read_current.new.files) (c.args.name.now ∷ [])
    (adds_none (g.F.Files.asked c.args.files.now) (g.F.Files.asked c.open_file.new.self) (g.F.Files.asked c.read_current.new.files) (c.args.name.now ∷ []) c.in-Ok.ensures.asks c.in_err-read_current-in-Ok.ensures.asks)

pub returns-in_ok-read_current-in-Ok-clause-held : goal.returns-in_ok-read_current-in-Ok-clause-held
returns-in_ok-read_current-in-Ok-clause-held g c = same_then (g.F.Files.told c.args.files.now) (g.F.Files.told c.open_file.new.self) (g.F.Files.told c.read_current.new.files) c.in-Ok.ensures.held c.in_ok-read_current-in-Ok.ensures.held

pub returns-in_ok-read_current-in-Ok-clause-asks : goal.returns-in_ok-read_current-in-Ok-clause-asks
returns-in_ok-read_current-in-Ok-clause-asks g c =
    asks_all (g.F.Files.asked c.args.files.now) (g.F.Files.asked c.read_current.new.files) (c.args.name.now ∷ [])
    (adds_none (g.F.Files.asked c.args.files.now) (g.F.Files.asked c.open_file.new.self) (g.F.Files.asked c.read_current.new.files) (c.args.name.now ∷ []) c.in-Ok.ensures.asks c.in_ok-read_current-in-Ok.ensures.asks)

pub returns-in_ok-read_current-in-Ok-clause-whole : goal.returns-in_ok-read_current-in-Ok-clause-whole
returns-in_ok-read_current-in-Ok-clause-whole g c =
    may_hold (g.F.Files.told c.args.files.now c.args.name.now) (g.F.Files.left c.open_file.new.self) c.in_ok-read_current-in-Ok.field-0.items c.in-Ok.ensures.opens c.in_ok-read_current-in-Ok.ensures.whole

pub returns-in_ok-read_current-in-Ok-clause-asked : goal.returns-in_ok-read_current-in-Ok-clause-asked
returns-in_ok-read_current-in-Ok-clause-asked g c =
    adds_none (g.F.Files.asked c.args.files.now) (g.F.Files.asked c.open_file.new.self) (g.F.Files.asked c.read_current.new.files) (c.args.name.now ∷ []) c.in-Ok.ensures.asks c.in_ok-read_current-in-Ok.ensures.asks

pub returns-in_err-read_current-in-Ok-clause-large : goal.returns-in_err-read_current-in-Ok-clause-large
returns-in_err-read_current-in-Ok-clause-large g c = λ large.
    file_holds (g.F.Files.told c.args.files.now c.args.name.now) (g.F.Files.left c.open_file.new.self) _ c.in-Ok.ensures.opens
    (c.in_err-read_current-in-Ok.ensures.large (ap Err (was_large c.from_residual.result c.in_err-read_current-in-Ok.field-0.0 c.from_residual.ensures.1 large)))

pub returns-in_err-read_current-in-Ok-clause-read_fault : goal.returns-in_err-read_current-in-Ok-clause-read_fault
returns-in_err-read_current-in-Ok-clause-read_fault g c = λ fault.
    rose_before (g.F.Files.fault_count c.args.files.now) (g.F.Files.fault_count c.open_file.new.self) (g.F.Files.fault_count c.read_current.new.files) c.in-Ok.ensures.cause.later
    (c.in_err-read_current-in-Ok.ensures.fault (ap Err (was_fault c.from_residual.result c.in_err-read_current-in-Ok.field-0.0 c.from_residual.ensures.1 fault)))

pub returns-in-Err-clause-asks : goal.returns-in-Err-clause-asks
returns-in-Err-clause-asks g c = asks_some (g.F.Files.asked c.args.files.now) (g.F.Files.asked c.open_file.new.self) (c.args.name.now ∷ []) c.in-Err.ensures.asks
