use Rattle.slif_c.proofs.Scanned.{no_room}
use Rattle.slif_c.proofs.scans.derivations_into.Goals as goal

pub returns-in-Ok : goal.returns-in-Ok
returns-in-Ok c = no_room c.args.scan.now c.derivations.new.self c.args.skip c.args.most c.in-Ok.kept c.args.parse.now.held c.in-Ok.ensures
