use Rattle.std.proofs.lemmas.Result.{IfOk-from_err}
use Rattle.valuator.proofs.Grown.{grown_same, ids_both}
use Rattle.valuator.proofs.make.add_item.Goals as goal

pub returns-in-Name-clause-ids : goal.returns-in-Name-clause-ids
returns-in-Name-clause-ids c = c.add_text.ensures.ids

pub returns-in-Name-clause-grown : goal.returns-in-Name-clause-grown
returns-in-Name-clause-grown c = c.add_text.ensures.grown

pub returns-in-Start-clause-ids : goal.returns-in-Start-clause-ids
returns-in-Start-clause-ids c = c.add_num.ensures.ids

pub returns-in-Start-clause-grown : goal.returns-in-Start-clause-grown
returns-in-Start-clause-grown c = c.add_num.ensures.grown

pub returns-in-Length-clause-ids : goal.returns-in-Length-clause-ids
returns-in-Length-clause-ids c = c.add_num-in-Length.ensures.ids

pub returns-in-Length-clause-grown : goal.returns-in-Length-clause-grown
returns-in-Length-clause-grown c = c.add_num-in-Length.ensures.grown

pub returns-in-G1Start-clause-ids : goal.returns-in-G1Start-clause-ids
returns-in-G1Start-clause-ids c = c.add_num-in-G1Start.ensures.ids

pub returns-in-G1Start-clause-grown : goal.returns-in-G1Start-clause-grown
returns-in-G1Start-clause-grown c = c.add_num-in-G1Start.ensures.grown

pub returns-in-G1Length-clause-ids : goal.returns-in-G1Length-clause-ids
returns-in-G1Length-clause-ids c = c.add_num-in-G1Length.ensures.ids

pub returns-in-G1Length-clause-grown : goal.returns-in-G1Length-clause-grown
returns-in-G1Length-clause-grown c = c.add_num-in-G1Length.ensures.grown

pub returns-in_err-extend_from_slice-in-Values-clause-ok : goal.returns-in_err-extend_from_slice-in-Values-clause-ok
returns-in_err-extend_from_slice-in-Values-clause-ok c = IfOk-from_err _ _ c.from_residual.ensures.0

pub returns-in_err-extend_from_slice-in-Values-clause-grown : goal.returns-in_err-extend_from_slice-in-Values-clause-grown
returns-in_err-extend_from_slice-in-Values-clause-grown c = grown_same _

pub returns-in_ok-extend_from_slice-in-Values-clause-ids : goal.returns-in_ok-extend_from_slice-in-Values-clause-ids
returns-in_ok-extend_from_slice-in-Values-clause-ids c = ids_both _ _ _ _ c.requires.ids c.requires.children c.in_ok-extend_from_slice-in-Values.ensures.items

pub returns-in_ok-extend_from_slice-in-Values-clause-grown : goal.returns-in_ok-extend_from_slice-in-Values-clause-grown
returns-in_ok-extend_from_slice-in-Values-clause-grown c = grown_same _
