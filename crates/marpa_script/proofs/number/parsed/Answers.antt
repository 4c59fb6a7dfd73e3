use Rattle.marpa_script.proofs.Numbers.{spells, spells_more}
use Rattle.marpa_script.proofs.number.parsed.Goals as goal

pub returns-in-Ok : goal.returns-in-Ok
returns-in-Ok c = spells c.args.value.now c.in-Ok.number c.requires c.in-Ok.ensures.value.0

pub returns-in-Err : goal.returns-in-Err
returns-in-Err c = spells_more c.args.value.now c.requires c.in-Err.ensures.value.0
