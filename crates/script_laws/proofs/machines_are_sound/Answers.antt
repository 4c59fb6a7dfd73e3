use Rattle.script_laws.proofs.Exist.{machines_are_sound}
use Rattle.script_laws.proofs.machines_are_sound.Goals as goal

pub returns : goal.returns
returns c = machines_are_sound
