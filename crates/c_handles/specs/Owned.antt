-- What a handle owns: where it is full, the value that is noted, in a block of the heap.
use mathlib.Core.Bool.{Bool, true, false}
use mir.Syntax.{Ty}
use base.Stored.{Coded}
use Rattle.std.specs.Coded.{coded_option}
use Rattle.language_model.specs.Building.{Built}
use Rattle.script_model.specs.Machine.{Machine}
use Rattle.scanning_calls.specs.contracts.scanning.Scanning as Scanning
use Rattle.c_handles.specs.contracts.shared.SharedGrammar as SharedGrammar
use base.Fml.{Fml, ftrue, ffalse}
use denote.RattleType.{RattleType}
use denote.RawPtr.{Ptr}
use Rattle.std.specs.Box.Ownership.{box_owns}
use Rattle.std.specs.declared.option.Option.{Option}
use Rattle.std.specs.declared.option.Option.TheVariants.{None, Some}

abbrev pub owned : (Ty → Ptr → Fml) → (R : RattleType) → Bool → Ptr → Option R.Denot → Fml
owned holds R true p (Some x) = box_owns holds R p x
owned holds R true p None = ffalse
owned holds R false p (Some x) = ffalse
owned holds R false p None = ftrue

abbrev pub built_coded : Coded (Option Built)
built_coded = coded_option (SharedGrammar.the_row).coded

abbrev pub machine_coded : Coded (Option Machine)
machine_coded = coded_option (Scanning.the_row).coded
