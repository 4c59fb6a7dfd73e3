use Rattle.std.proofs.Common.{sym}
use Rattle.std.proofs.lemmas.List.{get_or_past}
use Rattle.std.proofs.lemmas.Option.{get_or_from_slice_get}
use Rattle.finite_sets.proofs.Lists.{get_none}
use Rattle.scanless.proofs.notes.hint_of.Goals as goal

pub returns-in-Some : goal.returns-in-Some
returns-in-Some c = sym (get_or_from_slice_get c.args.hints.now c.args.kind c.in-Some.hint 0 (sym c.in-Some.ensures))

pub returns-in-None : goal.returns-in-None
returns-in-None c = sym (get_or_past c.args.hints.now c.args.kind 0 (get_none c.args.hints.now c.args.kind (sym c.in-None.ensures)))
