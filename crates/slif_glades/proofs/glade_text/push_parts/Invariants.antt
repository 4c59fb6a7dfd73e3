use Rattle.std.proofs.Common.{◌≡◌, ◌++◌, ◌∷◌, drop}
use Rattle.slif_glades.specs.Told.{parts_text}
use Rattle.slif_glades.proofs.glade_text.push_parts.Given as goal

abbrev pub invariant-loop-next : goal.invariant-loop-next
invariant-loop-next l = l.text.items ++ parts_text l.forest.read (l.from ∷ drop l.next-index l.more) l.to ≡ l.fn.text.items ++ parts_text l.forest.read l.fn.starts l.to
