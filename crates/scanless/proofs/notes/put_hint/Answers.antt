use Rattle.std.proofs.Common.{inl, inr, refl}
use Rattle.scanless.proofs.Noting.{hint_set}
use Rattle.scanless.proofs.notes.put_hint.Goals as goal

pub returns-then-place-ge-KINDS : goal.returns-then-place-ge-KINDS
returns-then-place-ge-KINDS c = inl (λ k. refl)

pub returns-in_default : goal.returns-in_default
returns-in_default c = inl c.make_room.ensures.same

pub returns : goal.returns
returns c = inr (hint_set c.args.hints.now.items c.make_room.new.hints.items c.args.kind c.args.hint c.in-Ok.ensures.room c.in-Ok.ensures.same)
