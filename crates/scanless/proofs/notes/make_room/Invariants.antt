use Rattle.std.proofs.Common.{◌≡◌, ℕ, length}
use Rattle.scanless.specs.Noted.{hint_at}
use Rattle.scanless.proofs.notes.make_room.Given as goal

abbrev pub invariant-loop : goal.invariant-loop
invariant-loop l = record { long : length l.hints.items ≡ l.counter; same : (k : ℕ) → hint_at l.hints.items k ≡ hint_at l.initial.hints.items k }
