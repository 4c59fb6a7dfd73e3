use Rattle.std.proofs.Common.{◌∷◌, [], ◌∙◌, List, ℕ, length, ap, arith, length-append}
use Rattle.scanless.specs.Noted.{hint_at}
use Rattle.scanless.proofs.Noting.{hint_pushed}
use Rattle.scanless.proofs.notes.make_room.Goals as goal

pub loop-preserved : goal.loop-preserved
loop-preserved c = record {
  long = (let e = ap (λ (l : List ℕ). length l) c.in_ok-push.ensures.items in let a = length-append c.loop.hints.items (0 ∷ []) in let l = c.loop.invariant.long in omega arith);
  same = λ k. ap (λ (l : List ℕ). hint_at l k) c.in_ok-push.ensures.items ∙ (hint_pushed c.loop.hints.items k ∙ c.loop.invariant.same k);
}

pub returns-clause-same : goal.returns-clause-same
returns-clause-same c = c.loop.invariant.same

pub returns-clause-room : goal.returns-clause-room
returns-clause-room c = omega (arith, c.loop.invariant.long, c.loop-test.false)
