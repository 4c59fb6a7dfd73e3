use Rattle.std.proofs.Common.{arith, ℕ, ◌<◌, ◌≡◌, ◌⊎◌, List, length, Contains, subst}
use Rattle.scanless.proofs.Noting.{noted_more}
use Rattle.scanless.proofs.candidates.list_anew.Goals as goal

pub returns-clause-notes : goal.returns-clause-notes
returns-clause-notes c =
    let there : c.args.alike.place < length c.args.recce.now.sets = (let some = c.place-place.ensures.is.some in let le = c.requires.place in omega (arith, some, le)) in
    noted_more c.args.p.now c.args.recce.now c.args.work.now.notes c.put.new.self c.args.alike.place c.list_candidates.new.candidates.items c.requires.notes there c.requires.alike c.in_ok-list_candidates.ensures
    (λ at list h. subst (λ (starts : List ℕ). Contains c.args.work.now.notes.lists (at, list) ⊎ ((at ≡ c.args.alike.place) × (list ≡ starts))) c.as_slice.ensures.value (c.put.ensures.lists at list h))
