use Rattle.std.proofs.Common.{◌≡◌, ◌⊎◌, ℕ, ap, subst}
use Rattle.scanless.specs.Noted.{Noted, hint_at, SetsHint}
use Rattle.scanless.proofs.notes.Notes.put_hint.Goals as goal

pub returns-clause-lists : goal.returns-clause-lists
returns-clause-lists c = ap (λ (v : Noted). v.lists) c.self.view_is

pub returns-clause-hints : goal.returns-clause-hints
returns-clause-hints c =
    subst (λ (v : Noted). ((k : ℕ) → hint_at c.put_hint.new.hints.items k ≡ hint_at v.hints k) ⊎ SetsHint v.hints c.put_hint.new.hints.items c.args.kind c.args.hint) c.self.view_is c.put_hint.ensures
