use Rattle.std.proofs.Common.{◌∙◌, List, ℕ, ap}
use Rattle.scanless.specs.Noted.{Noted, hint_at}
use Rattle.scanless.proofs.notes.Notes.hint.Goals as goal

pub returns : goal.returns
returns c = c.hint_of.ensures ∙ (ap (λ (l : List ℕ). hint_at l c.args.kind) c.deref.ensures.value ∙ ap (λ (v : Noted). hint_at v.hints c.args.kind) c.self.view_is)
