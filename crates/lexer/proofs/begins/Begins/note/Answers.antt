use Rattle.std.proofs.Common.{◌≡◌, ◌++◌, inl, inr, ℕ, List, ◌∙◌, ap, subst}
use Rattle.lexer.specs.Machines.{HasBegin}
use Rattle.lexer.proofs.Noting.{Entries, noted_begin}
use Rattle.lexer.proofs.begins.Begins.note.Goals as goal

pub returns-in_err-insert : goal.returns-in_err-insert
returns-in_err-insert c = λ list s h. inl (subst (λ (es : Entries). HasBegin es list s) (c.in_err-insert.ensures.err ∙ c.self.view_is) h)

pub returns : goal.returns
returns c = λ list s h.
    let copy : c.extend_from_slice.new.self.items ≡ c.args.starts.now = c.in_ok-extend_from_slice.ensures.items ∙ ap (λ (l : List ℕ). l ++ c.args.starts.now) c.new-copy.ensures.items in
    elim (noted_begin c.self.inside.states.entries c.extend_from_slice.new.self c.args.state list s (subst (λ (es : Entries). HasBegin es list s) c.in_ok-insert.ensures.entries h)) [
      | inl o ↦ inl (subst (λ (es : Entries). HasBegin es list s) c.self.view_is o)
      | inr (a, b) ↦ inr (a ∙ copy, b)
    ]
