use Rattle.std.proofs.Common.{◌≡◌, ◌<◌, ◌∙◌, ℕ, Some, None, sym, ap, subst}
use Rattle.std.specs.Prelude.{Option}
use Rattle.glades.proofs.Heading.{two_within, note_of}
use Rattle.glades.proofs.report.next_of.Goals as goal

pub note_at-requires : goal.note_at-requires
note_at-requires c =
    subst (λ n. c.args.head.node < n) (sym c.requires.notes.long) (two_within c.args.forest.now c.known.ensures c.requires.by_rules c.args.head.node _ _ _ c.requires.head.is_two)

pub returns : goal.returns
returns c = c.requires.notes.sound c.args.head.node c.in-Some.next (c.note_at.ensures ∙ ap Some c.in-Some.is)

none_some : {x : Option ℕ} → Some None ≡ Some (Some x) → ⊥
none_some e = cc

pub unreachable-requires : goal.unreachable-requires
unreachable-requires c =
    none_some (sym (c.note_at.ensures ∙ ap Some c.in-None.is) ∙ c.requires.notes.all c.args.head.node _ (note_of c.args.forest.now c.known.ensures c.requires.by_rules c.args.head.node _ _ _ c.requires.head.is_two))
