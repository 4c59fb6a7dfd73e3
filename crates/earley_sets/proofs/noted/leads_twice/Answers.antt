use Rattle.std.proofs.Common.{◌∙◌, true≢false, sym}
use Rattle.earley_sets.proofs.Twice.{notes_told, twice_from}
use Rattle.earley_sets.proofs.noted.leads_twice.Goals as goal

pub note_at-requires : goal.note_at-requires
note_at-requires c = (notes_told c.args.flat.now c.args.rows.now.sets c.args.notes.now.items c.requires.notes c.args.earleme c.requires.earleme).0

pub returns-then-not-note_at : goal.returns-then-not-note_at
returns-then-not-note_at c = (
  λ t. absurd (true≢false (sym t)),
  λ s. absurd (true≢false (sym (((notes_told c.args.flat.now c.args.rows.now.sets c.args.notes.now.items c.requires.notes c.args.earleme c.requires.earleme).1 c.note_at.result c.note_at.ensures).1 (twice_from c.args.flat.now c.args.rows.now.sets c.args.earleme c.args.from s)) ∙ c.if-not-note_at.true)),
)
