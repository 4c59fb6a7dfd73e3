use Rattle.std.proofs.Common.{◌≤◌, ◌↔◌, sym, subst}
use Rattle.std.specs.Prelude.{IsTrue}
use Rattle.earley_sets.specs.Below.{SomeStepsTwice}
use Rattle.earley_sets.specs.Recognizer.{Recognizer, earleme_of}
use Rattle.earley_sets.proofs.Below.{there, twice_there}
use Rattle.earley_sets.proofs.Twice.{notes_told}
use Rattle.earley_sets.proofs.recce.Recce.hides.Goals as goal

pub note_at-requires : goal.note_at-requires
note_at-requires c =
    (notes_told c.self.inside.flat.now c.self.inside.rows.sets c.self.inside.hiding.items c.self.invariant.5 c.args.j (there c.self.inside.flat.now c.self.inside.start c.self.inside.edges c.self.inside.rows.sets c.self.inside.top c.self.inside.memo c.self.invariant.0 c.args.j (subst (λ (r : Recognizer). c.args.j ≤ earleme_of r) (sym c.self.view_is) c.requires))).0

pub returns : goal.returns
returns c =
    let le = subst (λ (r : Recognizer). c.args.j ≤ earleme_of r) (sym c.self.view_is) c.requires in
    let told = (notes_told c.self.inside.flat.now c.self.inside.rows.sets c.self.inside.hiding.items c.self.invariant.5 c.args.j (there c.self.inside.flat.now c.self.inside.start c.self.inside.edges c.self.inside.rows.sets c.self.inside.top c.self.inside.memo c.self.invariant.0 c.args.j le)).1 c.note_at.result c.note_at.ensures in
    let twice = twice_there c.self.inside.flat.now c.self.inside.start c.self.inside.edges c.self.inside.rows.sets c.self.inside.top c.self.inside.memo c.self.invariant.0 c.args.j le 0 in
    subst (λ (r : Recognizer). IsTrue c.note_at.result ↔ SomeStepsTwice r c.args.j 0) c.self.view_is (λ t. twice.0 (told.0 t), λ s. told.1 (twice.1 s))
