use Rattle.std.proofs.Common.{◌≡◌, List, map, subst, sym, refl}
use Rattle.std.specs.Prelude.{IfOk, IfSome, IsFalse, IsNone}
use Rattle.grammar_core.specs.Steps.{step_of}
use Rattle.grammar_core.specs.Written.{IsWritten}
use Rattle.grammar_core.specs.declared.steps.TreeStep.{TreeStep}
use Rattle.grammar_model.specs.Trees.{Tree}
use Rattle.grammar_model.specs.Steps.{steps_of}
use Rattle.cursor_model.specs.Laid.{Spells}
use Rattle.slif_parser.specs.Views.{DerivationsOf}
use Rattle.slif_parser.specs.Readings.{LacksCursor}
use Rattle.slif_parser.proofs.Cursors.{goes_to, lacks, missed_told, none_spelled}
use Rattle.slif_parser.proofs.derivations.Derivations.go_to.Goals as goal

pub returns-in_default-clause-missed : goal.returns-in_default-clause-missed
returns-in_default-clause-missed c = λ no.
    let b = c.self.inside.prepared.now in
    let cs = c.self.inside.chars.now in
    let spans = c.self.inside.spans.now in
    let it = c.self.inside.iter in
    let checked = c.known.ensures.accepted.checked.structural in
    let none = c.in_ok-steps.ensures.none (subst IsNone (sym c.in_default.is) refl) in
    subst (λ (d : DerivationsOf). LacksCursor d c.args.cursor.now) c.self.view_is
    (lacks b checked c.known.ensures.ranges c.self.inside.lexemes.now cs spans it c.self.invariant c.args.cursor.now
    (none_spelled b checked c.known.ensures.ranges c.self.inside.lexemes.now cs spans it.forest c.self.invariant.has (subst IsWritten c.written.ensures c.known-2.ensures) c.args.cursor.now none))

pub invariant_of-self : goal.invariant_of-self
invariant_of-self c =
    goes_to c.self.inside.prepared.now c.known.ensures.accepted.checked.structural c.known.ensures.ranges c.self.inside.lexemes.now c.self.inside.chars.now c.self.inside.spans.now c.self.inside.iter c.jump_with.new.iter c.self.invariant
    (map step_of c.deref.result.now) c.jump_with.result c.jump_with.ensures.found c.jump_with.ensures.missed c.jump_with.ensures.err

pub returns-clause-missed : goal.returns-clause-missed
returns-clause-missed c =
    let Told : List TreeStep → Type 0 = λ steps. (tree : Tree) × Spells c.args.cursor.now tree × (map step_of steps ≡ steps_of tree) in
    let told = subst (λ o. IfSome o (λ steps. Told steps.items)) c.in-Some.is c.in_ok-steps.ensures.some in
    subst (λ (d : DerivationsOf). IfOk c.jump_with.result (λ found. IsFalse found → LacksCursor d c.args.cursor.now)) c.self.view_is
    (missed_told c.self.inside.prepared.now c.known.ensures.accepted.checked.structural c.known.ensures.ranges c.self.inside.lexemes.now c.self.inside.chars.now c.self.inside.spans.now c.self.inside.iter c.jump_with.new.iter c.self.invariant
    c.args.cursor.now (map step_of c.deref.result.now) (subst Told (sym c.deref.ensures.value) told) c.jump_with.result c.jump_with.ensures.missed)
