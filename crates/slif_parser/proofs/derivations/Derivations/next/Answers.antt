use Rattle.std.proofs.Common.{List, [], subst}
use Rattle.std.specs.Prelude.{IfOk, IsTrue}
use Rattle.grammar_model.specs.Trees.{Tree}
use Rattle.tree_iter.specs.Iteration.{AreGiven}
use Rattle.slif_parser.specs.Views.{DerivationsOf, IsUnderWay}
use Rattle.slif_parser.specs.Readings.{IsNext}
use Rattle.slif_parser.proofs.Going.{seen, goes_on, first_told, next_told}
use Rattle.slif_parser.proofs.derivations.Derivations.next.Goals as goal

pub invariant_of-self : goal.invariant_of-self
invariant_of-self c =
    goes_on c.self.inside.prepared.now c.known.ensures.accepted.checked.structural c.known.ensures.ranges c.self.inside.lexemes.now c.self.inside.chars.now c.self.inside.spans.now c.next_with.result c.self.inside.iter c.next_with.new.iter
    c.self.invariant c.next_with.ensures.forest c.next_with.ensures.answer c.next_with.ensures.end c.next_with.ensures.err

pub returns-clause-answer : goal.returns-clause-answer
returns-clause-answer c =
    let b = c.self.inside.prepared.now in
    let way : IsUnderWay b c.self.inside.lexemes.now c.self.inside.chars.now c.self.inside.spans.now c.next_with.new.iter =
    goes_on b c.known.ensures.accepted.checked.structural c.known.ensures.ranges c.self.inside.lexemes.now c.self.inside.chars.now c.self.inside.spans.now c.next_with.result c.self.inside.iter c.next_with.new.iter
    c.self.invariant c.next_with.ensures.forest c.next_with.ensures.answer c.next_with.ensures.end c.next_with.ensures.err in
    let new = seen b c.self.inside.lexemes.now c.self.inside.chars.now c.self.inside.spans.now c.next_with.new.iter way in
    subst (λ (d : DerivationsOf). IfOk c.next_with.result (λ more. (given : List Tree) → AreGiven d.iteration given → IsNext new given more)) c.self.view_is
    (next_told b c.self.inside.lexemes.now c.self.inside.chars.now c.self.inside.spans.now c.next_with.new.iter way c.next_with.result c.self.inside.iter c.next_with.ensures.answer)

pub returns-clause-first : goal.returns-clause-first
returns-clause-first c =
    let b = c.self.inside.prepared.now in
    let way : IsUnderWay b c.self.inside.lexemes.now c.self.inside.chars.now c.self.inside.spans.now c.next_with.new.iter =
    goes_on b c.known.ensures.accepted.checked.structural c.known.ensures.ranges c.self.inside.lexemes.now c.self.inside.chars.now c.self.inside.spans.now c.next_with.result c.self.inside.iter c.next_with.new.iter
    c.self.invariant c.next_with.ensures.forest c.next_with.ensures.answer c.next_with.ensures.end c.next_with.ensures.err in
    subst (λ (d : DerivationsOf). AreGiven d.iteration [] → IfOk c.next_with.result IsTrue) c.self.view_is
    (λ none. first_told b c.self.inside.lexemes.now c.self.inside.chars.now c.self.inside.spans.now c.next_with.new.iter way c.next_with.result c.self.inside.iter none c.next_with.ensures.answer)
