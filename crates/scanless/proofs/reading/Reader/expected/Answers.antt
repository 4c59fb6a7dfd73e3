use Rattle.std.proofs.Common.{◌↔◌, ℕ, List, Contains, subst}
use Rattle.reading_model.specs.Reading.{Piece, IsNext}
use Rattle.earley_sets.specs.Recognizer.{IsExpected}
use Rattle.scanless.specs.Reading.{HoldsPieces, ReadSoFar}
use Rattle.scanless.proofs.Nexts.{next_is}
use Rattle.scanless.proofs.reading.Reader.expected.Goals as goal

pub returns-clause-exact : goal.returns-clause-exact
returns-clause-exact c =
    subst (λ (r : ReadSoFar). (t : ℕ) → Contains c.expected_terminals.result.now t ↔ IsExpected r.recce t) c.self.view_is c.expected_terminals.ensures.exact

pub returns-clause-acceptable : goal.returns-clause-acceptable
returns-clause-acceptable c =
    subst (λ (r : ReadSoFar). (pieces : List Piece) → HoldsPieces r.grammar pieces r.recce → (t : ℕ) → IsExpected r.recce t ↔ IsNext r.grammar pieces t) c.self.view_is
    (λ pieces holds. next_is c.self.inside.prepared.now c.known.ensures.accepted.checked.structural pieces c.self.inside.recce c.place-place.ensures.is holds)
