use Rattle.std.proofs.Common.{◌↔◌, List, IsTrue, subst}
use Rattle.reading_model.specs.Reading.{Piece, HasDerivation}
use Rattle.scanless.specs.Reading.{HoldsPieces, ReadSoFar}
use Rattle.scanless.proofs.Nexts.{derived_is}
use Rattle.scanless.proofs.reading.Reader.has_derivation.Goals as goal

pub returns : goal.returns
returns c =
    subst (λ (r : ReadSoFar). (pieces : List Piece) → HoldsPieces r.grammar pieces r.recce → IsTrue c.at_end.result ↔ HasDerivation r.grammar pieces) c.self.view_is
    (λ pieces holds.
    let tree = derived_is c.self.inside.prepared.now c.known.ensures.accepted.checked.structural pieces c.self.inside.recce c.place-place.ensures.is holds c.trees_are_derivations.ensures in
    ((λ t. tree.0 (c.at_end.ensures.0 t)), (λ d. c.at_end.ensures.1 (tree.1 d))))
