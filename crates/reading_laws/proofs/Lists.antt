-- The derivations of what is read have a list.
use Rattle.reading_model.specs.Reading.{edges_of, earleme_after}
use Rattle.reading_laws.specs.Lists.{DerivationsAreListed}
use Rattle.reading_laws.proofs.Candidates.{pieces_forward}
use Rattle.reading_laws.proofs.Short.{built_are_short}
pub use Rattle.grammar_laws.proofs.Lists.{flat_form_exists, starts_listed}

pub derivations_listed : DerivationsAreListed
derivations_listed b ranking pieces built accepted =
    starts_listed b.g1 ranking (edges_of pieces) 0 (earleme_after pieces) accepted.checked.structural accepted.structural (built_are_short b built) (pieces_forward pieces)
