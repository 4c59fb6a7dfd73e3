-- The grammars of the job are accepted.
use Rattle.reading_model.specs.Accepted.{IsAccepted}
use Rattle.work_laws.proofs.Building.{work_built}
use Rattle.work_laws.proofs.Structural.{g1_checked, g1_few}
use Rattle.work_laws.proofs.Lexical.{l0_checked, l0_few}

pub is_accepted : IsAccepted work_built
is_accepted = record {
  checked = record { structural = g1_checked; lexical = λ some. l0_checked };
  structural = g1_few;
  lexical = λ some. l0_few;
}
