use Rattle.std.proofs.Common.{subst}
use Rattle.earley_sets.specs.Counted.{CountsFrom, TakesAtMost}
use Rattle.earley_sets.proofs.Counting.{counts_are_few}
use Rattle.scanless.specs.Reading.{ReadSoFar}
use Rattle.scanless.proofs.reading.Reader.ended.Goals as goal

pub returns-clause-counted : goal.returns-clause-counted
returns-clause-counted c = λ before after.
    subst (λ (r : ReadSoFar). CountsFrom r.recce before after → TakesAtMost c.self.inside.recce before after) c.self.view_is (counts_are_few c.self.inside.recce c.place-place.ensures.is before after)
