use Rattle.std.proofs.Common.{[], sym, subst}
use Rattle.flat_model.specs.Flattened.{IsFlattened}
use Rattle.scanless.specs.Reading.{HasRead}
use Rattle.scanless.proofs.Steps.{has_begun}
use Rattle.scanless.proofs.reading.Reader.new.Goals as goal

pub returns-in-Ok-clause-begun : goal.returns-in-Ok-clause-begun
returns-in-Ok-clause-begun c = λ given text.
    subst (HasRead c.args.p.now given text [] 0 c.in_ok-recce.recce) (sym c.new-in-Ok.ensures.items)
    (has_begun c.args.p.now given text c.in_ok-recce.recce (subst (IsFlattened c.args.p.now.g1) (sym c.in_ok-recce.ensures.0) c.flat.ensures.flattened) c.in_ok-recce.ensures.1 c.in_ok-recce.ensures.2 c.in_ok-recce.ensures.3)
