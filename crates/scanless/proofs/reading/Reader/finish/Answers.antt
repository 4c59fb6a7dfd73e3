use Rattle.std.proofs.Common.{◌≡◌, List, subst}
use Rattle.reading_model.specs.Reading.{Piece, AreExpected}
use Rattle.scanless.specs.declared.reading.Ending.TheVariants.{End, Stopped}
use Rattle.scanless.specs.Reading.{ReadSoFar, HoldsPieces}
use Rattle.scanless.proofs.Steps.{finished, stopped}
use Rattle.scanless.proofs.Ended.{as_ended}
use Rattle.scanless.proofs.reading.Reader.finish.Goals as goal

pub returns-in_default-clause-reading : goal.returns-in_default-clause-reading
returns-in_default-clause-reading c = λ given text rests over.
    as_ended c.args.self.grammar given text c.args.self.recce c.ended.result.recce c.args.self.spans c.ended.result.spans.items End c.ended.result.ending c.ended.ensures.same (finished given text c.args.self c.args.found c.in_default.is rests over)

pub returns-in-Ok-clause-reading : goal.returns-in-Ok-clause-reading
returns-in-Ok-clause-reading c = λ given text rests over.
    let are = subst (λ (r : ReadSoFar). (pieces : List Piece) → HoldsPieces r.grammar pieces r.recce → AreExpected r.grammar pieces c.in-Ok.expected.items) c.self.view_is c.in-Ok.ensures in
    as_ended c.args.self.grammar given text c.args.self.recce c.ended-in-Ok.result.recce c.args.self.spans c.ended-in-Ok.result.spans.items (Stopped c.args.self.at c.in-Some.found c.in-Ok.expected) c.ended-in-Ok.result.ending
    (c.ended-in-Ok.ensures.same.0, c.ended-in-Ok.ensures.same.1, subst (λ (r : ReadSoFar). c.ended-in-Ok.result.ending ≡ Stopped r.at c.in-Some.found c.in-Ok.expected) c.self.view_is c.ended-in-Ok.ensures.same.2)
    (stopped given text c.args.self c.args.found c.in-Some.found c.in-Ok.expected c.in-Some.is rests over are)
