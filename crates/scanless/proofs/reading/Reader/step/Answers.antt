use Rattle.std.proofs.Common.{◌<◌, ◌+◌, ◌++◌, ◌∷◌, [], arith, inr, List, length, map, ap, sym, subst, ◌∙◌}
use Rattle.std.proofs.lemmas.List.{map-append}
use Rattle.grammar_core.specs.declared.steps.Span.{Span}
use Rattle.reading_model.specs.Reading.{Piece, Token, Skipped}
use Rattle.reading_model.proofs.Behind.{behind_token, behind_skipped}
use Rattle.earley_sets.specs.Recognizer.{Recognizer}
use Rattle.scanless.specs.Cutting.{IsCut, CutMoves}
use Rattle.scanless.specs.Reading.{span_of, ReadSoFar, HasRead, HoldsPieces, IsReader, GoesOn, StopsWith}
use Rattle.scanless.proofs.Holding.{holds_begun}
use Rattle.scanless.proofs.Steps.{reads_token, reads_skipped}
use Rattle.scanless.proofs.reading.Reader.step.Goals as goal

pub take_piece-requires-clause-begun : goal.take_piece-requires-clause-begun
take_piece-requires-clause-begun g c =
    let reader = subst (IsReader c.requires.reader.0 c.args.chars.now) (sym c.self.view_is) c.requires.reader.1 in
    holds_begun c.self.inside.prepared.now reader.pieces c.self.inside.recce reader.has_read.holds

pub returns-in_ok-push-in-Token-clause-moves : goal.returns-in_ok-push-in-Token-clause-moves
returns-in_ok-push-in-Token-clause-moves g c = λ f given pieces.
    subst (λ (r : ReadSoFar). HasRead r.grammar given c.args.chars.now pieces r.at r.recce r.spans → GoesOn given c.args.chars.now pieces r (record { grammar = c.self.inside.prepared.now; recce = c.take_piece.new.recce; spans = c.push.new.self.items; at = c.self.inside.at + c.in-Token.length })) c.self.view_is
    (λ read.
    let more : c.self.inside.at < length c.args.chars.now = subst (λ (r : ReadSoFar). r.at < length c.args.chars.now) (sym c.self.view_is) c.requires.more in
    let taken = subst (IsCut c.self.inside.prepared.now c.args.chars.now pieces c.self.inside.at c.self.inside.recce c.take_piece.new.recce) c.in-Token.is (c.in_ok-length.ensures.cut pieces read.holds) in
    record {
      pieces = pieces ++ Token c.in-Token.length taken.symbols ∷ [];
      has_read = reads_token c.self.inside.prepared.now given c.args.chars.now pieces c.self.inside.at c.self.inside.recce c.self.inside.spans.items read c.in-Token.length c.take_piece.new.recce c.push.new.self.items more taken
          (ap (λ (l : List Span). map span_of l) c.in_ok-push-in-Token.ensures.items ∙ map-append span_of c.self.inside.spans.items _);
      same_or = inr ((let some = taken.longest.some in let lt : c.self.inside.at < c.self.inside.at + c.in-Token.length = omega (arith, some) in lt), behind_token pieces c.in-Token.length taken.symbols taken.longest.some);
    })

pub returns-in-Skipped-clause-moves : goal.returns-in-Skipped-clause-moves
returns-in-Skipped-clause-moves g c = λ f given pieces.
    subst (λ (r : ReadSoFar). HasRead r.grammar given c.args.chars.now pieces r.at r.recce r.spans → GoesOn given c.args.chars.now pieces r (record { grammar = c.self.inside.prepared.now; recce = c.take_piece.new.recce; spans = c.self.inside.spans.items; at = c.self.inside.at + c.in-Skipped.length })) c.self.view_is
    (λ read.
    let more : c.self.inside.at < length c.args.chars.now = subst (λ (r : ReadSoFar). r.at < length c.args.chars.now) (sym c.self.view_is) c.requires.more in
    let skipped = subst (IsCut c.self.inside.prepared.now c.args.chars.now pieces c.self.inside.at c.self.inside.recce c.take_piece.new.recce) c.in-Skipped.is (c.in_ok-length.ensures.cut pieces read.holds) in
    record {
      pieces = pieces ++ Skipped c.in-Skipped.length ∷ [];
      has_read = subst (λ recce. HasRead c.self.inside.prepared.now given c.args.chars.now (pieces ++ Skipped c.in-Skipped.length ∷ []) (c.self.inside.at + c.in-Skipped.length) recce c.self.inside.spans.items) (sym skipped.3)
          (reads_skipped c.self.inside.prepared.now given c.args.chars.now pieces c.self.inside.at c.self.inside.recce c.self.inside.spans.items read c.in-Skipped.length more skipped.0 skipped.1 skipped.2);
      same_or = inr ((let some = skipped.0.some in let lt : c.self.inside.at < c.self.inside.at + c.in-Skipped.length = omega (arith, some) in lt), behind_skipped pieces c.in-Skipped.length);
    })

pub returns-in-Stuck-clause-stops : goal.returns-in-Stuck-clause-stops
returns-in-Stuck-clause-stops g c =
    let same = subst (CutMoves c.self.inside.recce c.take_piece.new.recce) c.in-Stuck.is c.in_ok-length.ensures.moves in (
      ap (λ (recce : Recognizer). record { grammar = c.self.inside.prepared.now; recce = recce; spans = c.self.inside.spans.items; at = c.self.inside.at }) same ∙ c.self.view_is,
      subst (λ (r : ReadSoFar). (pieces : List Piece) → HoldsPieces r.grammar pieces r.recce → StopsWith r.grammar c.args.chars.now pieces r.at c.in-Stuck.found.items) c.self.view_is
          (λ pieces holds.
          let stuck = subst (IsCut c.self.inside.prepared.now c.args.chars.now pieces c.self.inside.at c.self.inside.recce c.take_piece.new.recce) c.in-Stuck.is (c.in_ok-length.ensures.cut pieces holds) in
          record { more = subst (λ (r : ReadSoFar). r.at < length c.args.chars.now) (sym c.self.view_is) c.requires.more; none = stuck.0; are_found = stuck.1 }),
    )
