use Rattle.std.proofs.Common.{◌≡◌, [], append-nil, ap, sym, subst, ◌∙◌}
use Rattle.finite_sets.proofs.Clauses.{on_err}
use Rattle.finite_sets.proofs.Lists.{Contains-none}
use Rattle.earley_sets.specs.Recognizer.{Recognizer}
use Rattle.scanless.specs.Taking.{TakesSome}
use Rattle.scanless.specs.Reading.{HoldsPieces}
use Rattle.scanless.specs.Cutting.{IsCut, CutMoves}
use Rattle.scanless.proofs.piece.next_piece.Goals as goal

nothing_taken : (old new : Recognizer) → new ≡ old → TakesSome old new
nothing_taken old new e = record {
  keeps = record { flat = ap (λ (r : Recognizer). r.flat) e; start = ap (λ (r : Recognizer). r.start) e; sets = ap (λ (r : Recognizer). r.sets) e; noted = ap (λ (r : Recognizer). r.noted) e };
  symbols = [];
  expected = λ s c. absurd (Contains-none s c);
  edges = ap (λ (r : Recognizer). r.edges) e ∙ sym (append-nil old.edges);
}

pub returns-in-Skipped-clause-piece : goal.returns-in-Skipped-clause-piece
returns-in-Skipped-clause-piece g c = λ pieces holds. subst (IsCut c.args.p.now c.args.chars.now pieces c.args.at c.args.recce.now c.take_piece.new.recce) c.in-Skipped.is (c.in_ok-length.ensures.cut pieces holds)

pub returns-in_err-expected_lexemes-in-Stuck-clause-err : goal.returns-in_err-expected_lexemes-in-Stuck-clause-err
returns-in_err-expected_lexemes-in-Stuck-clause-err g c =
    on_err c.from_residual-in_err-expected_lexemes-in-Stuck.result (nothing_taken c.args.recce.now c.take_piece.new.recce (subst (CutMoves c.args.recce.now c.take_piece.new.recce) c.in-Stuck.is c.in_ok-length.ensures.moves))

pub returns-clause-piece : goal.returns-clause-piece
returns-clause-piece g c = λ pieces holds.
    let stuck = subst (IsCut c.args.p.now c.args.chars.now pieces c.args.at c.args.recce.now c.take_piece.new.recce) c.in-Stuck.is (c.in_ok-length.ensures.cut pieces holds) in
    (stuck.0, stuck.1, c.in_ok-expected_lexemes-in-Stuck.ensures pieces (subst (HoldsPieces c.args.p.now pieces) (sym stuck.2) holds), stuck.2)
