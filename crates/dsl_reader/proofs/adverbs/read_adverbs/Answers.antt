use Rattle.std.proofs.Common.{◌≡◌, ◌∙◌, sym, ap, drop, arith, Some, None, true, false, codes}
use Rattle.std.specs.Prelude.{option_map}
use Rattle.std.proofs.lemmas.List.{length-drop}
use Rattle.dsl_statement.specs.Statements.{adverb_of as adverb_seen}
use Rattle.language_model.specs.Description.{is_mark, Comma}
use Rattle.dsl_reader.specs.Pieces.{first_is}
use Rattle.dsl_reader.specs.Reading.{adverbs_of, add_adverb}
use Rattle.dsl_reader.specs.Forms.{pair_of}
use Rattle.dsl_reader.proofs.ReadingLemmas.{comma_first, pair_first, pair_none, adverbs_next, adverbs_none, adverbs_end}
use Rattle.dsl_reader.proofs.adverbs.read_adverbs.Goals as goal

pub loop-at-preserved-then-is_mark : goal.loop-at-preserved-then-is_mark
loop-at-preserved-then-is_mark c =
    let ts = c.args.piece.now in
    let comma : first_is (is_mark (codes ",")) (drop c.loop-at.at ts) ≡ true = sym c.is_mark.ensures ∙ c.if-is_mark.true in
    record {
      within = omega (arith, c.len.ensures, c.loop-at-test.true);
      read = adverbs_next ts c.loop-at.at 1 _ _ _ _ c.in_ok-push.ensures.items (comma_first (drop c.loop-at.at ts) comma ∙ ap (λ n. add_adverb (Comma n) (adverbs_of (drop 1 (drop c.loop-at.at ts)))) (sym c.place-place.ensures)) c.loop-at.invariant.read;
    }

pub returns-in_default : goal.returns-in_default
returns-in_default c =
    let ts = c.args.piece.now in
    let other : first_is (is_mark (codes ",")) (drop c.loop-at.at ts) ≡ false = sym c.is_mark.ensures ∙ c.if-is_mark.false in
    let more = length-drop c.loop-at.at ts in
    let none : None ≡ pair_of (drop c.loop-at.at ts) = ap (option_map adverb_seen) (sym c.in_default.is) ∙ c.in_ok-adverb.ensures ∙ ap pair_of c.behind.ensures in
    adverbs_none ts c.loop-at.at _ _ (pair_none (drop c.loop-at.at ts) (omega (arith, more, c.len.ensures, c.loop-at-test.true)) other none) c.loop-at.invariant.read

pub loop-at-preserved : goal.loop-at-preserved
loop-at-preserved c =
    let ts = c.args.piece.now in
    let other : first_is (is_mark (codes ",")) (drop c.loop-at.at ts) ≡ false = sym c.is_mark.ensures ∙ c.if-is_mark.false in
    let more = length-drop c.loop-at.at ts in
    let some : Some (adverb_seen c.in-Some.adverb) ≡ pair_of (drop c.loop-at.at ts) = ap (option_map adverb_seen) (sym c.in-Some.is) ∙ c.in_ok-adverb.ensures ∙ ap pair_of c.behind.ensures in
    let first = pair_first (drop c.loop-at.at ts) (adverb_seen c.in-Some.adverb) (omega (arith, more, c.len.ensures, c.loop-at-test.true)) other some in
    record {
      within = omega (arith, first.1, more);
      read = adverbs_next ts c.loop-at.at 3 _ _ _ _ c.in_ok-push-2.ensures.items first.0 c.loop-at.invariant.read;
    }

pub overflow_add-at-else-is_mark : goal.overflow_add-at-else-is_mark
overflow_add-at-else-is_mark c =
    let ts = c.args.piece.now in
    let other : first_is (is_mark (codes ",")) (drop c.loop-at.at ts) ≡ false = sym c.is_mark.ensures ∙ c.if-is_mark.false in
    let more = length-drop c.loop-at.at ts in
    let some : Some (adverb_seen c.in-Some.adverb) ≡ pair_of (drop c.loop-at.at ts) = ap (option_map adverb_seen) (sym c.in-Some.is) ∙ c.in_ok-adverb.ensures ∙ ap pair_of c.behind.ensures in
    let first = pair_first (drop c.loop-at.at ts) (adverb_seen c.in-Some.adverb) (omega (arith, more, c.len.ensures, c.loop-at-test.true)) other some in
    omega (arith, first.1, more, c.len.ensures, c.len.type_inv)

pub returns : goal.returns
returns c = adverbs_end c.args.piece.now c.loop-at.at _ _ (omega (arith, c.len.ensures, c.loop-at-test.false)) c.loop-at.invariant.read
