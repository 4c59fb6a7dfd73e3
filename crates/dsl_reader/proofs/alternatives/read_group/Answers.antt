use Rattle.std.proofs.Common.{◌≡◌, ◌∙◌, sym, ap, ◌<◌, ◌++◌, length, drop, take, Some, None, codes, arith}
use Rattle.std.specs.Prelude.{option_map}
use Rattle.dsl_reader.specs.Forms.{full_alternative_of, group_of}
use Rattle.dsl_reader.proofs.ReadingLemmas.{split_next, split_last, split_none, nothing_before}
use Rattle.dsl_reader.proofs.alternatives.read_group.Goals as goal

pub alternatives-init : goal.alternatives-init
unfolding group_of
alternatives-init c = record {
  within = omega arith;
  read = ap (λ l. option_map (λ r. l ++ r) (group_of c.args.piece.now)) c.new-group.ensures.items ∙ nothing_before (group_of c.args.piece.now);
}

pub returns-in_default : goal.returns-in_default
returns-in_default c =
    let ts = c.args.piece.now in
    let none : None ≡ full_alternative_of (drop c.alternatives.at (take c.mark_from-to.result ts)) = sym c.in_default.is ∙ c.in_ok-alternative.ensures ∙ ap full_alternative_of c.part.ensures in
    split_none (codes "|") full_alternative_of ts c.alternatives.at c.mark_from-to.result _ _ c.alternatives.invariant.within c.mark_from-to.ensures.place c.mark_from-to.ensures.within none c.alternatives.invariant.read

pub alternatives-preserved : goal.alternatives-preserved
alternatives-preserved c =
    let ts = c.args.piece.now in
    let some : Some c.in-Some.alternative ≡ full_alternative_of (drop c.alternatives.at (take c.mark_from-to.result ts)) = sym c.in-Some.is ∙ c.in_ok-alternative.ensures ∙ ap full_alternative_of c.part.ensures in
    let inside : c.mark_from-to.result < length ts = omega (arith, c.mark_from-to.ensures.within, c.len.ensures, c.if-to-len.false) in
    record {
      within = omega (arith, inside);
      read = split_next (codes "|") full_alternative_of ts c.alternatives.at c.mark_from-to.result c.in-Some.alternative c.alternatives.group.items _ _ c.alternatives.invariant.within c.mark_from-to.ensures.place inside some c.in_ok-push.ensures.items c.alternatives.invariant.read;
    }

pub returns-then-to-len : goal.returns-then-to-len
returns-then-to-len c =
    let ts = c.args.piece.now in
    let some : Some c.in-Some.alternative ≡ full_alternative_of (drop c.alternatives.at (take c.mark_from-to.result ts)) = sym c.in-Some.is ∙ c.in_ok-alternative.ensures ∙ ap full_alternative_of c.part.ensures in
    let last : c.mark_from-to.result ≡ length ts = c.if-to-len.true ∙ c.len.ensures in
    split_last (codes "|") full_alternative_of ts c.alternatives.at c.mark_from-to.result c.in-Some.alternative c.alternatives.group.items _ _ c.alternatives.invariant.within c.mark_from-to.ensures.place last some c.in_ok-push.ensures.items c.alternatives.invariant.read
