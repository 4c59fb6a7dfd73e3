use Rattle.std.proofs.Common.{◌≡◌, ◌∙◌, sym, ap, refl, ◌+◌, ◌-◌, length, drop, map, Some, None, true, false, codes, arith, rules}
use Rattle.std.proofs.lemmas.List.{length-drop}
use Rattle.dsl_statement.specs.declared.statement.Element.TheVariants as element
use Rattle.dsl_statement.specs.Statements.{element_of as element_seen, adverb_of as adverb_seen}
use Rattle.language_model.specs.Description.{is_mark}
use Rattle.dsl_reader.specs.Pieces.{first_is, is_part}
use Rattle.dsl_reader.specs.Reading.{alternative_of, adverbs_of}
use Rattle.dsl_reader.specs.Forms.{ends_elements}
use Rattle.dsl_reader.proofs.ReadingLemmas.{onto_elements, bare_next, hidden_on, hidden_none, other_none, ended, no_hidden, some_hidden, held_within, none_given, some_given}
use Rattle.dsl_reader.proofs.alternatives.read_alternative.Goals as goal

pub returns-in_default : goal.returns-in_default
returns-in_default c =
    let ts = c.args.piece.now in
    let ends : ends_elements (drop c.loop-alloc.at ts) ≡ false = sym c.ends_elements.ensures.ends ∙ c.loop-alloc-test.true in
    let opens : first_is (is_mark (codes "(")) (drop c.loop-alloc.at ts) ≡ true = sym c.is_mark.ensures ∙ c.if-is_mark.true in
    hidden_none ts c.loop-alloc.at _ _ ends opens (no_hidden _ _ _ _ c.in_default.is c.in_ok-parts.ensures.read c.behind.ensures) c.loop-alloc.invariant.read

pub overflow_add-at-then-is_mark-2 : goal.overflow_add-at-then-is_mark-2
overflow_add-at-then-is_mark-2 c =
    let more = c.ends_elements.ensures.more c.loop-alloc-test.true in
    let n : c.len.result ≡ length c.in-Some.parts.items = search rules in
    let left : length c.behind.result ≡ length c.args.piece.now - (c.loop-alloc.at + 1) = ap length c.behind.ensures ∙ length-drop (c.loop-alloc.at + 1) c.args.piece.now in
    let inside = held_within _ _ _ _ c.in-Some.is c.in_ok-parts.ensures.within in
    omega (arith, more.0, more.1, inside, left, n)

pub loop-alloc-preserved-in-Continue-branch-3 : goal.loop-alloc-preserved-in-Continue-branch-3
loop-alloc-preserved-in-Continue-branch-3 c =
    let ts = c.args.piece.now in
    let ends : ends_elements (drop c.loop-alloc.at ts) ≡ false = sym c.ends_elements.ensures.ends ∙ c.loop-alloc-test.true in
    let opens : first_is (is_mark (codes "(")) (drop c.loop-alloc.at ts) ≡ true = sym c.is_mark.ensures ∙ c.if-is_mark.true in
    let more = c.ends_elements.ensures.more c.loop-alloc-test.true in
    let n : c.len.result ≡ length c.in-Some.parts.items = search rules in
    let left : length c.behind.result ≡ length ts - (c.loop-alloc.at + 1) = ap length c.behind.ensures ∙ length-drop (c.loop-alloc.at + 1) ts in
    let inside = held_within _ _ _ _ c.in-Some.is c.in_ok-parts.ensures.within in
    record {
      within = omega (arith, more.0, inside, left, n);
      read = ap (λ k. onto_elements (map element_seen c.push.new.self.items) (alternative_of (drop (c.loop-alloc.at + (2 + k)) ts) None)) n
          ∙ hidden_on ts c.loop-alloc.at _ _ c.in-Some.parts.items (element.Hidden c.in-Some.parts) _ refl c.in_ok-push.ensures.items ends opens (some_hidden _ _ _ _ _ c.in-Some.is c.in_ok-parts.ensures.read c.behind.ensures) c.loop-alloc.invariant.read;
    }

pub overflow_add-at : goal.overflow_add-at
overflow_add-at c = let more = c.ends_elements.ensures.more c.loop-alloc-test.true in omega (arith, more.0, more.1)

pub overflow_add-at-then-is_part : goal.overflow_add-at-then-is_part
overflow_add-at-then-is_part c = let more = c.ends_elements.ensures.more c.loop-alloc-test.true in omega (arith, more.0, more.1)

pub loop-alloc-preserved : goal.loop-alloc-preserved
loop-alloc-preserved c =
    let ts = c.args.piece.now in
    let ends : ends_elements (drop c.loop-alloc.at ts) ≡ false = sym c.ends_elements.ensures.ends ∙ c.loop-alloc-test.true in
    let opens : first_is (is_mark (codes "(")) (drop c.loop-alloc.at ts) ≡ false = sym c.is_mark.ensures ∙ c.if-is_mark.false in
    let is : first_is is_part (drop c.loop-alloc.at ts) ≡ true = sym c.is_part.ensures ∙ c.if-is_part.true in
    let more = c.ends_elements.ensures.more c.loop-alloc-test.true in
    record {
      within = omega (arith, more.0);
      read = bare_next ts c.loop-alloc.at _ _ c.in-Some-2.part (element.Bare c.in-Some-2.part) _ refl c.in_ok-push-2.ensures.items ends opens is (sym c.in-Some-2.is ∙ c.in_ok-part.ensures) c.loop-alloc.invariant.read;
    }

pub returns-else-is_part : goal.returns-else-is_part
returns-else-is_part c =
    let ts = c.args.piece.now in
    let ends : ends_elements (drop c.loop-alloc.at ts) ≡ false = sym c.ends_elements.ensures.ends ∙ c.loop-alloc-test.true in
    let opens : first_is (is_mark (codes "(")) (drop c.loop-alloc.at ts) ≡ false = sym c.is_mark.ensures ∙ c.if-is_mark.false in
    let is : first_is is_part (drop c.loop-alloc.at ts) ≡ false = sym c.is_part.ensures ∙ c.if-is_part.false in
    other_none ts c.loop-alloc.at _ _ ends opens is c.loop-alloc.invariant.read

pub returns-in_default-3 : goal.returns-in_default-3
returns-in_default-3 c =
    let ts = c.args.piece.now in
    let ends : ends_elements (drop c.loop-alloc.at ts) ≡ true = sym c.ends_elements.ensures.ends ∙ c.loop-alloc-test.false in
    ended ts c.loop-alloc.at _ None _ ends (none_given _ _ c.in_default-3.is ∙ c.in_ok-adverbs.ensures ∙ ap adverbs_of c.behind-2.ensures) c.loop-alloc.invariant.read

pub returns : goal.returns
returns c =
    let ts = c.args.piece.now in
    let ends : ends_elements (drop c.loop-alloc.at ts) ≡ true = sym c.ends_elements.ensures.ends ∙ c.loop-alloc-test.false in
    ended ts c.loop-alloc.at (map element_seen c.loop-alloc.elements.items) (Some (map adverb_seen c.in-Some-3.adverbs.items)) _ ends (some_given _ _ _ c.in-Some-3.is ∙ c.in_ok-adverbs.ensures ∙ ap adverbs_of c.behind-2.ensures) c.loop-alloc.invariant.read
