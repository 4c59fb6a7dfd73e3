use Rattle.std.proofs.Common.{inl, inr, Contains, get_or, sym, subst, arith}
use Rattle.std.proofs.lemmas.List.{take_all, get_or_default}
use Rattle.lexer.proofs.Listing.{contains_next}
use Rattle.language_tests.proofs.limits.are_starts.Goals as goal

pub loop-candidate-preserved : goal.loop-candidate-preserved
loop-candidate-preserved c k h =
    let cs = c.args.candidates.now in
    let i = c.loop-candidate.candidate-index in
    elim ((contains_next cs i (get_or cs i 0) k c.loop-candidate-test.true (get_or_default cs i 0 (get_or cs i 0) c.loop-candidate-test.true)).0 h) [ inl o ↦ c.loop-candidate.invariant k o | inr s ↦ omega arith ]

pub returns : goal.returns
returns c = λ e k h. c.loop-candidate.invariant k (subst (λ l. Contains l k) (sym (take_all c.loop-candidate.candidate-index c.args.candidates.now c.loop-candidate-test.false)) h)
