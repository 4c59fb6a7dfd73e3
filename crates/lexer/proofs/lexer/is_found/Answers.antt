use Rattle.std.proofs.Common.{subst}
use Rattle.std.specs.Prelude.{IsTrue}
use Rattle.lexer.proofs.Sorted.{found_there}
use Rattle.lexer.proofs.lexer.is_found.Goals as goal

pub returns : goal.returns
returns c t = found_there c.args.candidates.now c.args.start c.binary_search.result c.binary_search.ensures.bound c.binary_search.ensures.ok (subst (λ b. IsTrue b) c.is_ok.ensures.value t)
