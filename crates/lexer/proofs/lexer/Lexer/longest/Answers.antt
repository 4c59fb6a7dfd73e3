use Rattle.std.proofs.Common.{refl, sym, subst}
use Rattle.std.specs.Prelude.{IsNone}
use Rattle.lexer.proofs.lexer.Lexer.longest.Goals as goal

pub returns-in-None-clause-none : goal.returns-in-None-clause-none
returns-in-None-clause-none c = λ none. c.in_ok-length.ensures.none (subst (λ o. IsNone o) (sym c.in-None.is) refl)
