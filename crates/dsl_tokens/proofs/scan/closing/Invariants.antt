use Rattle.std.proofs.Common.{◌≡◌, ◌+◌, drop}
use Rattle.std.specs.Prelude.{option_map}
use Rattle.language_model.specs.declared.token.BracketState.TheVariants.{Plain}
use Rattle.language_model.specs.Tokens.{closing}
use Rattle.dsl_tokens.proofs.scan.closing.Given as goal

abbrev pub invariant-loop-i : goal.invariant-loop-i
invariant-loop-i l = option_map (λ n. l.i + n) (closing (drop l.i l.text) l.state) ≡ closing l.text Plain
