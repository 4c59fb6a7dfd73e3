use Rattle.std.proofs.Common.{◌≡◌, ◌++◌, map, take, Bor}
use Rattle.language_model.specs.Tokens.{Spelled}
use Rattle.dsl_statement.specs.Statements.{is_lexical}
use Rattle.dsl_faults.specs.Uses.{used, used_of}
use Rattle.dsl_faults.specs.declared.uses.Role.TheVariants.{Right}
use Rattle.dsl_faults.proofs.uses.push_parts.Given as goal

abbrev pub invariant-loop-part : goal.invariant-loop-part
invariant-loop-part l = map used_of l.uses.items ≡ map used_of l.fn.uses.items ++ map (λ (t : Bor Spelled). used Right (is_lexical l.level) t.now) (take l.part-index l.parts)
