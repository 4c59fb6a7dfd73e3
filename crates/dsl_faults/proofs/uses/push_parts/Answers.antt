use Rattle.std.proofs.Common.{arith, ◌∙◌, ◌++◌, ap, map, Bor, List}
use Rattle.std.proofs.lemmas.List.{take_all}
use Rattle.language_model.specs.Tokens.{Spelled}
use Rattle.dsl_statement.specs.Statements.{is_lexical}
use Rattle.dsl_faults.specs.Uses.{used, used_of}
use Rattle.dsl_faults.specs.declared.uses.Role.TheVariants.{Right}
use Rattle.dsl_faults.proofs.uses.push_parts.Goals as goal

pub returns : goal.returns
returns c =
    c.loop-part.invariant
    ∙ ap (λ (ts : List (Bor Spelled)). map used_of c.args.uses.now.items ++ map (λ (t : Bor Spelled). used Right (is_lexical c.args.level) t.now) ts) (take_all c.loop-part.part-index c.args.parts.now (omega arith))
