use Rattle.std.proofs.Common.{arith, ◌∙◌, ◌++◌, ap, map, Bor, List}
use Rattle.std.proofs.lemmas.List.{take_all}
use Rattle.language_model.specs.Tokens.{Spelled}
use Rattle.dsl_faults.proofs.parts.push_hidden.Goals as goal

pub returns : goal.returns
returns c =
    c.loop-part.invariant ∙ ap (λ (ts : List Spelled). map (λ (t : Bor Spelled). t.now) c.args.parts.now.items ++ ts) (take_all c.loop-part.part-index c.args.hidden.now (omega arith))
