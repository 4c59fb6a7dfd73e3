use Rattle.std.proofs.Common.{arith, ◌∙◌, ◌++◌, ap, map, false, List}
use Rattle.std.proofs.lemmas.List.{take_all}
use Rattle.language_model.specs.Tokens.{Spelled}
use Rattle.dsl_meanings.proofs.meanings.push_hidden.Goals as goal

pub returns : goal.returns
returns c = c.loop.invariant ∙ ap (λ (ts : List Spelled). c.args.shown.now.items ++ map (λ t. false) ts) (take_all c.loop.index c.args.parts.now (omega arith))
