use Rattle.std.proofs.Common.{Err, map, refl, ap}
use Rattle.grammar_core.specs.Steps.{step_of}
use Rattle.scanning_calls.proofs.Deriving.{none_kept}
use Rattle.scanning_calls.proofs.kept.derive.Goals as goal

pub returns-in-Err-NoParse : goal.returns-in-Err-NoParse
returns-in-Err-NoParse g c =
    let none = c.in-Err-NoParse.ensures.no_parse.0 (ap Err c.in-Err-NoParse.field-0-is) in
    (refl, none_kept c.args.w.now c.args.recce.now c.requires.reads c.trees_are_derivations.ensures c.place-place.ensures.is none c.args.skip c.args.most _ (ap (map (λ steps. map step_of steps.items)) c.new.ensures.items) refl)
