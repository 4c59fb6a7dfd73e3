use Rattle.std.proofs.Common.{Some, None, ◌∙◌, ◌∷◌, sym, arith}
use Rattle.std.proofs.lemmas.Str.Pattern.{split_once_first}
use Rattle.script_model.specs.Commands.{lines_of}
use Rattle.marpa_script.proofs.Cutting.{lines_cut, lines_one}
use Rattle.marpa_script.proofs.lines.first_line.Goals as goal

-- src/lines.rt:14
pub returns-in-Some-clause-lines : goal.returns-in-Some-clause-lines
returns-in-Some-clause-lines c =
    let (lt, line, rest) = split_once_first 10 c.args.text.now (Some (c.in-Some.line, c.in-Some.rest)) c.in-Some.ensures.cases (omega arith) in
    lines_cut c.args.text.now lt ∙ (λ i. sym line i ∷ lines_of (sym rest i))

-- src/lines.rt:14
pub returns-in-None-clause-lines : goal.returns-in-None-clause-lines
returns-in-None-clause-lines c = lines_one c.args.text.now c.requires (split_once_first 10 c.args.text.now None c.in-None.ensures.cases (omega arith))
