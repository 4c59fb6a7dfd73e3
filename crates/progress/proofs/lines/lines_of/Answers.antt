use Rattle.std.proofs.Common.{◌∙◌, Vec, Global, arith, ap, sym}
use Rattle.std.proofs.lemmas.List.Elements.{Contains-get_or}
use Rattle.std.proofs.lemmas.Option.{slice_get-get_or}
use Rattle.recognizer_model.specs.declared.ReportLine.{ReportLine}
use Rattle.recognizer_model.specs.Report.{line_of}
use Rattle.progress.proofs.Telling.{told_one, told_nothing, told_all}
use Rattle.progress.proofs.lines.lines_of.Goals as goal
use Rattle.progress.proofs.lines.lines_of.Goals.{in-Some+in_ok-push, in_default}

pub line_of-requires-clause-rule : goal.line_of-requires-clause-rule
line_of-requires-clause-rule c = c.requires.rules _ (Contains-get_or c.args.items.now c.loop-item.item-index (record { rule = 0; dot = 0; origin = 0 }) (omega arith))

pub loop-item-preserved : goal.loop-item-preserved
loop-item-preserved c =
    let at = slice_get-get_or c.args.items.now c.loop-item.item-index (record { rule = 0; dot = 0; origin = 0 }) (omega arith) in
    elim c.match-line_of.branch [
      | in-Some+in_ok-push w ↦ told_one (line_of c.args.w.now c.args.flat.now) c.args.items.now c.loop-item.item-index c.loop-item.lines.items c.loop-item.invariant _ at
          w.in-Some.line c.match-line_of.lines.items (sym c.line_of.ensures ∙ w.in-Some.is) (ap (λ (v : Vec ReportLine Global). v.items) w.lines-is ∙ w.in_ok-push.ensures.items)
      | in_default w ↦ told_nothing (line_of c.args.w.now c.args.flat.now) c.args.items.now c.loop-item.item-index c.loop-item.lines.items c.loop-item.invariant _ at
          c.match-line_of.lines.items (sym c.line_of.ensures ∙ w.in_default.is) (ap (λ (v : Vec ReportLine Global). v.items) w.lines-is)
    ]

pub returns : goal.returns
returns c = told_all (line_of c.args.w.now c.args.flat.now) c.args.items.now c.loop-item.item-index c.loop-item.lines.items c.loop-item.invariant c.loop-item-test.false
