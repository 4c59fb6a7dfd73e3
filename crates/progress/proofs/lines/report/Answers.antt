use Rattle.std.proofs.Common.{sym, subst, List, Contains}
use Rattle.std.proofs.lemmas.Option.{slice_get-get_or}
use Rattle.recognizer_model.specs.declared.Item.{Item}
use Rattle.recognizer_model.specs.Flat.{FlatGrammar, IsRule}
use Rattle.earley_sets.specs.Recognizer.{top_of}
use Rattle.progress.proofs.Telling.{has_rule, lines_told}
use Rattle.std.proofs.lemmas.Result.{IfOk-from_err}
use Rattle.progress.proofs.lines.report.Goals as goal

pub lines_of-requires-clause-rules : goal.lines_of-requires-clause-rules
lines_of-requires-clause-rules c item h =
    subst (λ (f : FlatGrammar). IsRule f item.rule) (sym c.flat.ensures)
    (has_rule c.args.recce.now c.args.j item c.place.ensures.is ((c.in_ok-items.ensures item).0 (subst (λ (l : List Item). Contains l item) c.deref.ensures.value h)))

pub returns-clause-report : goal.returns-clause-report
returns-clause-report c =
    let told = lines_told c.args.w.now c.args.recce.now c.args.j c.flat.result.now c.flat.ensures c.in_ok-items.items.items c.deref.result.now c.deref.ensures.value c.in_ok-lines.lines.items c.in_ok-items.ensures c.in_ok-lines.ensures in
    record {
      top = top_of c.args.recce.now;
      top_is = slice_get-get_or c.args.recce.now.flat.tops c.args.recce.now.start 0 c.place.ensures.is.start;
      sorted = c.in_ok-sort.ensures.sorted;
      exact = λ line. (
        λ h. (told line).0 ((c.in_ok-sort.ensures.same line).0 h),
        λ h. (c.in_ok-sort.ensures.same line).1 ((told line).1 h),
      );
    }

pub returns-in_err-items-clause-report : goal.returns-in_err-items-clause-report
returns-in_err-items-clause-report c = IfOk-from_err _ _ c.from_residual.ensures.0

pub returns-in_err-lines-clause-report : goal.returns-in_err-lines-clause-report
returns-in_err-lines-clause-report c = IfOk-from_err _ _ c.from_residual-in_err-lines.ensures.0

pub returns-in_err-sort-clause-report : goal.returns-in_err-sort-clause-report
returns-in_err-sort-clause-report c = IfOk-from_err _ _ c.from_residual-in_err-sort.ensures.0
