use Rattle.std.proofs.Common.{◌++◌, IsTrue, map, ap, subst, sym, ◌∙◌}
use Rattle.std.proofs.lemmas.Result.{on_ok_weaker}
use Rattle.grammar_core.specs.Steps.{step_of}
use Rattle.value_lines.proofs.Pages.{some_given, current_known, place_shown}
use Rattle.value_lines.proofs.page.append_place.Goals as goal

pub current_steps-requires : goal.current_steps-requires
current_steps-requires c =
    let (given, count, stands) = c.requires in
    current_known c.args.iter.now given (stands (some_given c.args.first given (λ e. (let asked = subst IsTrue c.if-is_none_asked.false (c.is_none_asked.ensures.1 e) in cc)) count))

pub returns : goal.returns
returns c = on_ok_weaker c.write_cursor.result
    (λ ok given count stands.
    let at = stands (some_given c.args.first given (λ e. (let asked = subst IsTrue c.if-is_none_asked.false (c.is_none_asked.ensures.1 e) in cc)) count) in
    ok ∙ ap (λ l. c.args.line.now.items ++ l) (sym (place_shown c.args.iter.now c.args.after.now given (map step_of c.current_steps.result.now) at c.current_steps.ensures)))
    c.write_cursor.ensures.ok
