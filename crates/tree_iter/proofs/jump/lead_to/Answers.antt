use Rattle.std.proofs.Common.{◌≡◌, ◌∙◌, length, map, Some, sym, ap}
use Rattle.std.proofs.lemmas.Result.{IfOk-from_err}
use Rattle.grammar_core.specs.Steps.{step_of}
use Rattle.tree_iter.specs.Leads.{over}
use Rattle.tree_iter.proofs.LedEnds.{neither, leads_first, led_last}
use Rattle.tree_iter.proofs.jump.lead_to.Goals as goal

pub go_on-requires : goal.go_on-requires
go_on-requires g c = c.requires.stands

pub returns-clause-comes : goal.returns-clause-comes
returns-clause-comes g c = λ found rest h. c.in_ok-go_on.ensures.comes c.if-not-branch.false rest h

pub returns-clause-shows : goal.returns-clause-shows
returns-clause-shows g c = λ found. ap (map step_of) (sym c.deref.ensures.value) ∙ c.are_same.ensures.0 found

pub returns-clause-missed : goal.returns-clause-missed
returns-clause-missed g c = λ missed rest h flat held few is.
    let first = leads_first c.args.walk.now c.put_aims.new.self c.args.to.now c.in_ok-rows.rows.items rest flat (ap (λ (t : _). t.now) c.put_aims.ensures.to) (ap (λ (r : _). r.items) c.put_aims.ensures.rows) c.in_ok-rows.ensures.rows
    c.put_aims.ensures.looks (c.in_ok-put_aims.ensures.aims ∙ ap (λ l. over l (length c.args.to.now) (Some (length c.args.to.now))) c.new.ensures.items) c.requires.begun h held few is in
    let kept = (c.in_ok-go_on.ensures.kept first).1 in
    let none = c.in_ok-go_on.ensures.none c.if-not-branch.false in
    let last = led_last c.go_on.new.walk c.go_on.new.self.aims.items (map step_of c.go_on.new.self.to.now) none kept.led in
    let to : map step_of c.go_on.new.self.to.now ≡ map step_of c.args.to.now = ap (λ (t : _). map step_of t.now) (c.go_on.ensures.to ∙ c.put_aims.ensures.to) in
    neither c.are_same.result (c.are_same.ensures.1 (ap (map step_of) c.deref.ensures.value ∙ last ∙ to)) missed

pub returns-then-not-branch-clause-missed : goal.returns-then-not-branch-clause-missed
returns-then-not-branch-clause-missed g c = λ missed rest h flat held few is.
    let first = leads_first c.args.walk.now c.put_aims.new.self c.args.to.now c.in_ok-rows.rows.items rest flat (ap (λ (t : _). t.now) c.put_aims.ensures.to) (ap (λ (r : _). r.items) c.put_aims.ensures.rows) c.in_ok-rows.ensures.rows
    c.put_aims.ensures.looks (c.in_ok-put_aims.ensures.aims ∙ ap (λ l. over l (length c.args.to.now) (Some (length c.args.to.now))) c.new.ensures.items) c.requires.begun h held few is in
    neither _ (c.in_ok-go_on.ensures.kept first).0 c.if-not-branch.true

pub returns-in_err-rows-clause-comes : goal.returns-in_err-rows-clause-comes
returns-in_err-rows-clause-comes g c = IfOk-from_err _ _ c.from_residual.ensures.0

pub returns-in_err-rows-clause-shows : goal.returns-in_err-rows-clause-shows
returns-in_err-rows-clause-shows g c = IfOk-from_err _ _ c.from_residual.ensures.0

pub returns-in_err-rows-clause-missed : goal.returns-in_err-rows-clause-missed
returns-in_err-rows-clause-missed g c = IfOk-from_err _ _ c.from_residual.ensures.0

pub returns-in_err-put_aims-clause-comes : goal.returns-in_err-put_aims-clause-comes
returns-in_err-put_aims-clause-comes g c = IfOk-from_err _ _ c.from_residual-in_err-put_aims.ensures.0

pub returns-in_err-put_aims-clause-shows : goal.returns-in_err-put_aims-clause-shows
returns-in_err-put_aims-clause-shows g c = IfOk-from_err _ _ c.from_residual-in_err-put_aims.ensures.0

pub returns-in_err-put_aims-clause-missed : goal.returns-in_err-put_aims-clause-missed
returns-in_err-put_aims-clause-missed g c = IfOk-from_err _ _ c.from_residual-in_err-put_aims.ensures.0

pub returns-in_err-go_on-clause-comes : goal.returns-in_err-go_on-clause-comes
returns-in_err-go_on-clause-comes g c = IfOk-from_err _ _ c.from_residual-in_err-go_on.ensures.0

pub returns-in_err-go_on-clause-shows : goal.returns-in_err-go_on-clause-shows
returns-in_err-go_on-clause-shows g c = IfOk-from_err _ _ c.from_residual-in_err-go_on.ensures.0

pub returns-in_err-go_on-clause-missed : goal.returns-in_err-go_on-clause-missed
returns-in_err-go_on-clause-missed g c = IfOk-from_err _ _ c.from_residual-in_err-go_on.ensures.0
