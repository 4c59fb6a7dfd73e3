use Rattle.std.proofs.Common.{◌≡◌, ◌∙◌, refl, sym, ap, subst}
use Rattle.std.specs.Prelude.{OnOk}
use Rattle.std.specs.Option.{option_copied}
use Rattle.script_model.specs.Commands as model
use Rattle.script_model.specs.Commands.{Building, Reading, phase_of}
use Rattle.script_model.specs.Replies.{says}
use Rattle.marpa_script.specs.declared.commands.Command.{Command}
use Rattle.marpa_script.specs.Told.{texts, told}
use Rattle.marpa_script.specs.Machines.{building, LineReplies}
use Rattle.marpa_script.proofs.Answering.{played, not_now}
use Rattle.marpa_script.proofs.building.answer_building.Goals as goal

later : (x y : Command) → x ≡ y → phase_of (told y) ≡ Reading → phase_of (told x) ≡ Building → ⊥
later x y is reads now = let r : Reading ≡ Building = sym reads ∙ (sym (ap (λ (z : Command). phase_of (told z)) is) ∙ now) in cc r

pub returns-in-Symbol : goal.returns-in-Symbol
returns-in-Symbol c =
    let reply = says (building c.answer_symbol.new.w) c.answer_symbol.new.line.items in
    subst (λ (x : Command). OnOk c.answer_symbol.result (LineReplies (building c.args.w.now) (told x) reply)) (sym c.in-Symbol.is)
    (played (building c.args.w.now) (model.Symbol c.in-Symbol.name.now) reply c.answer_symbol.result refl c.answer_symbol.ensures)

pub returns-in-Rule : goal.returns-in-Rule
returns-in-Rule c =
    let reply = says (building c.answer_rule.new.w) c.answer_rule.new.line.items in
    subst (λ (x : Command). OnOk c.answer_rule.result (LineReplies (building c.args.w.now) (told x) reply)) (sym c.in-Rule.is)
    (played (building c.args.w.now) (model.Rule c.in-Rule.lhs.now (texts c.in-Rule.rhs.now)) reply c.answer_rule.result refl c.answer_rule.ensures)

pub returns-in-Sequence : goal.returns-in-Sequence
returns-in-Sequence c =
    let reply = says (building c.answer_sequence.new.w) c.answer_sequence.new.line.items in
    subst (λ (x : Command). OnOk c.answer_sequence.result (LineReplies (building c.args.w.now) (told x) reply)) (sym c.in-Sequence.is)
    (played (building c.args.w.now) (model.Sequence c.in-Sequence.lhs.now c.in-Sequence.item.now c.in-Sequence.plus (option_copied c.in-Sequence.separator) c.in-Sequence.proper) reply c.answer_sequence.result refl c.answer_sequence.ensures)

pub returns-in-Start : goal.returns-in-Start
returns-in-Start c =
    let reply = says (building c.answer_start.new.w) c.answer_start.new.line.items in
    subst (λ (x : Command). OnOk c.answer_start.result (LineReplies (building c.args.w.now) (told x) reply)) (sym c.in-Start.is)
    (played (building c.args.w.now) (model.Start c.in-Start.name.now) reply c.answer_start.result refl c.answer_start.ensures)

pub returns-in-Alternative : goal.returns-in-Alternative
returns-in-Alternative c = not_now (building c.args.w.now) (told c.args.command) c.put.new.line.items c.put.result (later c.args.command _ c.in-Alternative.is refl) c.put.ensures

pub returns-in-Complete : goal.returns-in-Complete
returns-in-Complete c = not_now (building c.args.w.now) (told c.args.command) c.put-in-Complete.new.line.items c.put-in-Complete.result (later c.args.command _ c.in-Complete.is refl) c.put-in-Complete.ensures

pub returns-in-Expected : goal.returns-in-Expected
returns-in-Expected c = not_now (building c.args.w.now) (told c.args.command) c.put-in-Expected.new.line.items c.put-in-Expected.result (later c.args.command _ c.in-Expected.is refl) c.put-in-Expected.ensures

pub returns-in-Report : goal.returns-in-Report
returns-in-Report c = not_now (building c.args.w.now) (told c.args.command) c.put-in-Report.new.line.items c.put-in-Report.result (later c.args.command _ c.in-Report.is refl) c.put-in-Report.ensures

pub returns-in-Trees : goal.returns-in-Trees
returns-in-Trees c = not_now (building c.args.w.now) (told c.args.command) c.put-in-Trees.new.line.items c.put-in-Trees.result (later c.args.command _ c.in-Trees.is refl) c.put-in-Trees.ensures
