use Rattle.std.proofs.Common.{◌≡◌, ◌∙◌, refl, sym, ap, subst}
use Rattle.std.specs.Prelude.{OnOk}
use Rattle.script_model.specs.Commands as model
use Rattle.script_model.specs.Commands.{Building, Reading, phase_of}
use Rattle.script_model.specs.Replies.{says}
use Rattle.marpa_script.specs.declared.commands.Command.{Command}
use Rattle.marpa_script.specs.Told.{told}
use Rattle.marpa_script.specs.Machines.{reading, LineReplies}
use Rattle.marpa_script.proofs.Replying.{on_ok}
use Rattle.marpa_script.proofs.Answering.{played, not_now}
use Rattle.marpa_script.proofs.Hearing.{reads_on, reads_same}
use Rattle.marpa_script.proofs.reading.answer_reading.Goals as goal

earlier : (x y : Command) → x ≡ y → phase_of (told y) ≡ Building → phase_of (told x) ≡ Reading → ⊥
earlier x y is builds now = let r : Building ≡ Reading = sym builds ∙ (sym (ap (λ (z : Command). phase_of (told z)) is) ∙ now) in cc r

pub returns-in-Alternative-clause-replies : goal.returns-in-Alternative-clause-replies
returns-in-Alternative-clause-replies g c =
    let m = reading c.args.w.now c.args.recce.now in
    let reply = says (reading c.args.w.now c.answer_alternative.new.recce) c.answer_alternative.new.line.items in
    subst (λ (x : Command). OnOk c.answer_alternative.result (LineReplies m (told x) reply)) (sym c.in-Alternative.is)
    (played m (model.Alternative c.in-Alternative.name.now c.in-Alternative.length) reply c.answer_alternative.result refl c.answer_alternative.ensures.replies)

pub returns-in-Alternative-clause-reads : goal.returns-in-Alternative-clause-reads
returns-in-Alternative-clause-reads g c =
    let same = c.answer_alternative.ensures.same in
    reads_same c.args.w.now c.args.recce.now c.answer_alternative.new.recce c.requires.reads same.0 same.1 same.2

pub returns-in-Complete-clause-replies : goal.returns-in-Complete-clause-replies
returns-in-Complete-clause-replies g c =
    let m = reading c.args.w.now c.args.recce.now in
    let reply = says (reading c.args.w.now c.answer_complete.new.recce) c.answer_complete.new.line.items in
    subst (λ (x : Command). OnOk c.answer_complete.result (LineReplies m (told x) reply)) (sym c.in-Complete.is)
    (played m model.Complete reply c.answer_complete.result refl (on_ok c.answer_complete.result c.answer_complete.ensures.replies (λ replies. replies c.args.w.now)))

pub returns-in-Complete-clause-reads : goal.returns-in-Complete-clause-reads
returns-in-Complete-clause-reads g c =
    let same = c.answer_complete.ensures.same in
    reads_on c.args.w.now c.args.recce.now c.answer_complete.new.recce c.requires.reads same.0 same.1 c.answer_complete.ensures.within

pub returns-in-Expected-clause-replies : goal.returns-in-Expected-clause-replies
returns-in-Expected-clause-replies g c =
    let m = reading c.args.w.now c.args.recce.now in
    let reply = says m c.answer_expected.new.line.items in
    subst (λ (x : Command). OnOk c.answer_expected.result (LineReplies m (told x) reply)) (sym c.in-Expected.is)
    (played m model.Expected reply c.answer_expected.result refl c.answer_expected.ensures)

pub returns-in-Symbol-clause-replies : goal.returns-in-Symbol-clause-replies
returns-in-Symbol-clause-replies g c = not_now (reading c.args.w.now c.args.recce.now) (told c.args.command) c.put.new.line.items c.put.result (earlier c.args.command _ c.in-Symbol.is refl) c.put.ensures

pub returns-in-Rule-clause-replies : goal.returns-in-Rule-clause-replies
returns-in-Rule-clause-replies g c = not_now (reading c.args.w.now c.args.recce.now) (told c.args.command) c.put-in-Rule.new.line.items c.put-in-Rule.result (earlier c.args.command _ c.in-Rule.is refl) c.put-in-Rule.ensures

pub returns-in-Sequence-clause-replies : goal.returns-in-Sequence-clause-replies
returns-in-Sequence-clause-replies g c =
    not_now (reading c.args.w.now c.args.recce.now) (told c.args.command) c.put-in-Sequence.new.line.items c.put-in-Sequence.result (earlier c.args.command _ c.in-Sequence.is refl) c.put-in-Sequence.ensures

pub returns-in-Start-clause-replies : goal.returns-in-Start-clause-replies
returns-in-Start-clause-replies g c = not_now (reading c.args.w.now c.args.recce.now) (told c.args.command) c.put-in-Start.new.line.items c.put-in-Start.result (earlier c.args.command _ c.in-Start.is refl) c.put-in-Start.ensures

pub returns-in-Precompute-clause-replies : goal.returns-in-Precompute-clause-replies
returns-in-Precompute-clause-replies g c =
    not_now (reading c.args.w.now c.args.recce.now) (told c.args.command) c.put-in-Precompute.new.line.items c.put-in-Precompute.result (earlier c.args.command _ c.in-Precompute.is refl) c.put-in-Precompute.ensures

pub unreachable-requires : goal.unreachable-requires
unreachable-requires g c = c.requires.report c.in-Report.field-0 (ap told c.in-Report.is)

pub unreachable-requires-in-Trees : goal.unreachable-requires-in-Trees
unreachable-requires-in-Trees g c = c.requires.trees c.in-Trees.field-0 (ap told c.in-Trees.is)
