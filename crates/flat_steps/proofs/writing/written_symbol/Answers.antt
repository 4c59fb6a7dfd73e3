use Rattle.std.proofs.Common.{◌∙◌, Some, sym, ap}
use Rattle.grammar_model.specs.Grammar.{lhs_of}
use Rattle.recognizer_model.specs.FlatForm.{written_symbol as stands_for}
use Rattle.flat_steps.proofs.Linked.{index_is}
use Rattle.flat_steps.proofs.Written.{sequence_within, top_within, stands_at}
use Rattle.flat_steps.proofs.writing.written_symbol.Goals as goal

pub written_rule-requires : goal.written_rule-requires
written_rule-requires c = sequence_within c.args.flat.now c.args.written.now c.requires.flat_of c.args.x c.in-Sequence.rule (c.symbol.ensures ∙ ap Some c.in-Sequence.is)

pub start-requires : goal.start-requires
start-requires c = top_within c.args.flat.now c.args.written.now c.requires.flat_of c.args.x c.in-Top.k (c.symbol.ensures ∙ ap Some c.in-Top.is)

pub returns-in-Terminal : goal.returns-in-Terminal
returns-in-Terminal c = sym (stands_at c.args.flat.now c.args.written.now c.args.x c.symbol.result c.symbol.ensures ∙ ap (stands_for c.args.written.now) c.in-Terminal.is)

pub returns-in-Slot : goal.returns-in-Slot
returns-in-Slot c = sym (stands_at c.args.flat.now c.args.written.now c.args.x c.symbol.result c.symbol.ensures ∙ ap (stands_for c.args.written.now) c.in-Slot.is)

pub returns-in-Sequence : goal.returns-in-Sequence
returns-in-Sequence c = c.lhs.ensures ∙ sym (ap lhs_of (index_is c.args.written.now.rules c.in-Sequence.rule _ _ c.written_rule.ensures)) ∙ sym (stands_at c.args.flat.now c.args.written.now c.args.x c.symbol.result c.symbol.ensures ∙ ap (stands_for c.args.written.now) c.in-Sequence.is)

pub returns-in-Top : goal.returns-in-Top
returns-in-Top c = sym (index_is c.args.written.now.starts c.in-Top.k c.start.result 0 c.start.ensures) ∙ sym (stands_at c.args.flat.now c.args.written.now c.args.x c.symbol.result c.symbol.ensures ∙ ap (stands_for c.args.written.now) c.in-Top.is)
