use Rattle.std.proofs.Common.{subst, false, []}
use Rattle.std.specs.Prelude.{pos}
use Rattle.finite_sets.proofs.Lists.{get_index}
use Rattle.grammar_model.specs.Grammar.{SequenceRule}
use Rattle.grammar_core.specs.Refusals.{Answers}
use Rattle.marpa_script.proofs.Granting.{sequence_granted}
use Rattle.marpa_script.proofs.building.answer_sequence.Goals as goal

pub granted-requires : goal.granted-requires
granted-requires c =
    let names = c.args.w.now.names in
    let rule : SequenceRule = record {
      lhs = c.in-Some.left;
      item = c.in-Some-symbol_named.part;
      plus = c.args.plus;
      separator = c.in-Some-separator_of.between;
      proper = c.args.proper;
      rank = pos 0;
      null_high = false;
    } in
    let left = (get_index names c.in-Some.left [] c.args.lhs.now c.in-Some.ensures.named).0 in
    let part = (get_index names c.in-Some-symbol_named.part [] c.args.item.now c.in-Some-symbol_named.ensures.named).0 in
    subst (λ o. Answers o c.sequence_new.result) (sequence_granted c.args.w.now rule left part c.in-Some-separator_of.ensures.held c.requires.room) c.sequence_new.ensures.refusal
