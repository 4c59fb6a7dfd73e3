use Rattle.std.proofs.Common.{◌∙◌, sym, ap, true, false}
use Rattle.char_class.specs.Members.{has_code}
use Rattle.char_class.proofs.MembersLemmas.{among_next, pair_scalar}
use Rattle.char_class.proofs.set.paired_codes.Goals as goal
use Rattle.char_class.proofs.set.paired_codes.Goals.{then-some_item_has_code+in_ok-push, else-some_item_has_code}

pub some_item_has_code-requires : goal.some_item_has_code-requires
some_item_has_code-requires c = pair_scalar c.fold_pairs-pair-items.result.now c.fold_pairs-pair-items.ensures.table c.loop-pair.pair-index c.loop-pair-test.true

pub loop-pair-preserved : goal.loop-pair-preserved
loop-pair-preserved c = λ x.
    let next = among_next c.fold_pairs-pair-items.result.now c.args.items.now c.loop-pair.folded.items c.loop-pair.pair-index x c.loop-pair-test.true (c.loop-pair.invariant x) in
    elim c.if-some_item_has_code.branch [
      | then-some_item_has_code+in_ok-push w ↦ ap (λ v. has_code v.items x) w.folded-is ∙ ap (λ l. has_code l x) w.in_ok-push.ensures.items ∙ next true (sym w.if-some_item_has_code.true ∙ c.some_item_has_code.ensures)
      | else-some_item_has_code w ↦ ap (λ v. has_code v.items x) w.folded-is ∙ next false (sym w.if-some_item_has_code.false ∙ c.some_item_has_code.ensures)
    ]
