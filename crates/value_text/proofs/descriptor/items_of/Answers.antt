use Rattle.std.proofs.Common.{arith, sym, ◌∙◌, ap, ◌+◌}
use Rattle.value_text.proofs.Descriptors.{no_item, one_item, with_prefix, left_items}
use Rattle.std.proofs.lemmas.Result.{IfOk-from_err}
use Rattle.value_text.proofs.descriptor.items_of.Goals as goal

pub returns-in-None : goal.returns-in-None
returns-in-None c =
    sym (sym c.loop-from.invariant.1 ∙ no_item c.args.text.now c.loop-from.items.items c.loop-from.from c.comma_place-len.result c.in_ok-item.field-0 (omega arith) c.comma_place-len.ensures.value c.in_ok-item.ensures c.in-None.is)

pub loop-from-preserved : goal.loop-from-preserved
loop-from-preserved c = (
  omega arith,
  ap (λ is. with_prefix is (left_items c.args.text.now (c.loop-from.from + (c.comma_place-len.result + 1)))) c.in_ok-push-in-Some.ensures.items
      ∙ one_item c.args.text.now c.loop-from.items.items c.loop-from.from c.comma_place-len.result c.in_ok-item.field-0 c.in-Some.item (omega arith) c.comma_place-len.ensures.value c.in_ok-item.ensures c.in-Some.is
      ∙ c.loop-from.invariant.1,
)

pub returns-in_err-item : goal.returns-in_err-item
returns-in_err-item c = IfOk-from_err _ _ c.from_residual.ensures.0

pub returns-in_err-push-in-Some : goal.returns-in_err-push-in-Some
returns-in_err-push-in-Some c = IfOk-from_err _ _ c.from_residual-in_err-push-in-Some.ensures.0
