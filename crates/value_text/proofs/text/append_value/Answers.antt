use Rattle.std.proofs.Common.{refl}
use Rattle.value_text.proofs.Rest.{close_list, next_item, less_left, open_lists_again, first_open_id, lists_below, extended_through, one_longer, longer_through}
use Rattle.std.proofs.lemmas.Result.{IfOk-from_err}
use Rattle.value_text.proofs.text.append_value.Goals as goal

pub loop-list-smaller-in_default-split_first : goal.loop-list-smaller-in_default-split_first
loop-list-smaller-in_default-split_first c =
    less_left _ _ _ _ _ c.loop-list.invariant.written
    (close_list _ _ _ _ _ _ _ c.in-Some.ensures.items c.in_default-split_first.ensures.cases c.in_ok-append_byte.ensures.ok c.loop-list.invariant.written)
    (one_longer _ _ _ c.in_ok-append_byte.ensures.ok)

pub loop-list-preserved-in_default-split_first : goal.loop-list-preserved-in_default-split_first
loop-list-preserved-in_default-split_first c = record {
  written = close_list _ _ _ _ _ _ _ c.in-Some.ensures.items c.in_default-split_first.ensures.cases c.in_ok-append_byte.ensures.ok c.loop-list.invariant.written;
  extended = extended_through _ _ _ c.loop-list.invariant.extended c.append_byte.ensures.extended;
  lists = lists_below _ _ _ _ c.in-Some.ensures.items c.loop-list.invariant.lists;
}

pub append_start-requires-in-Some-clause-id : goal.append_start-requires-in-Some-clause-id
append_start-requires-in-Some-clause-id c = first_open_id _ _ _ _ _ _ c.in-Some.ensures.items c.in-Some-split_first.ensures.cases.0 c.loop-list.invariant.lists

pub append_start-requires-in-Some-clause-lists : goal.append_start-requires-in-Some-clause-lists
append_start-requires-in-Some-clause-lists c =
    open_lists_again _ _ _ _ _ _ _ c.in-Some.ensures.items c.in-Some-split_first.ensures.cases.0 c.in_ok-push.ensures.items c.loop-list.invariant.lists

pub loop-list-smaller : goal.loop-list-smaller
loop-list-smaller c =
    less_left _ _ _ _ _ c.loop-list.invariant.written
    (next_item _ _ _ c.append_start-in-Some.new.out.items _ _ _ _ c.append_start-in-Some.new.lists.items _ _ _ _ c.in-Some.ensures.items c.in-Some-split_first.ensures.cases.0 c.in_ok-append_comma.ensures.ok c.in_ok-push.ensures.items refl refl
    c.in_ok-append_start-2.ensures.ok c.loop-list.invariant.written)
    (longer_through _ _ _ c.append_comma.ensures.extended c.in_ok-append_start-2.ensures.longer)

pub loop-list-preserved : goal.loop-list-preserved
loop-list-preserved c = record {
  written =
      next_item _ _ _ c.append_start-in-Some.new.out.items _ _ _ _ c.append_start-in-Some.new.lists.items _ _ _ _ c.in-Some.ensures.items c.in-Some-split_first.ensures.cases.0 c.in_ok-append_comma.ensures.ok c.in_ok-push.ensures.items refl refl
      c.in_ok-append_start-2.ensures.ok c.loop-list.invariant.written;
  extended = extended_through _ _ _ (extended_through _ _ _ c.loop-list.invariant.extended c.append_comma.ensures.extended) c.append_start-in-Some.ensures.extended;
  lists = c.append_start-in-Some.ensures.lists;
}

pub returns-in_err-append_byte-clause-extended : goal.returns-in_err-append_byte-clause-extended
returns-in_err-append_byte-clause-extended c = extended_through _ _ _ c.loop-list.invariant.extended c.append_byte.ensures.extended

pub returns-in_err-append_comma-clause-extended : goal.returns-in_err-append_comma-clause-extended
returns-in_err-append_comma-clause-extended c = extended_through _ _ _ c.loop-list.invariant.extended c.append_comma.ensures.extended

pub returns-in_err-push-clause-extended : goal.returns-in_err-push-clause-extended
returns-in_err-push-clause-extended c = extended_through _ _ _ c.loop-list.invariant.extended c.append_comma.ensures.extended

pub returns-in_err-append_start-2-clause-extended : goal.returns-in_err-append_start-2-clause-extended
returns-in_err-append_start-2-clause-extended c = extended_through _ _ _ (extended_through _ _ _ c.loop-list.invariant.extended c.append_comma.ensures.extended) c.append_start-in-Some.ensures.extended

pub returns-in_err-append_start-clause-ok : goal.returns-in_err-append_start-clause-ok
returns-in_err-append_start-clause-ok c = IfOk-from_err _ _ c.from_residual.ensures.0

pub returns-in_err-append_byte-clause-ok : goal.returns-in_err-append_byte-clause-ok
returns-in_err-append_byte-clause-ok c = IfOk-from_err _ _ c.from_residual-in_err-append_byte.ensures.0

pub returns-in_err-append_comma-clause-ok : goal.returns-in_err-append_comma-clause-ok
returns-in_err-append_comma-clause-ok c = IfOk-from_err _ _ c.from_residual-in_err-append_comma.ensures.0

pub returns-in_err-push-clause-ok : goal.returns-in_err-push-clause-ok
returns-in_err-push-clause-ok c = IfOk-from_err _ _ c.from_residual-in_err-push.ensures.0

pub returns-in_err-append_start-2-clause-ok : goal.returns-in_err-append_start-2-clause-ok
returns-in_err-append_start-2-clause-ok c = IfOk-from_err _ _ c.from_residual-in_err-append_start-2.ensures.0
