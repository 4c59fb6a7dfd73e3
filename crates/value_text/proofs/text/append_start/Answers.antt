use Rattle.std.proofs.Common.{refl}
use Rattle.value_text.proofs.Rest.{start_list, are_open-push}
use Rattle.std.proofs.lemmas.Result.{IfOk-from_err}
use Rattle.value_text.proofs.text.append_start.Goals as goal

pub returns-in_ok-push-in-List-clause-ok : goal.returns-in_ok-push-in-List-clause-ok
returns-in_ok-push-in-List-clause-ok c =
    start_list _ _ _ _ _ _ _ c.in_ok-append_byte-in-List.ensures.ok c.in_ok-push-in-List.ensures.items refl c.in-List.ensures.value

pub returns-in_ok-push-in-List-clause-lists : goal.returns-in_ok-push-in-List-clause-lists
returns-in_ok-push-in-List-clause-lists c =
    rw c.in_ok-push-in-List.ensures.items (are_open-push _ _ _ c.requires.lists c.in-List.ensures.ids)

pub returns-in_err-append_byte-in-List-clause-ok : goal.returns-in_err-append_byte-in-List-clause-ok
returns-in_err-append_byte-in-List-clause-ok c = IfOk-from_err _ _ c.from_residual.ensures.0

pub returns-in_err-append_byte-in-List-clause-longer : goal.returns-in_err-append_byte-in-List-clause-longer
returns-in_err-append_byte-in-List-clause-longer c = IfOk-from_err _ _ c.from_residual.ensures.0

pub returns-in_err-append_byte-in-List-clause-lists : goal.returns-in_err-append_byte-in-List-clause-lists
returns-in_err-append_byte-in-List-clause-lists c = c.requires.lists

pub returns-in_err-push-in-List-clause-ok : goal.returns-in_err-push-in-List-clause-ok
returns-in_err-push-in-List-clause-ok c = IfOk-from_err _ _ c.from_residual-in_err-push-in-List.ensures.0

pub returns-in_err-push-in-List-clause-longer : goal.returns-in_err-push-in-List-clause-longer
returns-in_err-push-in-List-clause-longer c = IfOk-from_err _ _ c.from_residual-in_err-push-in-List.ensures.0

pub returns-in-Undefined-clause-extended : goal.returns-in-Undefined-clause-extended
returns-in-Undefined-clause-extended c = c.append.ensures.extended

pub returns-in-Undefined-clause-lists : goal.returns-in-Undefined-clause-lists
returns-in-Undefined-clause-lists c = c.requires.lists

pub returns-in-Number-clause-extended : goal.returns-in-Number-clause-extended
returns-in-Number-clause-extended c = c.append_number.ensures.extended

pub returns-in-Number-clause-lists : goal.returns-in-Number-clause-lists
returns-in-Number-clause-lists c = c.requires.lists

pub returns-in-Text-clause-extended : goal.returns-in-Text-clause-extended
returns-in-Text-clause-extended c = c.append_quoted.ensures.extended

pub returns-in-Text-clause-lists : goal.returns-in-Text-clause-lists
returns-in-Text-clause-lists c = c.requires.lists
