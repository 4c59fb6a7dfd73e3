use Rattle.std.proofs.Common.{arith}
use Rattle.std.proofs.lemmas.Result.{err_from_is_err_and}
use Rattle.std.proofs.lemmas.Str.{IsUtf8-string_bytes}
use Rattle.tree_text.proofs.Escapes.{begins_small, never_small}
use Rattle.tree_text.proofs.Prefixes.{open_prefix, undefined_prefix, text_prefix, number_prefix, no_prefix, refused_text}
use Rattle.tree_text.proofs.read.read_prefix.Goals as goal

pub returns-in-Some-clause-ok : goal.returns-in-Some-clause-ok
returns-in-Some-clause-ok c = open_prefix _ _ (begins_small _ _ 91 (omega arith) c.in-Some.ensures)

pub returns-in-Some-behind_undef-clause-ok : goal.returns-in-Some-behind_undef-clause-ok
returns-in-Some-behind_undef-clause-ok c = undefined_prefix _ _ c.in-Some-behind_undef.ensures

pub returns-in_err-quoted-clause-err : goal.returns-in_err-quoted-clause-err
returns-in_err-quoted-clause-err c =
    let p = err_from_is_err_and c.from_residual.result c.from_residual.ensures.1 in
    rw (p.1, p.2) (refused_text _ _ _ (begins_small _ _ 34 (omega arith) c.in-Some-behind.ensures) c.in_err-quoted.ensures.err)

pub returns-in-Some-behind-clause-ok : goal.returns-in-Some-behind-clause-ok
returns-in-Some-behind-clause-ok c =
    text_prefix _ _ _ _ (IsUtf8-string_bytes c.in_ok-quoted.quoted) (begins_small _ _ 34 (omega arith) c.in-Some-behind.ensures) c.in_ok-quoted.ensures.ok

pub returns-in-Some-read_number-clause-ok : goal.returns-in-Some-read_number-clause-ok
returns-in-Some-read_number-clause-ok c = number_prefix _ _ _ c.in-Some-read_number.ensures

pub returns-in-None-clause-err : goal.returns-in-None-clause-err
returns-in-None-clause-err c =
    no_prefix _ (never_small _ 91 (omega arith) c.in_default.ensures) c.in_default-behind_undef.ensures (never_small _ 34 (omega arith) c.in_default-behind.ensures) c.in-None.ensures
