use Rattle.std.proofs.Common.{arith, length}
use Rattle.std.proofs.lemmas.Result.{on_ok_weaker, IfOk-from_err}
use Rattle.std.specs.List.{slice_range}
use Rattle.value_text.proofs.Rest.{quoting_plain, quoting_escaped, quoting_ended, extended_through}
use Rattle.value_text.proofs.text.append_inside.Goals as goal

pub loop-at-preserved-in-Some-escape_of : goal.loop-at-preserved-in-Some-escape_of
loop-at-preserved-in-Some-escape_of c =
    let steps = c.in-Some.ensures.steps in
    record {
      quoting =
          quoting_escaped _ _ _ _ _ _ _ _ _ _ _ _ c.in-Some.c c.loop-at.invariant.quoting steps.1 (omega (arith, steps.0, c.len_utf8.ensures.len)) steps.2 c.in-Some-escape_of.ensures
          (λ i. slice_range (c.as_bytes-bytes.ensures.value i) c.loop-at.from (steps.0 i)) c.in_ok-append_escaped.ensures.ok;
      extended = extended_through _ _ _ c.loop-at.invariant.extended c.append_escaped.ensures.extended;
    }

pub loop-at-preserved : goal.loop-at-preserved
loop-at-preserved c =
    let steps = c.in-Some.ensures.steps in
    record {
      quoting = quoting_plain _ _ _ _ _ _ _ _ c.in-Some.c c.loop-at.invariant.quoting steps.1 steps.2 c.in_default.ensures;
      extended = c.loop-at.invariant.extended;
    }

pub returns-clause-ok : goal.returns-clause-ok
returns-clause-ok c =
    on_ok_weaker c.append.result
    (λ more. quoting_ended _ _ _ _ _ _ _ _ c.loop-at.invariant.quoting c.in-None.ensures.steps.0 (λ i. slice_range (c.as_bytes-bytes.ensures.value i) c.loop-at.from (length (c.as_bytes-bytes.ensures.value i))) more)
    c.append.ensures.ok

pub returns-in_err-append_escaped-clause-extended : goal.returns-in_err-append_escaped-clause-extended
returns-in_err-append_escaped-clause-extended c = extended_through _ _ _ c.loop-at.invariant.extended c.append_escaped.ensures.extended

pub returns-clause-extended : goal.returns-clause-extended
returns-clause-extended c = extended_through _ _ _ c.loop-at.invariant.extended c.append.ensures.extended

pub returns-in_err-append_escaped-clause-ok : goal.returns-in_err-append_escaped-clause-ok
returns-in_err-append_escaped-clause-ok c = IfOk-from_err _ _ c.from_residual.ensures.0
