use Rattle.std.proofs.Common.{arith, ap, length, length-append, ◌≡◌, ◌∙◌, ◌<◌, decimal}
use Rattle.std.proofs.lemmas.Fmt.{decimal_nonempty}
use Rattle.std.proofs.lemmas.Result.{on_ok_weaker}
use Rattle.value_text.proofs.text.append_number.Goals as goal

pub returns-clause-longer : goal.returns-clause-longer
returns-clause-longer c =
    let some : 0 < length (decimal c.args.n) = decimal_nonempty c.args.n (omega (arith, c.ranges.n.fits)) in
    let digits : length c.as_bytes.result.now ≡ length (decimal c.args.n) = ap length (c.as_bytes.ensures.value ∙ c.format.ensures.text) in
    on_ok_weaker c.append.result (λ e. omega (arith, some, digits, ap length e, length-append c.args.out.now.items c.as_bytes.result.now)) c.append.ensures.ok
