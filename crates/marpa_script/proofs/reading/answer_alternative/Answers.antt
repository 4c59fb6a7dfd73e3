use Rattle.std.proofs.Common.{Err, ap, arith}
use Rattle.marpa_script.proofs.Replying.{on_ok}
use Rattle.marpa_script.proofs.Hearing.{replies_bad_name, replies_unexpected, replies_duplicate, replies_bad_length, replies_taken}
use Rattle.marpa_script.proofs.reading.answer_alternative.Goals as goal

pub alternative-requires : goal.alternative-requires
alternative-requires c = let within = c.requires.within in omega (arith, within)

pub returns-in_default-clause-replies : goal.returns-in_default-clause-replies
returns-in_default-clause-replies c =
    on_ok c.put.result c.put.ensures (λ is. replies_bad_name c.args.w.now c.args.recce.now c.args.name.now c.put.new.line.items c.args.length c.in_default.ensures.held is)

pub returns-in-Ok-clause-replies : goal.returns-in-Ok-clause-replies
returns-in-Ok-clause-replies c =
    on_ok c.put-in-Ok.result c.put-in-Ok.ensures
    (replies_taken c.expected_are_acceptable.ensures c.args.w.now c.args.recce.now c.alternative.new.self c.args.name.now c.put-in-Ok.new.line.items c.args.length c.in-Some.symbol c.requires c.place-place.ensures.is
    c.in-Some.ensures.held c.in-Some.ensures.number c.alternative.result _ c.in-Ok.is c.alternative.ensures.unexpected c.alternative.ensures.duplicate c.alternative.ensures.bad_length c.in-Ok.ensures.ok c.alternative.ensures.same.2)

pub returns-in-Err-Unexpected-clause-replies : goal.returns-in-Err-Unexpected-clause-replies
returns-in-Err-Unexpected-clause-replies c =
    on_ok c.put-in-Err-Unexpected.result c.put-in-Err-Unexpected.ensures
    (replies_unexpected c.expected_are_acceptable.ensures c.args.w.now c.args.recce.now c.alternative.new.self c.args.name.now c.put-in-Err-Unexpected.new.line.items c.args.length c.in-Some.symbol c.requires c.place-place.ensures.is
    c.in-Some.ensures.held c.in-Some.ensures.number c.in-Err-Unexpected.ensures.err (c.in-Err-Unexpected.ensures.unexpected.0 (ap Err c.in-Err-Unexpected.field-0-is)))

pub returns-in-Err-Duplicate-clause-replies : goal.returns-in-Err-Duplicate-clause-replies
returns-in-Err-Duplicate-clause-replies c =
    on_ok c.put-in-Err-Duplicate.result c.put-in-Err-Duplicate.ensures
    (replies_duplicate c.expected_are_acceptable.ensures c.args.w.now c.args.recce.now c.alternative.new.self c.args.name.now c.put-in-Err-Duplicate.new.line.items c.args.length c.in-Some.symbol c.requires c.place-place.ensures.is
    c.in-Some.ensures.held c.in-Some.ensures.number c.in-Err-Duplicate.ensures.err (c.in-Err-Duplicate.ensures.duplicate.0 (ap Err c.in-Err-Duplicate.field-0-is)))

pub returns-in-Err-BadLength-clause-replies : goal.returns-in-Err-BadLength-clause-replies
returns-in-Err-BadLength-clause-replies c =
    on_ok c.put-in-Err-BadLength.result c.put-in-Err-BadLength.ensures
    (replies_bad_length c.expected_are_acceptable.ensures c.args.w.now c.args.recce.now c.alternative.new.self c.args.name.now c.put-in-Err-BadLength.new.line.items c.args.length c.in-Some.symbol c.requires c.place-place.ensures.is
    c.in-Some.ensures.held c.in-Some.ensures.number c.in-Err-BadLength.ensures.err (c.in-Err-BadLength.ensures.bad_length.0 (ap Err c.in-Err-BadLength.field-0-is)))
