use Rattle.std.proofs.Common.{Err, ◌<◌, ◌∙◌, ap, arith}
use Rattle.grammar_model.specs.declared.limits.TheConstants.{LAST_PLACE}
use Rattle.earley_sets.specs.Recognizer.{earleme_of}
use Rattle.scanning_calls.proofs.Hearing.{at_last, bad_length, duplicate, no_memory, taken, unexpected}
use Rattle.scanning_calls.proofs.reading.take_token.Goals as goal

pub returns-then-place-ge-LAST_PLACE-clause-answers : goal.returns-then-place-ge-LAST_PLACE-clause-answers
returns-then-place-ge-LAST_PLACE-clause-answers c =
    at_last c.args.w.now c.args.recce.now c.args.symbol c.args.length (let is = c.place.ensures.place in let le = c.if-place-ge-LAST_PLACE.true in omega (arith, is, le))

pub returns-in-Ok-clause-answers : goal.returns-in-Ok-clause-answers
returns-in-Ok-clause-answers c =
    let lt : earleme_of c.args.recce.now < LAST_PLACE = (let is = c.place.ensures.place in let no = c.if-place-ge-LAST_PLACE.false in omega (arith, is, no)) in
    taken c.expected_are_acceptable.ensures c.args.w.now c.args.recce.now c.alternative.new.self c.requires c.place.ensures.is c.args.symbol c.args.length lt
    c.alternative.result c.alternative.ensures.unexpected c.alternative.ensures.duplicate c.alternative.ensures.bad_length _ _ c.in-Ok.is c.in-Ok.ensures.ok c.alternative.ensures.same.2

pub returns-in-Err-Unexpected-clause-answers : goal.returns-in-Err-Unexpected-clause-answers
returns-in-Err-Unexpected-clause-answers c =
    let lt : earleme_of c.args.recce.now < LAST_PLACE = (let is = c.place.ensures.place in let no = c.if-place-ge-LAST_PLACE.false in omega (arith, is, no)) in
    unexpected c.expected_are_acceptable.ensures c.args.w.now c.args.recce.now c.alternative.new.self c.requires c.place.ensures.is c.args.symbol c.args.length lt
    c.in-Err-Unexpected.ensures.err (c.in-Err-Unexpected.ensures.unexpected.0 (ap Err c.in-Err-Unexpected.field-0-is))

pub returns-in-Err-Duplicate-clause-answers : goal.returns-in-Err-Duplicate-clause-answers
returns-in-Err-Duplicate-clause-answers c =
    let lt : earleme_of c.args.recce.now < LAST_PLACE = (let is = c.place.ensures.place in let no = c.if-place-ge-LAST_PLACE.false in omega (arith, is, no)) in
    duplicate c.expected_are_acceptable.ensures c.args.w.now c.args.recce.now c.alternative.new.self c.requires c.place.ensures.is c.args.symbol c.args.length lt
    c.in-Err-Duplicate.ensures.err (c.in-Err-Duplicate.ensures.duplicate.0 (ap Err c.in-Err-Duplicate.field-0-is))

pub returns-in-Err-BadLength-clause-answers : goal.returns-in-Err-BadLength-clause-answers
returns-in-Err-BadLength-clause-answers c =
    let lt : earleme_of c.args.recce.now < LAST_PLACE = (let is = c.place.ensures.place in let no = c.if-place-ge-LAST_PLACE.false in omega (arith, is, no)) in
    bad_length c.expected_are_acceptable.ensures c.args.w.now c.args.recce.now c.alternative.new.self c.requires c.place.ensures.is c.args.symbol c.args.length lt
    c.in-Err-BadLength.ensures.err (c.in-Err-BadLength.ensures.bad_length.0 (ap Err c.in-Err-BadLength.field-0-is))

pub returns-in-Err-NoMemory-clause-answers : goal.returns-in-Err-NoMemory-clause-answers
returns-in-Err-NoMemory-clause-answers c =
    let lt : earleme_of c.args.recce.now < LAST_PLACE = (let is = c.place.ensures.place in let no = c.if-place-ge-LAST_PLACE.false in omega (arith, is, no)) in
    no_memory c.expected_are_acceptable.ensures c.args.w.now c.args.recce.now c.alternative.new.self c.requires c.place.ensures.is c.args.symbol c.args.length lt
    c.alternative.result c.alternative.ensures.unexpected c.alternative.ensures.duplicate c.alternative.ensures.bad_length (c.in-Err-NoMemory.is ∙ ap Err c.in-Err-NoMemory.field-0-is) c.in-Err-NoMemory.ensures.err
