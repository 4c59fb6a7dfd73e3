use Rattle.slif_parser.proofs.derivations.steps_spelled.Goals as goal

pub returns-in-Err-BadCursor-clause-none : goal.returns-in-Err-BadCursor-clause-none
returns-in-Err-BadCursor-clause-none c = λ none. c.in-Err-BadCursor.ensures.bad c.in-Err-BadCursor.field-0-is
