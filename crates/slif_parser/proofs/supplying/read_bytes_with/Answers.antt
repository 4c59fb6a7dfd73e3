use Rattle.std.proofs.Common.{List, ℕ, ◌≤◌, length, chars, arith, sym, subst}
use Rattle.grammar_model.specs.declared.limits.TheConstants.{LONGEST_GIVEN}
use Rattle.text_reading.specs.Refusals.{TellsInput, IsInputRefusedAt}
use Rattle.text_reading.specs.Parts.{IsBrokenText, IsStopText}
use Rattle.text_reading.proofs.InputLemmas.{input_weaker, refused_broken, refused_stop}
use Rattle.slif_parser.specs.Readings.{IsReadAs}
use Rattle.slif_parser.proofs.Characters.{few_characters, limit_of_some, within_given, read_as}
use Rattle.slif_parser.proofs.supplying.read_bytes_with.Goals as goal

pub returns-then-input-gt-LONGEST_GIVEN-clause-refused : goal.returns-then-input-gt-LONGEST_GIVEN-clause-refused
returns-then-input-gt-LONGEST_GIVEN-clause-refused g c =
    c.input_too_long.ensures c.args.lexemes.now c.args.input.now c.args.prepared.now (sym (limit_of_some c.args.lexemes.now c.requires.some)) (omega (arith, c.if-input-gt-LONGEST_GIVEN.true))

pub returns-in-Err-clause-refused : goal.returns-in-Err-clause-refused
returns-in-Err-clause-refused g c =
    let within = within_given c.args.lexemes.now c.args.input.now c.requires.some (omega (arith, c.if-input-gt-LONGEST_GIVEN.false)) in
    input_weaker (IsBrokenText c.args.input.now) (IsInputRefusedAt c.args.prepared.now c.args.lexemes.now c.args.input.now)
    (λ text place expected. refused_broken c.args.prepared.now c.args.lexemes.now c.args.input.now text place expected within) c.in-Err.refusal c.in-Err.ensures.refused

pub read_supplied-requires-clause-few : goal.read_supplied-requires-clause-few
read_supplied-requires-clause-few g c = few_characters LONGEST_GIVEN c.args.input.now c.in-Ok.chars c.in-Ok.ensures.utf8 c.in-Ok.ensures.ok (omega (arith, c.if-input-gt-LONGEST_GIVEN.false))

pub reading_of-requires : goal.reading_of-requires
reading_of-requires g c =
    let few : length c.in-Ok.chars ≤ LONGEST_GIVEN = few_characters LONGEST_GIVEN c.args.input.now c.in-Ok.chars c.in-Ok.ensures.utf8 c.in-Ok.ensures.ok (omega (arith, c.if-input-gt-LONGEST_GIVEN.false)) in
    record { few = omega (arith, few); reading = c.in-Ok-read_supplied.ensures.read }

pub returns-in-Ok-read_supplied-clause-read : goal.returns-in-Ok-read_supplied-clause-read
returns-in-Ok-read_supplied-clause-read g c =
    let within = within_given c.args.lexemes.now c.args.input.now c.requires.some (omega (arith, c.if-input-gt-LONGEST_GIVEN.false)) in
    subst (IsReadAs c.args.prepared.now c.args.lexemes.now c.args.input.now) (sym c.in_ok-reading_of-in-Ok-read_supplied.ensures)
    (read_as c.args.prepared.now c.args.lexemes.now c.args.input.now c.in-Ok.chars c.in-Ok-read_supplied.tokens.recce c.in-Ok-read_supplied.tokens.spans.items within c.in-Ok.ensures.utf8 c.in-Ok.ensures.ok c.in-Ok-read_supplied.ensures.read)

pub returns-clause-refused : goal.returns-clause-refused
returns-clause-refused g c =
    let within = within_given c.args.lexemes.now c.args.input.now c.requires.some (omega (arith, c.if-input-gt-LONGEST_GIVEN.false)) in
    input_weaker (IsStopText c.args.prepared.now c.args.lexemes.now (chars c.args.input.now)) (IsInputRefusedAt c.args.prepared.now c.args.lexemes.now c.args.input.now)
    (λ text place expected. refused_stop c.args.prepared.now c.args.lexemes.now c.args.input.now text place expected within c.in-Ok.ensures.utf8) c.in-Err-read_supplied.refusal
    (subst (λ (cs : List ℕ). TellsInput (IsStopText c.args.prepared.now c.args.lexemes.now cs) c.in-Err-read_supplied.refusal) c.in-Ok.ensures.ok c.in-Err-read_supplied.ensures.refused)
