use Rattle.std.proofs.Common.{List, [], ℕ, chars, arith, refl, sym, subst}
use Rattle.text_reading.specs.Refusals.{TellsInput, IsInputRefusedAt}
use Rattle.text_reading.specs.Parts.{IsBrokenText, IsStopText}
use Rattle.text_reading.proofs.InputLemmas.{input_weaker, refused_broken, refused_stop}
use Rattle.grammar_model.specs.declared.limits.TheConstants.{LONGEST_INPUT}
use Rattle.scanless.specs.Reading.{IsReadingOfWith}
use Rattle.scanless.specs.declared.reading.Ending.TheVariants.{End}
use Rattle.slif_parser.specs.Readings.{IsReadAs}
use Rattle.slif_parser.proofs.Characters.{few_characters, read_as}
use Rattle.slif_parser.proofs.reading.read_bytes.Goals as goal

pub returns-then-input-gt-LONGEST_INPUT-clause-refused : goal.returns-then-input-gt-LONGEST_INPUT-clause-refused
returns-then-input-gt-LONGEST_INPUT-clause-refused g c = c.input_too_long.ensures [] c.args.input.now c.args.prepared.now refl (omega (arith, c.if-input-gt-LONGEST_INPUT.true))

pub returns-in-Err-clause-refused : goal.returns-in-Err-clause-refused
returns-in-Err-clause-refused g c =
    input_weaker (IsBrokenText c.args.input.now) (IsInputRefusedAt c.args.prepared.now [] c.args.input.now)
    (λ text place expected. refused_broken c.args.prepared.now [] c.args.input.now text place expected (omega (arith, c.if-input-gt-LONGEST_INPUT.false))) c.in-Err.refusal c.in-Err.ensures.refused

pub read_text-requires : goal.read_text-requires
read_text-requires g c = few_characters LONGEST_INPUT c.args.input.now c.in-Ok.chars c.in-Ok.ensures.utf8 c.in-Ok.ensures.ok (omega (arith, c.if-input-gt-LONGEST_INPUT.false))

pub invariant_of-result : goal.invariant_of-result
invariant_of-result g c = record {
  few = few_characters LONGEST_INPUT c.args.input.now c.in-Ok.chars c.in-Ok.ensures.utf8 c.in-Ok.ensures.ok (omega (arith, c.if-input-gt-LONGEST_INPUT.false));
  reading = subst (λ (l : List ℕ). IsReadingOfWith c.args.prepared.now l c.in-Ok.chars c.in-Ok-read_text.tokens.recce c.in-Ok-read_text.tokens.spans.items End) (sym c.new.ensures.items) c.in-Ok-read_text.ensures.read;
}

pub returns-in-Ok-read_text-clause-read : goal.returns-in-Ok-read_text-clause-read
returns-in-Ok-read_text-clause-read g c =
    subst (λ (l : List ℕ). IsReadAs c.args.prepared.now [] c.args.input.now (record { grammar = c.args.prepared.now; lexemes = l; characters = c.in-Ok.chars; spans = c.in-Ok-read_text.tokens.spans.items })) (sym c.new.ensures.items)
    (read_as c.args.prepared.now [] c.args.input.now c.in-Ok.chars c.in-Ok-read_text.tokens.recce c.in-Ok-read_text.tokens.spans.items (omega (arith, c.if-input-gt-LONGEST_INPUT.false)) c.in-Ok.ensures.utf8 c.in-Ok.ensures.ok c.in-Ok-read_text.ensures.read)

pub returns-clause-refused : goal.returns-clause-refused
returns-clause-refused g c =
    input_weaker (IsStopText c.args.prepared.now [] (chars c.args.input.now)) (IsInputRefusedAt c.args.prepared.now [] c.args.input.now)
    (λ text place expected. refused_stop c.args.prepared.now [] c.args.input.now text place expected (omega (arith, c.if-input-gt-LONGEST_INPUT.false)) c.in-Ok.ensures.utf8) c.in-Err-read_text.refusal
    (subst (λ (cs : List ℕ). TellsInput (IsStopText c.args.prepared.now [] cs) c.in-Err-read_text.refusal) c.in-Ok.ensures.ok c.in-Err-read_text.ensures.refused)
