use Rattle.std.proofs.Common.{◌≡◌, ◌+◌, ◌++◌, ◌∙◌, suc, length, length-append, ap, arith, sym}
use Rattle.std.proofs.lemmas.Str.{IsUtf8-past_char, chars_past_char}
use Rattle.std.proofs.lemmas.Bool.{ne_eqb}
use Rattle.std.specs.Str.{chars}
use Rattle.std.specs.Str.Iter.{chars_rest}
use Rattle.outside_model.specs.Places.{line_after, column_after}
use Rattle.slif_base.proofs.Lines.{line_break, line_same, column_break, column_same, line_small, column_small, read_on, read_all}
use Rattle.slif_base.proofs.chars.line_column_behind.Goals as goal

pub overflow_add-line : goal.overflow_add-line
overflow_add-line c =
    let all : length (c.loop-c.yielded ++ chars (chars_rest c.loop-c.c-iterator)) ≡ length (chars c.args.text.now) = ap length c.loop-c.invariant.both in
    let more : length (chars (chars_rest c.loop-c.c-iterator)) ≡ suc (length (chars (chars_rest c.next.new.self))) = ap length (chars_past_char (chars_rest c.loop-c.c-iterator) (chars_rest c.next.new.self) c.in-Some.c c.loop-c.invariant.utf8 c.in-Some.ensures.steps.0) in
    omega (arith, c.loop-c.invariant.line, c.loop-c.invariant.column, length-append c.loop-c.yielded (chars (chars_rest c.loop-c.c-iterator)), line_small c.loop-c.yielded)

pub overflow_add-column : goal.overflow_add-column
overflow_add-column c =
    let all : length (c.loop-c.yielded ++ chars (chars_rest c.loop-c.c-iterator)) ≡ length (chars c.args.text.now) = ap length c.loop-c.invariant.both in
    let more : length (chars (chars_rest c.loop-c.c-iterator)) ≡ suc (length (chars (chars_rest c.next.new.self))) = ap length (chars_past_char (chars_rest c.loop-c.c-iterator) (chars_rest c.next.new.self) c.in-Some.c c.loop-c.invariant.utf8 c.in-Some.ensures.steps.0) in
    omega (arith, c.loop-c.invariant.line, c.loop-c.invariant.column, length-append c.loop-c.yielded (chars (chars_rest c.loop-c.c-iterator)), column_small c.loop-c.yielded)

pub loop-c-preserved-then-c-eq10 : goal.loop-c-preserved-then-c-eq10
loop-c-preserved-then-c-eq10 c =
    let parts = c.in-Some.ensures.steps.0 in
    record {
      utf8 = IsUtf8-past_char _ _ c.in-Some.c c.loop-c.invariant.utf8 parts;
      both = read_on _ _ _ _ _ c.loop-c.invariant.utf8 parts c.loop-c.invariant.both;
      line = ap (λ n. n + 1) c.loop-c.invariant.line ∙ sym (line_break c.loop-c.yielded _ c.if-c-eq10.true);
      column = sym (column_break c.loop-c.yielded _ c.if-c-eq10.true);
    }

pub loop-c-preserved : goal.loop-c-preserved
loop-c-preserved c =
    let parts = c.in-Some.ensures.steps.0 in
    let other = ne_eqb c.in-Some.c 10 c.if-c-eq10.false in
    record {
      utf8 = IsUtf8-past_char _ _ c.in-Some.c c.loop-c.invariant.utf8 parts;
      both = read_on _ _ _ _ _ c.loop-c.invariant.utf8 parts c.loop-c.invariant.both;
      line = c.loop-c.invariant.line ∙ sym (line_same c.loop-c.yielded _ other);
      column = ap (λ n. n + 1) c.loop-c.invariant.column ∙ sym (column_same c.loop-c.yielded _ other);
    }

pub returns-clause-line : goal.returns-clause-line
returns-clause-line c = c.loop-c.invariant.line ∙ ap line_after (read_all _ _ _ c.in-None.ensures.steps.0.0 c.loop-c.invariant.both)

pub returns-clause-column : goal.returns-clause-column
returns-clause-column c = c.loop-c.invariant.column ∙ ap column_after (read_all _ _ _ c.in-None.ensures.steps.0.0 c.loop-c.invariant.both)
