use Rattle.std.proofs.Common.{◌≡◌}
use Rattle.grammar_model.specs.Values.{name_of}
use Rattle.dsl_build.specs.declared.built.LexemeRow.{LexemeRow as HeldRow}
use Rattle.reading_model.proofs.First.{NoneTo}
use Rattle.text_reading.proofs.lexemes.row_named.Given as goal

abbrev pub invariant-loop-row : goal.invariant-loop-row
invariant-loop-row l = NoneTo (λ (r : HeldRow). name_of l.w r.symbol ≡ l.name) l.rows l.row-index
