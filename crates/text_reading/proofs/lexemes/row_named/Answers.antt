use Rattle.std.proofs.Common.{◌≡◌, ◌∙◌, refl, sym, true≢false}
use Rattle.std.proofs.lemmas.Slice.Eq.{bytes_eq-Decides}
use Rattle.grammar_model.specs.Values.{name_of}
use Rattle.dsl_build.specs.declared.built.LexemeRow.{LexemeRow as HeldRow}
use Rattle.reading_model.proofs.First.{none_more, none_all}
use Rattle.text_reading.proofs.InputLemmas.{name_is}
use Rattle.text_reading.proofs.lexemes.row_named.Goals as goal

pub returns-then-eq-clause-some : goal.returns-then-eq-clause-some
returns-then-eq-clause-some c = (
  (c.row-item.result, (c.loop-row.row-index, c.loop-row-test.true, sym c.row-item.is), refl),
  name_is c.args.w.now c.row-item.result.symbol c.name.result.now c.name.ensures ∙ (bytes_eq-Decides c.name.result.now c.args.name.now).0 (sym c.eq.ensures ∙ c.if-eq.true),
)

pub loop-row-preserved : goal.loop-row-preserved
loop-row-preserved c =
    none_more (λ (r : HeldRow). name_of c.args.w.now r.symbol ≡ c.args.name.now) c.args.rows.now c.loop-row.row-index c.row-item.result c.loop-row-test.true c.row-item.is
    (λ same. true≢false (sym ((bytes_eq-Decides c.name.result.now c.args.name.now).1 (sym (name_is c.args.w.now c.row-item.result.symbol c.name.result.now c.name.ensures) ∙ same)) ∙ sym c.eq.ensures ∙ c.if-eq.false))
    c.loop-row.invariant

pub returns-clause-none : goal.returns-clause-none
returns-clause-none c = λ no. none_all (λ (r : HeldRow). name_of c.args.w.now r.symbol ≡ c.args.name.now) c.args.rows.now c.loop-row.row-index c.loop-row-test.false c.loop-row.invariant
