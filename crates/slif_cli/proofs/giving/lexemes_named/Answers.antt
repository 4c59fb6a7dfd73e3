use Rattle.std.proofs.Common.{◌≡◌, ℕ, List, refl, sym, subst, eqb, arith}
use Rattle.std.specs.List.{slice_split}
use Rattle.std.proofs.lemmas.Iterator.Splits.{YieldsList-from_str_split}
use Rattle.words_model.specs.Words.{names_between}
use Rattle.slif_cli.specs.Giving.{IsUnnamed}
use Rattle.tellings.specs.Stops.{OfGrammar}
use Rattle.slif_cli.proofs.Named.{AreSoFar, Yields, turned, ended, none_so_far, one_more, all_so_far, first_unnamed}
use Rattle.tellings.proofs.Stopping.{stops_as, of_grammar}
use Rattle.slif_cli.proofs.giving.lexemes_named.Goals as goal

pub loop-name-init : goal.loop-name-init
loop-name-init c = (
  slice_split (λ b. eqb b 44) c.args.names.now,
  subst (λ s. Yields s (slice_split (λ b. eqb b 44) c.args.names.now)) (sym c.into_iter-name-iterator.ensures.into_iter_gives)
      (YieldsList-from_str_split 44 c.args.names.now (omega arith) c.split-name-items.ensures.text c.split-name-items.ensures.has_more c.split-name-items.ensures.pattern).runs,
  subst (λ (xs : List ℕ). AreSoFar c.args.prepared.now c.args.names.now xs (slice_split (λ b. eqb b 44) c.args.names.now)) (sym c.new-lexemes.ensures.items)
      (none_so_far c.args.prepared.now c.args.names.now),
)

pub returns-in_default-clause-stops : goal.returns-in_default-clause-stops
returns-in_default-clause-stops c =
    let b = c.args.prepared.now in
    let i = c.loop-name.invariant in
    let t = turned c.loop-name.name-iterator c.next.new.self c.next.result c.in-Some.name i.0 i.1 c.next.ensures.steps c.in-Some.is in
    stops_as
    (of_grammar _ (OfGrammar (IsUnnamed b (names_between c.args.names.now)))
    (λ text told. record {
      name = c.in-Some.name.now;
      first = first_unnamed b c.args.names.now c.loop-name.lexemes.items i.0 t.rest c.in-Some.name.now i.2 t.is (c.in_default.ensures.none refl);
      told = told;
    }))
    (λ asked x. x) (λ x. x) (λ x. x) (λ x. x) c.unnamed.result c.unnamed.ensures

pub loop-name-preserved : goal.loop-name-preserved
loop-name-preserved c =
    let b = c.args.prepared.now in
    let i = c.loop-name.invariant in
    let t = turned c.loop-name.name-iterator c.next.new.self c.next.result c.in-Some.name i.0 i.1 c.next.ensures.steps c.in-Some.is in (
      t.rest,
      t.yields,
      subst (λ (xs : List ℕ). AreSoFar b c.args.names.now xs t.rest) (sym c.in_ok-add.ensures)
          (one_more b c.args.names.now c.loop-name.lexemes.items i.0 t.rest c.in-Some.name.now c.in-Some-lexeme_named.symbol i.2 t.is
          c.in-Some-lexeme_named.ensures.some.0 c.in-Some-lexeme_named.ensures.some.1),
    )

pub returns-clause-given : goal.returns-clause-given
returns-clause-given c =
    let i = c.loop-name.invariant in
    let none = ended c.loop-name.name-iterator c.next.new.self c.next.result i.0 i.1 c.next.ensures.steps c.in-None.is in
    all_so_far c.args.prepared.now c.args.names.now c.loop-name.lexemes.items i.0 i.2 none
