use Rattle.std.proofs.Common.{◌≡◌, ◌∙◌, None, map, subst, sym}
use Rattle.std.specs.Prelude.{IfSome}
use Rattle.std.proofs.lemmas.Bool.{false≢true}
use Rattle.grammar_core.specs.Steps.{step_of}
use Rattle.grammar_model.specs.Grammar.{Grammar}
use Rattle.bocage.specs.Given.{AreGivenFor}
use Rattle.first_walk.specs.declared.walk.Walked.{Walked}
use Rattle.first_walk.specs.Place.{reading_of}
use Rattle.first_walk.specs.Walk.{IsFirstDerivation}
use Rattle.run_model.specs.Telling.{no_derivation_text}
use Rattle.text_reading.specs.Refusals.{IsNoDerivation}
use Rattle.text_reading.specs.Parts.{AreExpectedOf}
use Rattle.text_reading.proofs.Derived.{first_found, no_derivation, given_within}
use Rattle.text_reading.proofs.InputLemmas.{input_weaker}
use Rattle.text_reading.proofs.forests.first_of.Goals as goal

pub returns-then-not-at_end-clause-refused : goal.returns-then-not-at_end-clause-refused
returns-then-not-at_end-clause-refused g c given read =
    input_weaker
    (λ text place expected. AreExpectedOf c.args.prepared.now c.args.reading.now.recce expected × (text ≡ no_derivation_text c.args.prepared.now.g1 expected) × (place ≡ None))
    (IsNoDerivation c.args.prepared.now given c.args.ranking c.args.chars.now)
    (λ text place expected told. no_derivation c.args.prepared.now given c.args.ranking c.args.chars.now c.args.reading.now.recce c.args.reading.now.spans.items c.requires.few read
    c.trees_are_derivations.ensures c.flat-flat.ensures.checked c.place-place.ensures.is (λ tree. false≢true (sym c.if-not-at_end.true ∙ c.at_end.ensures.1 tree)) text place expected told.0 told.1 told.2)
    c.in_ok-no_derivation.field-0 c.in_ok-no_derivation.ensures

pub returns-clause-first : goal.returns-clause-first
returns-clause-first g c =
    first_found c.args.prepared.now c.args.ranking c.args.chars.now c.args.reading.now.recce c.args.reading.now.spans.items c.requires.few c.written.result.now c.written.ensures c.in_ok-found.found c.in_ok-found.ensures.first

pub returns-in_err-found-clause-counted : goal.returns-in_err-found-clause-counted
returns-in_err-found-clause-counted g c = given_within c.args.reading.now.recce c.args.ranking c.written.result.now c.args.prepared.now.g1 _ _ c.written.ensures c.first_derivation.ensures.counted

pub returns-clause-counted : goal.returns-clause-counted
returns-clause-counted g c = given_within c.args.reading.now.recce c.args.ranking c.written.result.now c.args.prepared.now.g1 _ _ c.written.ensures c.first_derivation.ensures.counted

pub returns-clause-before : goal.returns-clause-before
returns-clause-before g c = subst (λ (w : Grammar). AreGivenFor w c.args.ranking c.args.reading.now.recce c.first_derivation.new.given) c.written.ensures c.in_ok-found.ensures.given
