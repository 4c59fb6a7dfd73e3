use Rattle.std.proofs.Common.{Err, ap, subst, sym}
use Rattle.grammar_model.specs.Grammar.{Grammar}
use Rattle.bocage.specs.Given.{AreGivenFor}
use Rattle.run_model.specs.Telling.{no_derivation_text}
use Rattle.std.proofs.Common.{◌≡◌, None}
use Rattle.text_reading.specs.Refusals.{IsNoDerivation}
use Rattle.text_reading.specs.Parts.{AreExpectedOf}
use Rattle.text_reading.proofs.Derived.{has_forest, no_derivation, builds_within}
use Rattle.text_reading.proofs.InputLemmas.{input_weaker}
use Rattle.text_reading.proofs.forests.forest_after.Goals as goal

pub build_after-requires-clause-given : goal.build_after-requires-clause-given
build_after-requires-clause-given g c =
    subst (λ (w : Grammar). AreGivenFor w c.args.ranking c.args.reading.now.recce c.args.before.now) (sym c.written.ensures) c.requires.before

pub returns-in-Ok-clause-forest : goal.returns-in-Ok-clause-forest
returns-in-Ok-clause-forest g c given read =
    let r = c.in-Ok.ensures.reading in
    has_forest c.args.prepared.now given c.args.ranking c.args.chars.now c.args.reading.now.recce c.args.reading.now.spans.items c.requires.few read
    c.in-Ok.forest c.in-Ok.ensures.forest c.written.result.now c.written.ensures r.0 r.1 r.2 r.3 r.4 r.5

pub returns-in_ok-no_derivation-in-Err-NoParse-clause-refused : goal.returns-in_ok-no_derivation-in-Err-NoParse-clause-refused
returns-in_ok-no_derivation-in-Err-NoParse-clause-refused g c given read =
    input_weaker
    (λ text place expected. AreExpectedOf c.args.prepared.now c.args.reading.now.recce expected × (text ≡ no_derivation_text c.args.prepared.now.g1 expected) × (place ≡ None))
    (IsNoDerivation c.args.prepared.now given c.args.ranking c.args.chars.now)
    (λ text place expected told. no_derivation c.args.prepared.now given c.args.ranking c.args.chars.now c.args.reading.now.recce c.args.reading.now.spans.items c.requires.few read
    c.trees_are_derivations.ensures c.flat-flat.ensures.checked c.place-place.ensures.is (c.in-Err-NoParse.ensures.no_parse.0 (ap Err c.in-Err-NoParse.field-0-is)) text place expected told.0 told.1 told.2)
    c.in_ok-no_derivation-in-Err-NoParse.field-0 c.in_ok-no_derivation-in-Err-NoParse.ensures

pub returns-in-Ok-clause-counted : goal.returns-in-Ok-clause-counted
returns-in-Ok-clause-counted g c start told = builds_within c.args.reading.now.recce c.args.ranking c.written.result.now c.args.prepared.now.g1 _ _ c.written.ensures (record { expanded = λ n. c.build_after.ensures.counted start n told; needed = λ n. c.build_after.ensures.needed start n told })

pub returns-in_ok-no_derivation-in-Err-NoParse-clause-counted : goal.returns-in_ok-no_derivation-in-Err-NoParse-clause-counted
returns-in_ok-no_derivation-in-Err-NoParse-clause-counted g c start told = builds_within c.args.reading.now.recce c.args.ranking c.written.result.now c.args.prepared.now.g1 _ _ c.written.ensures (record { expanded = λ n. c.build_after.ensures.counted start n told; needed = λ n. c.build_after.ensures.needed start n told })

pub returns-in_err-no_derivation-in-Err-NoParse-clause-counted : goal.returns-in_err-no_derivation-in-Err-NoParse-clause-counted
returns-in_err-no_derivation-in-Err-NoParse-clause-counted g c start told = builds_within c.args.reading.now.recce c.args.ranking c.written.result.now c.args.prepared.now.g1 _ _ c.written.ensures (record { expanded = λ n. c.build_after.ensures.counted start n told; needed = λ n. c.build_after.ensures.needed start n told })

pub returns-in-Err-NoMemory-clause-counted : goal.returns-in-Err-NoMemory-clause-counted
returns-in-Err-NoMemory-clause-counted g c start told = builds_within c.args.reading.now.recce c.args.ranking c.written.result.now c.args.prepared.now.g1 _ _ c.written.ensures (record { expanded = λ n. c.build_after.ensures.counted start n told; needed = λ n. c.build_after.ensures.needed start n told })
