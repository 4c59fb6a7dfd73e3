-- What is told of a refusal.
use Rattle.std.proofs.Common.{ℕ, List, [], Option, Result, Ok, Err, subst}
use Rattle.std.specs.Prelude.{IfErr, chars}
use Rattle.grammar_model.specs.declared.Ranking.{Ranking}
use Rattle.language_model.specs.Building.{Built}
use Rattle.text_reading.specs.declared.refusal.Place.{Place}
use Rattle.text_reading.specs.Refusals.{IsNoDerivation}
use Rattle.slif_parser.specs.declared.error.ParseError.{ParseError}
use Rattle.slif_parser.specs.declared.error.ParseError.TheVariants.{Grammar, Input, NoMemory}
use Rattle.slif_parser.specs.Errors.{TellsInput}
use Rattle.slif_parser.specs.Views.{Read}
use Rattle.slif_parser.specs.Readings.{IsReadAs}
use Rattle.slif_c.specs.Exports.{IsUnparsed, NotDerived}

abbrev Told : Type 1
Told = List ℕ → Option Place → List ℕ → Type 0

pub told_as : (P Q : Told) → ((text : List ℕ) (place : Option Place) (expected : List ℕ) → P text place expected → Q text place expected) → (e : ParseError) → TellsInput P e → TellsInput Q e
told_as P Q weaker (Grammar message place) told = told
told_as P Q weaker (Input message place expected) (text, holds, shows) = (text, weaker text place expected.items holds, shows)
told_as P Q weaker NoMemory told = told

pub told_of : {T : Type 0} (r : Result T ParseError) (P Q : Told) → ((text : List ℕ) (place : Option Place) (expected : List ℕ) → P text place expected → Q text place expected) → IfErr r (TellsInput P) → IfErr r (TellsInput Q)
told_of (Ok x) P Q weaker told = told
told_of (Err e) P Q weaker told = told_as P Q weaker e told

pub not_derived : (b : Built) (ranking : Ranking) (bytes : List ℕ) (r : Read) → IsReadAs b [] bytes r → (text : List ℕ) (place : Option Place) (expected : List ℕ) → IsNoDerivation r.grammar r.lexemes ranking r.characters text place expected →
    IsUnparsed b ranking bytes text place expected
not_derived b ranking bytes r as_read text place expected none =
    NotDerived (subst (λ g. IsNoDerivation g [] ranking (chars bytes) text place expected) as_read.grammar_is (subst (λ cs. IsNoDerivation r.grammar [] ranking cs text place expected) as_read.characters_are
    (subst (λ given. IsNoDerivation r.grammar given ranking r.characters text place expected) as_read.lexemes_are none)))
