-- What an error tells is what was refused.
use Rattle.std.proofs.Common.{ℕ, List, Option, sym, subst}
use Rattle.text_reading.specs.declared.refusal.Place.{Place}
use Rattle.text_reading.specs.declared.refusal.Refusal.{Refusal}
use Rattle.text_reading.specs.declared.refusal.Refusal.TheVariants as refusal
use Rattle.text_reading.specs.Refusals as refused
use Rattle.slif_parser.specs.declared.error.ParseError.{ParseError}
use Rattle.slif_parser.specs.declared.error.ParseError.TheVariants.{Grammar, Input, NoMemory}
use Rattle.slif_parser.specs.Errors.{Shows, TellsGrammar, TellsInput}

pub grammar_told : (P : List ℕ → Option Place → Type 0) (r : Refusal) (e : ParseError) → Shows r e → refused.TellsGrammar P r → TellsGrammar P e
grammar_told P (refusal.Grammar text place) (Grammar message at) shows tells = (text.items, subst (P text.items) (sym shows.1) tells, shows.0)
grammar_told P (refusal.Grammar text place) (Input message at among) shows tells = absurd shows
grammar_told P (refusal.Grammar text place) NoMemory shows tells = tt
grammar_told P (refusal.Input text place expected) e shows tells = absurd tells
grammar_told P refusal.NoMemory (Grammar message at) shows tells = absurd shows
grammar_told P refusal.NoMemory (Input message at among) shows tells = absurd shows
grammar_told P refusal.NoMemory NoMemory shows tells = tt

pub input_told : (P : List ℕ → Option Place → List ℕ → Type 0) (r : Refusal) (e : ParseError) → Shows r e → refused.TellsInput P r → TellsInput P e
input_told P (refusal.Grammar text place) e shows tells = absurd tells
input_told P (refusal.Input text place expected) (Grammar message at) shows tells = absurd shows
input_told P (refusal.Input text place expected) (Input message at among) shows tells =
    (text.items, subst (P text.items at) (sym shows.2) (subst (λ p. P text.items p expected.items) (sym shows.1) tells), shows.0)
input_told P (refusal.Input text place expected) NoMemory shows tells = tt
input_told P refusal.NoMemory (Grammar message at) shows tells = absurd shows
input_told P refusal.NoMemory (Input message at among) shows tells = absurd shows
input_told P refusal.NoMemory NoMemory shows tells = tt
