-- What an error tells: the text of the program's definition, as a message has it between the program's name and the line's end.
use Rattle.std.specs.Prelude.{◌≡◌, ℕ, List, Option, ⊤, flat_map, chars, string_bytes}
use Rattle.std.specs.Str.Lossy.{utf8_lossy}
use Rattle.run_model.specs.Telling.{in_line}
use Rattle.text_reading.specs.declared.refusal.Place.{Place}
use Rattle.text_reading.specs.declared.refusal.Refusal.{Refusal}
use Rattle.text_reading.specs.declared.refusal.Refusal.TheVariants as refusal
use Rattle.slif_parser.specs.declared.error.ParseError.{ParseError}
use Rattle.slif_parser.specs.declared.error.ParseError.TheVariants.{Grammar, Input, NoMemory}

abbrev pub shown_text : List ℕ → List ℕ
shown_text text = flat_map in_line (chars (utf8_lossy text))

-- a text that has P is shown
abbrev pub ShowsText : (message : List ℕ) → (List ℕ → Type 0) → Type 0
ShowsText message P = (text : List ℕ) × P text × (message ≡ shown_text text)

-- P holds of what is told of a grammar, or there is no memory
abbrev pub TellsGrammar : (List ℕ → Option Place → Type 0) → ParseError → Type 0
TellsGrammar P (Grammar message place) = ShowsText (string_bytes message) (λ text. P text place)
TellsGrammar P (Input message place expected) = ⊥
TellsGrammar P NoMemory = ⊤

-- P holds of what is told of an input, or there is no memory
abbrev pub TellsInput : (List ℕ → Option Place → List ℕ → Type 0) → ParseError → Type 0
TellsInput P (Grammar message place) = ⊥
TellsInput P (Input message place expected) = ShowsText (string_bytes message) (λ text. P text place expected.items)
TellsInput P NoMemory = ⊤

-- the error tells what the refusal does, or there is no memory
abbrev pub Shows : Refusal → ParseError → Type 0
Shows r NoMemory = ⊤
Shows (refusal.Grammar text place) (Grammar message at) = (string_bytes message ≡ shown_text text.items) × (at ≡ place)
Shows (refusal.Input text place expected) (Input message at among) = (string_bytes message ≡ shown_text text.items) × (at ≡ place) × (among.items ≡ expected.items)
Shows r e = ⊥
