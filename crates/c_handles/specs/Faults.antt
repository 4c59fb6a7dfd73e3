-- What a caller is told of an error: a code, the place from 1 or zeros, the front of the message and its length, the first of the lexemes
-- that could come next and how many they are. Want of memory has a code alone.
use Rattle.std.specs.Prelude.{ℕ, List, Option, Some, None, length, string_bytes}
use Rattle.text_reading.specs.declared.refusal.Place.{Place}
use Rattle.slif_parser.specs.declared.error.ParseError.{ParseError}
use Rattle.slif_parser.specs.declared.error.ParseError.TheVariants.{Grammar, Input, NoMemory}
use Rattle.c_handles.specs.Copying.{overlaid}
use Rattle.c_handles.specs.declared.fault.Fault.{Fault}

abbrev pub code_of : ParseError → ℕ
code_of (Grammar message place) = 3
code_of (Input message place expected) = 1
code_of NoMemory = 5

abbrev pub line_at : Option Place → ℕ
line_at (Some place) = place.line
line_at None = 0

abbrev pub column_at : Option Place → ℕ
column_at (Some place) = place.column
column_at None = 0

abbrev pub fault_of : ParseError → (before : Fault) → Fault
fault_of (Grammar message place) before =
    record { line = line_at place; column = column_at place; message = length (string_bytes message); expected = 0 }
fault_of (Input message place expected) before =
    record { line = line_at place; column = column_at place; message = length (string_bytes message); expected = length expected.items }
fault_of NoMemory before = before

abbrev pub message_of : ParseError → (before : List ℕ) → List ℕ
message_of (Grammar message place) before = overlaid (string_bytes message) before
message_of (Input message place expected) before = overlaid (string_bytes message) before
message_of NoMemory before = before

abbrev pub expected_of : ParseError → (before : List ℕ) → List ℕ
expected_of (Input message place expected) before = overlaid expected.items before
expected_of (Grammar message place) before = before
expected_of NoMemory before = before
