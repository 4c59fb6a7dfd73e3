-- What an error shows.
use Rattle.std.specs.Prelude.{ℕ, List, codes, string_bytes}
use Rattle.slif_parser.specs.declared.error.ParseError.{ParseError}
use Rattle.slif_parser.specs.declared.error.ParseError.TheVariants.{Grammar, Input, NoMemory}

abbrev pub shown : ParseError → List ℕ
shown (Grammar message place) = string_bytes message
shown (Input message place expected) = string_bytes message
shown NoMemory = codes "out of memory"
