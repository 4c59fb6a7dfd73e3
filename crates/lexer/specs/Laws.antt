-- What matches of the flat form tell of the lexical grammar itself.
use Rattle.std.specs.Prelude.{ℕ, ◌<◌, ◌↔◌, List, length}
use Rattle.grammar_model.specs.Checked.{IsChecked}
use Rattle.recognizer_model.specs.Flat.{FlatGrammar}
use Rattle.recognizer_model.specs.FlatForm.{IsFlatOf}
use Rattle.recognizer_model.specs.Invariant.{IsFlat}
use Rattle.language_model.specs.Building.{Built}
use Rattle.reading_model.specs.Matches.{Matches}
use Rattle.lexer.specs.Lexical.{HasMatch}

-- they are the matches of the lexical grammar
abbrev pub MatchesAreTheGrammars : Type 0
MatchesAreTheGrammars = (b : Built) (flat : FlatGrammar) (text : List ℕ) (start from to : ℕ) → IsChecked b.l0 → IsFlat flat → IsFlatOf flat b.l0 → start < length b.l0.starts →
    HasMatch (record { flat = flat; sets = b.sets }) text start from to ↔ Matches b text start from to
