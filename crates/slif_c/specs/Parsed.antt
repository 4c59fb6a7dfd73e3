-- What becomes of an input: some of its derivations are kept, with or without their lines, or what could come after it is told.
use Rattle.std.specs.Prelude.{◌≡◌, ℕ, List, [], Option, IfSome, map, take, drop, chars}
use Rattle.grammar_model.specs.declared.Ranking.{Ranking}
use Rattle.grammar_model.specs.declared.Show.{Show}
use Rattle.language_model.specs.Building.{Built}
use Rattle.run_model.specs.Listing.{line_of}
use Rattle.slif_parser.specs.Views.{Read}
use Rattle.slif_parser.specs.Readings.{IsReadAs, AreExpectedNext}
use Rattle.c_handles.specs.Kept.{AreSome}
use Rattle.c_handles.specs.declared.parse.Parse.{Parse}

-- the input is read in these pieces, those of its derivations are kept, and where lines are shown, those that the run tells of them
pub record IsParsed (b : Built) (bytes : List ℕ) (ranking : Ranking) (shown : Option Show) (skip most : ℕ) (p : Parse) : Type 0 where
  pub read : Read
  pub is : IsReadAs b [] bytes read
  pub some : AreSome read ranking shown skip most p
  pub lines : IfSome shown (λ show. map (λ line. line.items) p.lines.items ≡ map (line_of b show (chars bytes) is.pieces) (take most (drop skip some.trees)))

-- the input is read, and these are the lexemes that could come after it
abbrev pub AreExpectedAfter : Built → (bytes symbols : List ℕ) → Type 0
AreExpectedAfter b bytes symbols = (r : Read) × IsReadAs b [] bytes r × AreExpectedNext r symbols
