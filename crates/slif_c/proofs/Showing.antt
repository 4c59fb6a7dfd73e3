-- Lines by what is read are those of the run.
use Rattle.std.proofs.Common.{◌≡◌, ℕ, Option, Some, None, Result, Ok, Err, List, [], ◌∷◌, ◌++◌, map, take, drop, ap, ◌∙◌}
use Rattle.std.specs.Prelude.{IfOk, IfSome, chars}
use Rattle.grammar_model.specs.Trees.{Tree}
use Rattle.grammar_model.specs.declared.Ranking.{Ranking}
use Rattle.grammar_model.specs.declared.Show.{Show}
use Rattle.grammar_model.specs.Text.{text_of}
use Rattle.grammar_model.specs.Values.{Token, value_of}
use Rattle.language_model.specs.Building.{Built}
use Rattle.run_model.specs.Listing.{line_of, tokens_in}
use Rattle.valuator.specs.Play.{tokens_of}
use Rattle.value_lines.proofs.Playing.{tokens_fit}
use Rattle.slif_parser.specs.Views.{Read}
use Rattle.slif_parser.specs.Readings.{IsReadAs}
use Rattle.c_handles.specs.Kept.{AreSome, lines_of}
use Rattle.c_handles.specs.declared.parse.Parse.{Parse}
use Rattle.slif_c.specs.Parsed.{IsParsed}

module _ (b : Built) (bytes : List ℕ) (r : Read) (is : IsReadAs b [] bytes r) where
  abbrev lines_by : Show → Built → List Token → List Tree → List (List ℕ)
  lines_by show h tokens trees = map (λ t. text_of (value_of show h.g1 h.meaning tokens t) ++ 10 ∷ []) trees

  tokens_are : tokens_of r.characters r.spans ≡ tokens_in (chars bytes) is.pieces
  tokens_are = ap (λ cs. tokens_of cs r.spans) is.characters_are ∙ tokens_fit (chars bytes) r.spans is.pieces is.spans_are

  lines_are : (shown : Option Show) (trees : List Tree) (lines : List (List ℕ)) → lines ≡ lines_of r shown trees → IfSome shown (λ show. lines ≡ map (line_of b show (chars bytes) is.pieces) trees)
  lines_are None trees lines are = tt
  lines_are (Some show) trees lines are = are ∙ (λ i. lines_by show (is.grammar_is i) (tokens_are i) trees)

  pub parsed : {E : Type 0} (ranking : Ranking) (shown : Option Show) (skip most : ℕ) (result : Result Parse E) → IfOk result (AreSome r ranking shown skip most) → IfOk result (IsParsed b bytes ranking shown skip most)
  parsed ranking shown skip most (Ok p) some = record {
    read = r;
    is = is;
    some = some;
    lines = lines_are shown (take most (drop skip some.trees)) (map (λ line. line.items) p.lines.items) some.lines;
  }
  parsed ranking shown skip most (Err e) some = some
