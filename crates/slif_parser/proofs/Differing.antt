-- The glades of a forest are those of what is read.
use Rattle.std.proofs.Common.{ℕ, List, subst}
use Rattle.std.specs.Prelude.{slice_index_or}
use Rattle.grammar_model.specs.Grammar.{Grammar}
use Rattle.grammar_model.specs.declared.Edge.{Edge}
use Rattle.grammar_model.specs.declared.Ranking.{Ranking}
use Rattle.grammar_core.specs.declared.steps.Span.{Span}
use Rattle.language_model.specs.Building.{Built}
use Rattle.reading_model.specs.Reading.{edges_of, earleme_after}
use Rattle.forest_model.specs.Forest.{Forest}
use Rattle.glade_model.specs.Glades.{Glade, AreGlades}
use Rattle.glade_laws.specs.Groups.{start_of}
use Rattle.text_reading.specs.Parts.{HasForest}
use Rattle.slif_parser.specs.Readings.{AreGladesOf}

pub glades_read : (b : Built) (ranking : Ranking) (lexemes cs : List ℕ) (spans : List Span) (f : Forest) (has : HasForest b lexemes ranking cs spans f) (glades : List Glade) → AreGlades f.written f.edges (start_of f) f.place glades →
    AreGladesOf (record { grammar = b; lexemes = lexemes; characters = cs; spans = spans }) glades
glades_read b ranking lexemes cs spans f has glades are = record {
  pieces = has.pieces;
  reading = has.reading;
  are = subst (λ (g : Grammar). AreGlades g (edges_of has.pieces) (slice_index_or g.starts 0 0) (earleme_after has.pieces) glades) has.of.written
      (subst (λ n. AreGlades f.written (edges_of has.pieces) (slice_index_or f.written.starts n 0) (earleme_after has.pieces) glades) has.of.start
      (subst (λ (es : List Edge). AreGlades f.written es (start_of f) (earleme_after has.pieces) glades) has.of.edges
      (subst (λ n. AreGlades f.written f.edges (start_of f) n glades) has.of.place are)));
}
