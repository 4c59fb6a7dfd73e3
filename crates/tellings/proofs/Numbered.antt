-- The numbers of a reading, and what the forest of the reading has of them.
use Rattle.std.proofs.Common.{◌≡◌, ℕ, List, Some, map, length, refl, subst, slice_get}
use Rattle.std.proofs.lemmas.List.{length-map}
use Rattle.std.proofs.lemmas.Option.{slice_get-get_or}
use Rattle.grammar_model.specs.Grammar.{Grammar}
use Rattle.grammar_model.specs.Derives.{Held}
use Rattle.grammar_model.specs.declared.Edge.{Edge}
use Rattle.grammar_model.specs.declared.Ranking.{Ranking}
use Rattle.grammar_core.specs.declared.steps.Span.{Span}
use Rattle.recognizer_model.specs.Flat.{FlatGrammar}
use Rattle.recognizer_model.specs.FlatForm.{FlatEdges}
use Rattle.recognizer_model.specs.Counts.{IsCountOf}
use Rattle.recognizer_model.specs.Chosen.{allowed_by}
use Rattle.recognizer_model.specs.Nodes.{IsUsed, IsStats}
use Rattle.recognizer_model.proofs.Counting.{one_count}
use Rattle.language_model.specs.Building.{Built}
use Rattle.language_model.specs.Texts.{IsBuilt}
use Rattle.reading_model.specs.Accepted.{IsAccepted}
use Rattle.reading_model.specs.Reading.{Piece, edges_of, earleme_after}
use Rattle.forest_model.specs.Forest as forest
use Rattle.forest_model.specs.Forest.{Forest, IsForest, top_of}
use Rattle.bocage.specs.declared.forest.Stats.{Stats}
use Rattle.run_model.specs.Numbers.{Numbers, HasNumbers}
use Rattle.number_laws.proofs.Exist.{numbers_exist}
use Rattle.number_laws.proofs.One.{numbers_are_one}
use Rattle.renaming_laws.proofs.Alike.{numbers_of_any_form}
use Rattle.value_lines.specs.Counts.{numbers_of}
use Rattle.value_lines.specs.Lines.{IsForestOf}
use Rattle.value_lines.proofs.Counting.{has_numbers}
use Rattle.tellings.specs.Telling.{HasForest, AreNumbersOf}

module _ (b : Built) (ranking : Ranking) (pieces : List Piece) where
  abbrev HasNodes : (g : FlatGrammar) (top count : ℕ) → Type 0
  HasNodes g top count =
      IsCountOf (IsUsed g (FlatEdges g (Held (edges_of pieces))) (allowed_by b.g1 ranking g (FlatEdges g (Held (edges_of pieces)))) top (earleme_after pieces)) count

  module _ (cs : List ℕ) (spans : List Span) (f : Forest) (of : IsForestOf b cs spans f pieces) (ranked : f.ranking ≡ ranking) (is : IsForest f) where
    top_told : slice_get f.flat.tops 0 ≡ Some (top_of f)
    top_told = subst (λ n. slice_get f.flat.tops n ≡ Some (top_of f)) of.start (slice_get-get_or f.flat.tops f.start 0 is.derived.start)

    own : HasNodes f.flat (top_of f) (length f.nodes)
    own =
        let told = λ (g : Grammar) (r : Ranking) (es : List Edge) (n : ℕ).
        IsCountOf (IsUsed f.flat (FlatEdges f.flat (Held es)) (allowed_by g r f.flat (FlatEdges f.flat (Held es))) (top_of f) n) (length f.nodes) in
        subst (λ (g : Grammar). told g ranking (edges_of pieces) (earleme_after pieces)) of.written
        (subst (λ (r : Ranking). told f.written r (edges_of pieces) (earleme_after pieces)) ranked
        (subst (λ (es : List Edge). told f.written f.ranking es (earleme_after pieces)) of.edges
        (subst (told f.written f.ranking f.edges) of.place (map (λ n. n.key) f.nodes, is.used, length-map f.nodes (λ n. n.key)))))

    pub nodes_counted : (n : Numbers) → HasNumbers b ranking pieces n → n.nodes ≡ length f.nodes
    nodes_counted n numbers =
        let here = numbers_of_any_form b.g1 (edges_of pieces) ranking 0 (earleme_after pieces) n.tokens n.kept n.nodes n.expanded numbers.flat f.flat numbers.top (top_of f)
        (record { flat = numbers.is; of = numbers.of; top_is = numbers.top_is; other_flat = is.derived.flat; other_of = of.flat.made; other_is = top_told }) numbers.numbers in
        one_count (IsUsed f.flat (FlatEdges f.flat (Held (edges_of pieces))) (allowed_by b.g1 ranking f.flat (FlatEdges f.flat (Held (edges_of pieces)))) (top_of f) (earleme_after pieces))
        n.nodes (length f.nodes) here.used_nodes own

-- the numbers that a forest tells are those of its reading
pub same_numbers : (f : Forest) → IsForest f → (s : Stats) → IsStats f.flat (forest.edges_of f) (forest.allowed_of f) (top_of f) f.place s.tokens s.kept s.nodes s.expanded
    → (n : Numbers) → AreNumbersOf f n → numbers_of s ≡ n
same_numbers f is s stats n are =
    numbers_are_one are.built f.ranking are.pieces (numbers_of s) n (has_numbers are.built are.chars are.spans f are.pieces are.of f.ranking refl is s stats) are.numbers

-- and there are such numbers
pub some_numbers : (b : Built) (given : List ℕ) (ranking : Ranking) (cs : List ℕ) (spans : List Span) (f : Forest) (has : HasForest b given ranking cs spans f) → IsBuilt b → IsAccepted b
    → (n : Numbers) × (AreNumbersOf f n × HasNumbers b ranking has.pieces n)
some_numbers b given ranking cs spans f has built accepted =
    let (n, numbers) = numbers_exist b f.ranking has.pieces built accepted in
    (n, (record { built = b; chars = cs; spans = spans; pieces = has.pieces; of = has.of; numbers = numbers }, subst (λ (r : Ranking). HasNumbers b r has.pieces n) has.ranking_is numbers))
