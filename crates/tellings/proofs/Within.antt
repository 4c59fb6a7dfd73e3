-- How many steps a reading and what is told of it take.
use Rattle.std.proofs.Common.{◌≡◌, ℕ, ◌+◌, ◌≤◌, List, [], ◌∷◌, Some, map, refl, sym, ap, subst, ◌∙◌, arith, slice_get}
use Rattle.std.specs.List.{sum_by}
use Rattle.std.proofs.lemmas.Option.{slice_get-get_or}
use Rattle.grammar_model.specs.Trees.{Tree}
use Rattle.grammar_model.specs.Derives.{Held}
use Rattle.grammar_model.specs.declared.Edge.{Edge}
use Rattle.grammar_model.specs.declared.Ranking.{Ranking}
use Rattle.grammar_core.specs.declared.steps.Span.{Span}
use Rattle.recognizer_model.specs.FlatForm.{FlatEdges}
use Rattle.recognizer_model.specs.Counts.{IsCountOf}
use Rattle.recognizer_model.specs.Links.{choices}
use Rattle.recognizer_model.specs.Chosen.{allowed_by}
use Rattle.recognizer_model.specs.Nodes.{IsExpanded}
use Rattle.earley_sets.specs.Recognizer.{Recognizer, IsRecognizer, edges_of, top_of, earleme_of}
use Rattle.earley_sets.specs.Counted.{TakesAtMost}
use Rattle.forest_model.specs.Forest.{Forest, IsForest}
use Rattle.forest_model.specs.Listing.{IsListing}
use Rattle.language_model.specs.Building.{Built}
use Rattle.reading_model.specs.Reading as model
use Rattle.reading_model.specs.Reading.{Piece, End, earleme_after}
use Rattle.reading_model.proofs.One.{reading_is_one}
use Rattle.scanless.specs.Reading.{HoldsPieces, IsReadingOfWith}
use Rattle.scanless.specs.declared.reading.Ending.TheVariants.{End as AtEnd}
use Rattle.words_model.specs.Words.{ValuesAsked}
use Rattle.words_model.specs.Words.Telling.{Values}
use Rattle.run_model.specs.Listing.{first_of}
use Rattle.recognizer_model.specs.Below.{IsHiddenNode}
use Rattle.recognizer_model.specs.Links.{IsPlacedLink, IsLeoPair}
use Rattle.run_model.specs.Steps.{IsWithinLooks}
use Rattle.tellings.specs.Telling.{HasForest, GoesOnWithin}
use Rattle.text_reading.specs.Parts.{BuildsWithin}
use Rattle.text_reading.proofs.Derived.{listed}

-- A READING AND WHAT FOLLOWS IT

module _ (b : Built) (recce : Recognizer) (is : IsRecognizer recce) (pieces : List Piece) (holds : HoldsPieces b pieces recce) where
  -- what is so of the edges and the place of the pieces is so of those that are held
  as_held : (P : List Edge → ℕ → Type 0) → P (model.edges_of pieces) (earleme_after pieces) → P recce.edges (earleme_of recce)
  as_held P p = subst (λ (es : List Edge). P es (earleme_of recce)) (sym holds.edges) (subst (P (model.edges_of pieces)) (sym holds.place) p)

  pub within : (ranking : Ranking) (looks before read built after : ℕ) → TakesAtMost recce before read
      → BuildsWithin b.g1 ranking recce read built
      → after ≤ built + looks → IsWithinLooks b ranking pieces looks before after
  within ranking looks before read built after reads builds gives = record {
    flat = recce.flat;
    is = is.flat;
    of = holds.flat.made;
    top = top_of recce;
    top_is = subst (λ n. slice_get recce.flat.tops n ≡ Some (top_of recce)) holds.start (slice_get-get_or recce.flat.tops recce.start 0 is.start);
    few = λ links pairs expanded l p e.
        let expanded_are = as_held (λ es place. IsCountOf (IsExpanded recce.flat (FlatEdges recce.flat (Held es)) (allowed_by b.g1 ranking recce.flat (FlatEdges recce.flat (Held es))) (top_of recce) place) expanded) e in
        let r = sets links pairs l p in
        let m = builds.expanded expanded expanded_are in
        omega (arith, r, m, gives);
    needed = λ links pairs hidden l p h.
        let hidden_are = as_held (λ es place. IsCountOf (IsHiddenNode b.g1 recce.flat (FlatEdges recce.flat (Held es)) (top_of recce) place) hidden) h in
        let r = sets links pairs l p in
        let m = builds.needed hidden hidden_are in
        omega (arith, r, m, gives);
  }
    where
      -- what the sets take
      sets : (links pairs : ℕ) → IsCountOf (IsPlacedLink recce.flat (FlatEdges recce.flat (Held (model.edges_of pieces))) (top_of recce) (earleme_after pieces)) links
          → IsCountOf (IsLeoPair recce.flat (FlatEdges recce.flat (Held (model.edges_of pieces))) (top_of recce) (earleme_after pieces)) pairs → read ≤ before + links + pairs
      sets links pairs l p =
          let links_are = as_held (λ es place. IsCountOf (IsPlacedLink recce.flat (FlatEdges recce.flat (Held es)) (top_of recce) place) links) l in
          let pairs_are = as_held (λ es place. IsCountOf (IsLeoPair recce.flat (FlatEdges recce.flat (Held es)) (top_of recce) place) pairs) p in
          reads links pairs links_are pairs_are

module _ (b : Built) (asked : ValuesAsked) (given cs : List ℕ) (spans : List Span) (f : Forest) (has : HasForest b given asked.ranking cs spans f) (some : (trees : List Tree) × IsListing f trees) where
  pub lists_within : (recce : Recognizer) (held_spans : List Span) → IsRecognizer recce → IsReadingOfWith b given cs recce held_spans AtEnd → (read built after : ℕ)
      → BuildsWithin b.g1 asked.ranking recce read built
      → ((trees : List Tree) → IsListing f trees → after ≤ built + sum_by choices (first_of asked.first trees))
      → GoesOnWithin (Values asked) b given cs recce read after
  lists_within recce held_spans is reading read built after builds gives =
      let (trees, l) = some in
      let (same, ends) = reading_is_one b given cs reading.pieces has.pieces End End reading.is_reading has.reading in
      let holds : HoldsPieces b has.pieces recce = subst (λ (ps : List Piece). HoldsPieces b ps recce) same reading.holds in
      record {
        pieces = has.pieces;
        reading = has.reading;
        within = λ before reads. record {
          trees = trees;
          all = listed b given asked.ranking cs spans f has trees l;
          within = within b recce is has.pieces holds asked.ranking (sum_by choices (first_of asked.first trees)) before read built after reads builds (gives trees l);
        };
      }
