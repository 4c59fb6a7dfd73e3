-- What a forest tells of where the derivations of a reading differ.
use Rattle.std.proofs.Common.{◌≡◌, ℕ, ◌+◌, ◌<◌, ◌≤◌, List, [], ◌∷◌, All, Contains, Option, Some, map, length, sym, ap, subst, ◌∙◌, arith, slice_index_or}
use Rattle.std.proofs.lemmas.List.{length-map}
use Rattle.std.proofs.lemmas.List.Elements.{All-weaker, All-contains_itself}
use Rattle.finite_sets.proofs.Lists.{Contains-none}
use Rattle.grammar_model.specs.Grammar.{Grammar, WrittenRule, Plain, Sequence, Slot, lhs_of, rule_at, no_rule}
use Rattle.grammar_model.specs.Trees.{Tree, Leaf, Nulled, Node}
use Rattle.grammar_model.specs.Derives.{Edges, Held, Derives}
use Rattle.grammar_model.specs.declared.Edge.{Edge}
use Rattle.grammar_model.specs.declared.Ranking.TheVariants.{Rule as RuleRanks}
use Rattle.grammar_core.specs.declared.steps.Span.{Span}
use Rattle.grammar_core.specs.Written.{symbols_of, IsLevelled}
use Rattle.recognizer_model.specs.Nodes.{IsStats, IsUsed}
use Rattle.recognizer_model.proofs.Counting.{one_count}
use Rattle.earley_sets.specs.Recognizer.{Recognizer, IsRecognizer}
use Rattle.language_model.specs.Building.{Built}
use Rattle.reading_model.specs.Reading.{End, edges_of, earleme_after}
use Rattle.reading_model.proofs.One.{reading_is_one}
use Rattle.scanless.specs.Reading.{HoldsPieces, IsReadingOfWith}
use Rattle.scanless.specs.declared.reading.Ending.TheVariants.{End as AtEnd}
use Rattle.forest_model.specs.Forest as forest
use Rattle.forest_model.specs.Forest.{Forest, IsForest}
use Rattle.glade_model.specs.Glades.{Shape, Glade, shape_of, AreGlades}
use Rattle.glade_laws.specs.Groups.{start_of}
use Rattle.words_model.specs.Words.Telling.{Glades}
use Rattle.run_model.specs.Listing.{AreDerivations}
use Rattle.run_model.specs.Numbers.{Numbers, HasNumbers}
use Rattle.run_model.specs.Telling.{TellsGlades, glade_line, done, refused}
use Rattle.run_model.specs.Telling.TellsGlades.{Underived, Compared}
use Rattle.text_reading.specs.declared.refusal.Place.{Place}
use Rattle.text_reading.specs.Refusals.{IsNoDerivation}
use Rattle.text_reading.proofs.Derived.{listed, some_listing}
use Rattle.tellings.specs.Telling.{TellsReading, HasForest, GoesOnWithin}
use Rattle.text_reading.specs.Parts.{BuildsWithin}
use Rattle.tellings.proofs.Numbered.{nodes_counted}
use Rattle.tellings.proofs.Within.{within}

-- THE SYMBOLS OF GLADES

module _ (g : Grammar) (rules : All (λ r. All (λ s. s < length g.names) (symbols_of r) × IsLevelled r) g.rules) where
  left_known : (rule : WrittenRule) → All (λ s. s < length g.names) (symbols_of rule) → lhs_of rule < length g.names
  left_known (Plain r) all = all 0 0 (omega arith)
  left_known (Sequence r) all = all 0 0 (omega arith)

  no_shape : {first : Shape} → Option.None ≡ Some first → ⊥
  no_shape e = cc

  shaped_known : (edge : Edges) (slot : Slot) (p q : ℕ) (t : Tree) (first : Shape) → Derives g edge slot p q t → shape_of t ≡ Some first → slot.symbol < length g.names
  shaped_known edge slot p q (Leaf s a b) first d e = absurd (no_shape e)
  shaped_known edge slot p q (Nulled s a) first d e = absurd (no_shape e)
  shaped_known edge slot p q (Node i cs a b) first d e =
      subst (λ s. s < length g.names) d.fits.0 (left_known (rule_at g i) (rules i no_rule d.in_range).0)

  pub glades_known : (edges : List Edge) (start place : ℕ) (glades : List Glade) → AreGlades g edges start place glades → All (λ x. x.slot.symbol < length g.names) glades
  glades_known edges start place glades are =
      All-weaker (Contains glades) (λ x. x.slot.symbol < length g.names)
      (λ x among. (let h = ((are.exact x).0 among).shapes in shaped_known (Held edges) x.slot x.from x.to h.one x.first h.one_is.derives h.one_shape)) glades (All-contains_itself glades)

-- WHAT IS TOLD

module _ (b : Built) (given cs : List ℕ) (spans : List Span) (f : Forest) (has : HasForest b given RuleRanks cs spans f) (is : IsForest f) where
  pub glades_as : (glades : List Glade) → AreGlades f.written f.edges (start_of f) f.place glades → AreGlades b.g1 (edges_of has.pieces) (slice_index_or b.g1.starts 0 0) (earleme_after has.pieces) glades
  glades_as glades are =
      subst (λ (g : Grammar). AreGlades g (edges_of has.pieces) (slice_index_or g.starts 0 0) (earleme_after has.pieces) glades) has.of.written
      (subst (λ n. AreGlades f.written (edges_of has.pieces) (slice_index_or f.written.starts n 0) (earleme_after has.pieces) glades) has.of.start
      (subst (λ (es : List Edge). AreGlades f.written es (start_of f) (earleme_after has.pieces) glades) has.of.edges
      (subst (λ n. AreGlades f.written f.edges (start_of f) n glades) has.of.place are)))

  pub compared : (w : Grammar) → w ≡ b.g1 → (glades shown : List Glade) → AreGlades f.written f.edges (start_of f) f.place glades → shown ≡ glades → TellsReading Glades b given cs (done (map (glade_line w) shown))
  compared w same glades shown are is_shown =
      let (trees, l) = some_listing b given RuleRanks cs spans f has is in
      record { pieces = has.pieces; reading = has.reading; tells = by trees (listed b given RuleRanks cs spans f has trees l) }
    where
      by : (ts : List Tree) → AreDerivations b RuleRanks has.pieces ts → TellsGlades b has.pieces (done (map (glade_line w) shown))
      by [] all = absurd (Contains-none has.tree ((all.each has.tree).1 has.chosen))
      by (t ∷ ts) all =
          Compared t ts glades all (glades_as glades are) (ap (λ (g : Grammar). done (map (glade_line g) shown)) same ∙ ap (λ (xs : List Glade). done (map (glade_line b.g1) xs)) is_shown)

  -- STEPS

  module _ (n : Numbers) (numbers : HasNumbers b RuleRanks has.pieces n) where
    counted : n.nodes ≡ length f.nodes
    counted = nodes_counted b RuleRanks has.pieces cs spans f has.of has.ranking_is is n numbers

    pub compares_within : (recce : Recognizer) (held_spans : List Span) → IsRecognizer recce → IsReadingOfWith b given cs recce held_spans AtEnd → (read built after : ℕ)
        → BuildsWithin b.g1 RuleRanks recce read built
        → after ≤ built + length f.nodes → GoesOnWithin Glades b given cs recce read after
    compares_within recce held_spans recognizes reading read built after builds looks =
        let (same, ends) = reading_is_one b given cs reading.pieces has.pieces End End reading.is_reading has.reading in
        let holds : HoldsPieces b has.pieces recce = subst (λ (ps : List _). HoldsPieces b ps recce) same reading.holds in
        let few : after ≤ built + n.nodes = subst (λ k. after ≤ built + k) (sym counted) looks in
        record {
          pieces = has.pieces;
          reading = has.reading;
          within = λ before reads. record {
            numbers = n;
            has = numbers;
            within = within b recce recognizes has.pieces holds RuleRanks n.nodes before read built after reads builds few;
          };
        }

-- NO DERIVATION

pub none_compared : (b : Built) (given cs text : List ℕ) (place : Option Place) (expected : List ℕ) → IsNoDerivation b given RuleRanks cs text place expected → TellsReading Glades b given cs (refused 1 text)
none_compared b given cs text place expected is = record { pieces = is.pieces; reading = is.reading; tells = Underived expected is.none is.are (ap (refused 1) is.told) }
