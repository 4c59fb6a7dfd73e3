-- What a forest tells of the derivations of a reading.
use Rattle.std.proofs.Common.{◌≡◌, ℕ, ◌+◌, ◌≤◌, Bool, List, [], Option, Some, None, length, map, refl, sym, subst, ◌∙◌, arith, slice_get, slice_index_or}
use Rattle.std.specs.Prelude.{IfSome}
use Rattle.std.specs.List.Sorted.{IsStrictlySortedBy}
use Rattle.std.proofs.lemmas.Option.{slice_get-get_or}
use Rattle.finite_sets.proofs.Lists.{Contains-none, get_index}
use Rattle.grammar_model.specs.Grammar.{Grammar, slot_of}
use Rattle.grammar_model.specs.Trees.{Tree}
use Rattle.grammar_model.specs.Derives.{Held, Derives}
use Rattle.grammar_model.specs.Steps.{Step}
use Rattle.grammar_model.specs.Checked.{IsChecked}
use Rattle.grammar_model.specs.declared.Edge.{Edge}
use Rattle.grammar_model.specs.declared.Ranking.{Ranking}
use Rattle.grammar_model.specs.Order.{rank_order, tree_cmp}
use Rattle.grammar_model.specs.Chosen.{AreChosen}
use Rattle.grammar_model.specs.declared.limits.TheConstants.{LONGEST_INPUT}
use Rattle.grammar_core.specs.Steps.{step_of}
use Rattle.grammar_core.specs.declared.steps.Span.{Span}
use Rattle.recognizer_model.specs.declared.flat.FlatSymbol.TheVariants.{Top}
use Rattle.recognizer_model.specs.Flat.{lhs_of}
use Rattle.flat_model.specs.Flattened.{IsFlattened}
use Rattle.recognizer_model.specs.FlatForm.{StandsFor, symbol_at, tree_of}
use Rattle.recognizer_model.proofs.FlatFormLaw.{flat_form}
use Rattle.recognizer_model.proofs.FlatChosen.{chosen_form}
use Rattle.recognizer_model.proofs.Leaving.{leaves_some}
use Rattle.earley_sets.specs.Laws.{TreesAreDerivations}
use Rattle.earley_sets.specs.Recognizer.{Recognizer, IsRecognizer, HasTree, earleme_of}
use Rattle.forest_model.specs.Forest.{Forest, IsForest, top_of}
use Rattle.forest_model.specs.Listing.{IsListing}
use Rattle.forest_laws.specs.Lists.{trees_by}
use Rattle.forest_laws.proofs.Exact.{forests_have_lists}
use Rattle.forest_laws.proofs.Reading as reading
use Rattle.language_model.specs.Building.{Built}
use Rattle.reading_model.specs.Reading.{edges_of, earleme_after}
use Rattle.scanless.specs.Reading.{IsReadingOfWith}
use Rattle.scanless.specs.declared.reading.Ending.TheVariants.{End as AtEnd}
use Rattle.run_model.specs.Listing.{AreDerivations}
use Rattle.run_model.specs.Telling.{no_derivation_text}
use Rattle.text_reading.specs.declared.refusal.Place.{Place}
use Rattle.text_reading.specs.Refusals.{IsNoDerivation}
use Rattle.forest_parts.specs.Hidden.{RisesWithin}
use Rattle.forest_parts.proofs.Counting.{rises_of, rises_most}
use Rattle.bocage.specs.Expanded.{IsExpandedIn, IsHiddenNode, IsGivenIn}
use Rattle.first_walk.specs.declared.walk.Walked.{Walked}
use Rattle.first_walk.specs.Place.{reading_of}
use Rattle.first_walk.specs.Walk.{IsFirstDerivation}
use Rattle.text_reading.specs.Parts.{IsChosenOf, HasFirst, HasForest, ForGiven, BuildsWithin, AreExpectedOf}

-- A FOREST HAS A DERIVATION

module _ (f : Forest) (is : IsForest f) where
  abbrev whole : ℕ
  whole = lhs_of f.flat (top_of f)

  top_symbol : slice_get f.flat.symbols whole ≡ Some (Top f.start)
  top_symbol = (is.derived.flat.tops f.start (top_of f) (slice_get-get_or f.flat.tops f.start 0 is.derived.start)).symbol

  stands : StandsFor f.written (symbol_at f.flat whole) (slot_of (slice_index_or f.written.starts f.start 0))
  stands =
      let e : symbol_at f.flat whole ≡ Top f.start = (get_index f.flat.symbols whole (Top 0) (Top f.start) top_symbol).1 in
      let all = is.derived.flat_of.tops_all in
      let lt = is.derived.start in
      subst (λ s. StandsFor f.written s (slot_of (slice_index_or f.written.starts f.start 0))) (sym e)
      (slice_index_or f.written.starts f.start 0, slice_get-get_or f.written.starts f.start 0 (omega (arith, all, lt)), refl)

  -- some derivation is chosen
  pub has_derivation : (t : Tree) × IsChosenOf f.written f.edges f.ranking f.start f.place t
  has_derivation =
      let forward = reading.held_forward f is.derived in
      let form = flat_form f.flat f.written is.derived.flat is.derived.flat_of is.derived.checked (Held f.edges) forward f.ranking in
      let (tree, derives, allowed) = leaves_some f.flat f.written is.derived.flat f.edges forward f.ranking whole 0 f.place is.derived.tree is.derived.derives in
      let view = reading.viewed f is.derived derives in (
        tree_of f.written f.flat tree,
        (
          form.sound whole 0 f.place _ tree (get_index f.flat.symbols whole (Top 0) (Top f.start) top_symbol).0 stands view,
          (chosen_form f.flat f.written is.derived.flat is.derived.flat_of is.derived.checked (Held f.edges) forward f.ranking whole 0 f.place _ tree stands view).0 allowed,
        ),
      )

-- equal parts
chosen_as : (w v : Grammar) (es gs : List Edge) (r s : Ranking) (k p q : ℕ) (t : Tree) → w ≡ v → es ≡ gs → r ≡ s → k ≡ 0 → p ≡ q → IsChosenOf w es r k p t → IsChosenOf v gs s 0 q t
chosen_as w v es gs r s k p q t same_w same_e same_r same_k same_p d =
    subst (λ (g : Grammar). IsChosenOf g gs s 0 q t) same_w
    (subst (λ (l : List Edge). IsChosenOf w l s 0 q t) same_e
    (subst (λ (x : Ranking). IsChosenOf w es x 0 q t) same_r
    (subst (λ n. IsChosenOf w es r n q t) same_k
    (subst (λ n. IsChosenOf w es r k n t) same_p d))))

all_as : (w v : Grammar) (es gs : List Edge) (r s : Ranking) (k p q : ℕ) (ts : List Tree) → w ≡ v → es ≡ gs → r ≡ s → k ≡ 0 → p ≡ q
    → AreChosen w (Held es) r (slot_of (slice_index_or w.starts k 0)) 0 p ts → AreChosen v (Held gs) s (slot_of (slice_index_or v.starts 0 0)) 0 q ts
all_as w v es gs r s k p q ts same_w same_e same_r same_k same_p d =
    subst (λ (g : Grammar). AreChosen g (Held gs) s (slot_of (slice_index_or g.starts 0 0)) 0 q ts) same_w
    (subst (λ (l : List Edge). AreChosen w (Held l) s (slot_of (slice_index_or w.starts 0 0)) 0 q ts) same_e
    (subst (λ (x : Ranking). AreChosen w (Held es) x (slot_of (slice_index_or w.starts 0 0)) 0 q ts) same_r
    (subst (λ n. AreChosen w (Held es) r (slot_of (slice_index_or w.starts n 0)) 0 q ts) same_k
    (subst (λ n. AreChosen w (Held es) r (slot_of (slice_index_or w.starts k 0)) 0 n ts) same_p d))))

-- WHERE THE FOREST IS BUILT

module _ (b : Built) (given : List ℕ) (ranking : Ranking) (cs : List ℕ) (recce : Recognizer) (spans : List Span) (few : length cs ≤ LONGEST_INPUT) (read : IsReadingOfWith b given cs recce spans AtEnd) where
  -- a forest, or what a forest is of, with one of its derivations
  pub has_some : (f : Forest) (t : Tree) → IsChosenOf f.written f.edges f.ranking f.start f.place t → f.written ≡ b.g1 → f.flat ≡ recce.flat → f.start ≡ recce.start → f.edges ≡ recce.edges → f.place ≡ earleme_of recce
      → f.ranking ≡ ranking → HasForest b given ranking cs spans f
  has_some f t chosen written flat start edges place ranked =
      let start_is = start ∙ read.holds.start in
      let edges_are = edges ∙ read.holds.edges in
      let place_is = place ∙ read.holds.place in
      record {
        pieces = read.pieces;
        reading = read.is_reading;
        of = record {
          few = few;
          given = given;
          reading = read.is_reading;
          spans_are = read.spans_are;
          written = written;
          flat = subst (IsFlattened b.g1) (sym flat) read.holds.flat;
          start = start_is;
          edges = edges_are;
          place = place_is;
        };
        ranking_is = ranked;
        tree = t;
        chosen = chosen_as f.written b.g1 f.edges (edges_of read.pieces) f.ranking ranking f.start f.place (earleme_after read.pieces) t written edges_are ranked start_is place_is chosen;
      }

  pub has_forest : (f : Forest) → IsForest f → (w : Grammar) → w ≡ b.g1 → f.written ≡ w → f.flat ≡ recce.flat → f.start ≡ recce.start → f.edges ≡ recce.edges → f.place ≡ earleme_of recce → f.ranking ≡ ranking
      → HasForest b given ranking cs spans f
  has_forest f is w same written flat start edges place ranked =
      let some = has_derivation f is in
      has_some f some.0 some.1 (written ∙ same) flat start edges place ranked

  -- the first derivation, without a forest
  pub has_first : (w : Grammar) → w ≡ b.g1 → (list : List Step) (alone : Bool) → IsFirstDerivation (reading_of w ranking recce) list alone → HasFirst b given ranking cs spans recce list alone
  has_first w same list alone is =
      let here : IsFirstDerivation (reading_of b.g1 ranking recce) list alone = subst (λ (x : Grammar). IsFirstDerivation (reading_of x ranking recce) list alone) same is in
      record {
        has = has_some (reading_of b.g1 ranking recce) here.tree ((here.listing.each here.tree).0 (0, omega arith, refl)) refl refl refl refl refl refl;
        first = here;
      }

  -- no tree, no derivation
  start_get : IsRecognizer recce → slice_get b.g1.starts recce.start ≡ Some (slice_index_or b.g1.starts recce.start 0)
  start_get is = let all = read.holds.flat.made.tops_all in let lt = is.start in slice_get-get_or b.g1.starts recce.start 0 (omega (arith, all, lt))

  none_derived : TreesAreDerivations → IsChecked b.g1 → IsRecognizer recce → (HasTree recce → ⊥) → (t : Tree)
      → Derives b.g1 (Held (edges_of read.pieces)) (slot_of (slice_index_or b.g1.starts 0 0)) 0 (earleme_after read.pieces) t → ⊥
  none_derived law checked is none t d =
      let here : Derives b.g1 (Held recce.edges) (slot_of (slice_index_or b.g1.starts recce.start 0)) 0 (earleme_of recce) t =
      subst (λ (l : List Edge). Derives b.g1 (Held l) (slot_of (slice_index_or b.g1.starts recce.start 0)) 0 (earleme_of recce) t) (sym read.holds.edges)
      (subst (λ n. Derives b.g1 (Held (edges_of read.pieces)) (slot_of (slice_index_or b.g1.starts n 0)) 0 (earleme_of recce) t) (sym read.holds.start)
      (subst (λ n. Derives b.g1 (Held (edges_of read.pieces)) (slot_of (slice_index_or b.g1.starts 0 0)) 0 n t) (sym read.holds.place) d)) in
      none ((law b.g1 recce (slice_index_or b.g1.starts recce.start 0) checked read.holds.flat.made is (start_get is)).1 (t, here))

  none_sorted : IsStrictlySortedBy (tree_cmp (rank_order b.g1 ranking)) []
  unfolding IsStrictlySortedBy
  none_sorted = tt

  pub no_derivation : TreesAreDerivations → IsChecked b.g1 → IsRecognizer recce → (HasTree recce → ⊥) → (text : List ℕ) (place : Option Place) (expected : List ℕ) →
      AreExpectedOf b recce expected → text ≡ no_derivation_text b.g1 expected → place ≡ None → IsNoDerivation b given ranking cs text place expected
  no_derivation law checked is none text place expected are told where_is = record {
    pieces = read.pieces;
    reading = read.is_reading;
    none = record { sorted = none_sorted; each = λ t. (λ among. absurd (Contains-none t among), λ (d, c). absurd (none_derived law checked is none t d)) };
    are = are read.pieces read.holds;
    told = told;
    place_is = where_is;
  }

-- WHERE THE FIRST DERIVATION IS FOUND

module _ (b : Built) (ranking : Ranking) (cs : List ℕ) (recce : Recognizer) (spans : List Span) where
  -- whatever lexemes were given
  abbrev pub IsFound : Walked → Type 0
  IsFound walked = ForGiven b cs recce spans AtEnd (λ given. HasFirst b given ranking cs spans recce (map step_of walked.steps.items) walked.alone)

  pub first_found : length cs ≤ LONGEST_INPUT → (w : Grammar) → w ≡ b.g1 → (found : Option Walked) → IfSome found (λ (walked : Walked). IsFirstDerivation (reading_of w ranking recce) (map step_of walked.steps.items) walked.alone) →
      IfSome found IsFound
  first_found few w same None is = is
  first_found few w same (Some walked) is = λ given read. has_first b given ranking cs recce spans few read w same (map step_of walked.steps.items) walked.alone is

-- the steps of a forest, by an equal grammar
pub builds_within : (recce : Recognizer) (ranking : Ranking) (w g : Grammar) (before after : ℕ) → w ≡ g → BuildsWithin w ranking recce before after → BuildsWithin g ranking recce before after
builds_within recce ranking w g before after same within = subst (λ (x : Grammar). BuildsWithin x ranking recce before after) same within

-- those of hidden items that were brought back
pub given_within : (recce : Recognizer) (ranking : Ranking) (w g : Grammar) (before after : ℕ) → w ≡ g → RisesWithin (IsGivenIn w ranking recce) before after → BuildsWithin g ranking recce before after
given_within recce ranking w g before after same rises = builds_within recce ranking w g before after same (record {
  expanded = λ n all. rises_most (IsExpandedIn w ranking recce) before after n (rises_of (IsGivenIn w ranking recce) (IsExpandedIn w ranking recce) before after (λ p h. h.0) rises) all;
  needed = λ n all. rises_most (IsHiddenNode w recce) before after n (rises_of (IsGivenIn w ranking recce) (IsHiddenNode w recce) before after (λ p (expanded, (node, below)). node) rises) all;
})

-- WHAT THE FOREST LISTS

module _ (b : Built) (given : List ℕ) (ranking : Ranking) (cs : List ℕ) (spans : List Span) (f : Forest) (has : HasForest b given ranking cs spans f) where
  pub listed : (trees : List Tree) → IsListing f trees → AreDerivations b ranking has.pieces trees
  listed trees l =
      all_as f.written b.g1 f.edges (edges_of has.pieces) f.ranking ranking f.start f.place (earleme_after has.pieces) trees
      has.of.written has.of.edges has.ranking_is has.of.start has.of.place l

  -- the forest has a list
  pub some_listing : IsForest f → (trees : List Tree) × IsListing f trees
  some_listing is = (trees_by f (forests_have_lists f is).0, (forests_have_lists f is).1.listing)
