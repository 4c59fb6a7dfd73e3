-- The derivations of what the recognizer has read.
use Rattle.std.proofs.Common.{◌≡◌, ◌∙◌, ℕ, ◌+◌, ◌<◌, List, [], ◌∷◌, Contains, length, map, take, drop, false, refl, sym, ap, subst, arith, slice_index_or}
use Rattle.std.specs.Prelude.{slice_get}
use Rattle.std.specs.List.Sorted.{IsStrictlySortedBy}
use Rattle.std.proofs.lemmas.Bool.{both_ways}
use Rattle.std.proofs.lemmas.List.{drop_all}
use Rattle.std.proofs.lemmas.Option.{slice_get-get_or}
use Rattle.finite_sets.proofs.Lists.{Contains-none}
use Rattle.grammar_model.specs.declared.Edge.{Edge}
use Rattle.grammar_model.specs.Grammar.{Grammar, slot_of}
use Rattle.grammar_model.specs.Trees.{Tree}
use Rattle.grammar_model.specs.Steps.{steps_of}
use Rattle.grammar_model.specs.Derives.{Held, Derives}
use Rattle.grammar_model.specs.Chosen.{AreChosen}
use Rattle.grammar_model.specs.Order.{rank_order, tree_cmp}
use Rattle.grammar_model.specs.declared.Ranking.TheVariants.{Rule as RuleRanks}
use Rattle.grammar_core.specs.Steps.{step_of}
use Rattle.forest_model.specs.Forest.{Forest}
use Rattle.forest_model.specs.Listing.{IsListing}
use Rattle.earley_sets.specs.Recognizer.{Recognizer, IsRecognizer, HasTree, earleme_of}
use Rattle.earley_sets.specs.Laws.{TreesAreDerivations}
use Rattle.marpa_script.specs.Machines.{reading}
use Rattle.marpa_script.proofs.Derivations.{IsForestBy}
use Rattle.scanning_calls.specs.Machines.{ReadsOver}
use Rattle.scanning_calls.specs.Calls.{AreDerivations, AreSome}
use Rattle.scanning_calls.specs.Kept.{AreSomeOf}
use Rattle.scanning_calls.specs.declared.kept.Kept.{Kept}
use Rattle.scanning_calls.proofs.Gathering.{take_none}

module _ (g : Grammar) (r : Recognizer) (reads : ReadsOver g r) where
  listed : (f : Forest) → IsForestBy g r f → (trees : List Tree) → IsListing f trees → AreDerivations (reading g r) trees
  listed f by trees l =
      subst (λ k. AreChosen g (Held r.edges) k (slot_of (slice_index_or g.starts 0 0)) 0 (earleme_of r) trees) by.ranking
      (subst (λ n. AreChosen g (Held r.edges) f.ranking (slot_of (slice_index_or g.starts n 0)) 0 (earleme_of r) trees) (by.start ∙ reads.start)
      (subst (λ n. AreChosen g (Held r.edges) f.ranking (slot_of (slice_index_or g.starts f.start 0)) 0 n trees) by.place
      (subst (λ (es : List Edge). AreChosen g (Held es) f.ranking (slot_of (slice_index_or g.starts f.start 0)) 0 f.place trees) by.edges
      (subst (λ (h : Grammar). AreChosen h (Held f.edges) f.ranking (slot_of (slice_index_or h.starts f.start 0)) 0 f.place trees) by.written l))))

  pub some_of_all : (f : Forest) → IsForestBy g r f → (skip most : ℕ) (k : Kept) → AreSomeOf f skip most k → AreSome (reading g r) skip most k
  some_of_all f by skip most k some = record { trees = some.trees; all = listed f by some.trees some.listing; kept = some.kept; more = some.more }

  module _ (law : TreesAreDerivations) (is : IsRecognizer r) (none : HasTree r → ⊥) where
    none_derived : (t : Tree) → Derives g (Held r.edges) (slot_of (slice_index_or g.starts 0 0)) 0 (earleme_of r) t → ⊥
    none_derived t d =
        none ((law g r (slice_index_or g.starts 0 0) reads.checked reads.flat is (ap (slice_get g.starts) reads.start ∙ slice_get-get_or g.starts 0 0 reads.checked.some_start)).1 (t, d))

    none_sorted : IsStrictlySortedBy (tree_cmp (rank_order g RuleRanks)) []
    unfolding IsStrictlySortedBy
    none_sorted = tt

    none_chosen : AreDerivations (reading g r) []
    none_chosen = record { sorted = none_sorted; each = λ t. ((λ among. absurd (Contains-none t among)), (λ (d, c). absurd (none_derived t d))) }

    pub none_kept : (skip most : ℕ) (k : Kept) → map (λ steps. map step_of steps.items) k.derivations.items ≡ [] → k.more ≡ false → AreSome (reading g r) skip most k
    none_kept skip most k empty no_more = record {
      trees = [];
      all = none_chosen;
      kept = empty ∙ sym (ap (map steps_of) (take_none most (drop skip []) (drop_all skip [] (omega arith))));
      more = (λ told. absurd (both_ways k.more no_more told), λ lt. absurd (omega (arith, lt)));
    }
