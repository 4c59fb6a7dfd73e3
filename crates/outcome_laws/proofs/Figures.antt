-- The figures of a reading by right recursion.
use Rattle.std.proofs.Common.{arith, ◌≡◌, ℕ, suc, ◌+◌, ◌*◌, ◌≤◌, [], ◌∷◌, refl, sym, subst}
use Rattle.std.specs.List.{sum_by}
use Rattle.grammar_model.specs.declared.Ranking.TheVariants.{Rule as RuleRanks, None as NoRanks}
use Rattle.grammar_model.specs.Grammar.{slot_of}
use Rattle.grammar_model.specs.Derives.{Held}
use Rattle.grammar_model.specs.Chosen.{AreChosen}
use Rattle.reading_model.specs.Reading.{edges_of, earleme_after}
use Rattle.recognizer_model.specs.Chosen.{allowed_by}
use Rattle.recognizer_model.specs.Below.{IsHiddenNode}
use Rattle.recognizer_model.specs.Counts.{IsCountOf}
use Rattle.recognizer_model.specs.Links.{IsPlacedLink, IsLeoPair, choices}
use Rattle.recognizer_model.specs.Nodes.{IsExpanded}
use Rattle.run_model.specs.Listing.{AreDerivations}
use Rattle.run_model.specs.Steps.{IsWithinSteps}
use Rattle.number_laws.specs.Counts.{HasCounts}
use Rattle.number_laws.proofs.Counted.{counts_bound_steps}
use Rattle.number_laws.proofs.RightRecursion.{right_recursion_counts}
use Rattle.outcome_laws.specs.Figures.{right_g1, right_built, row, tree, HasFigures, StepsHaveFigures}
use Rattle.outcome_laws.proofs.RightAccepted.{accepted}
use Rattle.outcome_laws.proofs.RightReading.{is_read}
use Rattle.outcome_laws.proofs.RightFlat.{flat, is_flat_of}
use Rattle.outcome_laws.proofs.RightShape.{is_flat}
use Rattle.outcome_laws.proofs.RightSets.{row_edges, tokens_place}
use Rattle.outcome_laws.proofs.RightNodes.{expanded_count, node_count}
use Rattle.outcome_laws.proofs.RightTrees.{choices_of, are_chosen}
use Rattle.outcome_laws.proofs.RightRuns.{of_run, told}
use Rattle.outcome_laws.proofs.RightLinks.{links_counted, pairs_counted}

module _ (n : ℕ) where
  place : suc n ≡ earleme_after (row (suc n))
  place = sym (tokens_place (suc n))

  links : IsCountOf (IsPlacedLink flat (row_edges (suc n)) 2 (suc n)) (5 * n + 5)
  links = subst (IsCountOf (IsPlacedLink flat (row_edges (suc n)) 2 (suc n))) (let e : 5 * suc n ≡ 5 * n + 5 = omega arith in e)
      (links_counted (suc n) (5 * suc n) (right_recursion_counts (suc n)).0)

  pairs : IsCountOf (IsLeoPair flat (row_edges (suc n)) 2 (suc n)) (n + 2)
  pairs = subst (IsCountOf (IsLeoPair flat (row_edges (suc n)) 2 (suc n))) (let e : suc (suc n) ≡ n + 2 = omega arith in e)
      (pairs_counted (suc n) (suc (suc n)) (right_recursion_counts (suc n)).1)

  expanded : IsCountOf (IsExpanded flat (row_edges (suc n)) (allowed_by right_g1 RuleRanks flat (row_edges (suc n))) 2 (suc n)) n
  expanded = expanded_count n (allowed_by right_g1 RuleRanks flat (row_edges (suc n))) (λ r p q. tt)

  hidden : IsCountOf (IsHiddenNode right_g1 flat (row_edges (suc n)) 2 (suc n)) n
  hidden = node_count n (allowed_by right_g1 NoRanks flat (row_edges (suc n))) (λ r p q. tt)

  counts : HasCounts right_built RuleRanks (row (suc n)) (record { links = 5 * n + 5; pairs = n + 2; expanded = n; hidden = n })
  counts = record {
    flat = flat;
    is = is_flat 1 0;
    of = is_flat_of;
    top = 2;
    top_is = refl;
    links = subst (λ z. IsCountOf (IsPlacedLink flat (row_edges (suc n)) 2 z) (5 * n + 5)) place links;
    pairs = subst (λ z. IsCountOf (IsLeoPair flat (row_edges (suc n)) 2 z) (n + 2)) place pairs;
    expanded = subst (λ z. IsCountOf (IsExpanded flat (row_edges (suc n)) (allowed_by right_g1 RuleRanks flat (row_edges (suc n))) 2 z) n) place expanded;
    hidden = subst (λ z. IsCountOf (IsHiddenNode right_g1 flat (row_edges (suc n)) 2 z) n) place hidden;
  }

  derived : AreDerivations right_built RuleRanks (row (suc n)) (tree n 0 (suc n) ∷ [])
  derived = subst (λ z. AreChosen right_g1 (Held (edges_of (row (suc n)))) RuleRanks (slot_of 0) 0 z (tree n 0 (suc n) ∷ [])) place (are_chosen n)

  bound : (after : ℕ) → IsWithinSteps right_built RuleRanks (row (suc n)) (tree n 0 (suc n) ∷ []) 0 after → after ≤ 18 * n + 15
  bound after within =
      let most = (counts_bound_steps right_built RuleRanks (row (suc n)) (record { links = 5 * n + 5; pairs = n + 2; expanded = n; hidden = n }) (sum_by choices (tree n 0 (suc n) ∷ [])) 0 after counts within).0 in
      let few = choices_of n 0 (suc n) in
      omega (arith, most, few)

  has_figures : HasFigures n (5 * n + 5) (n + 2) n (11 * n + 8) (18 * n + 15)
  has_figures = record {
    read = is_read (suc n);
    counts = counts;
    derived = derived;
    chosen = choices_of n 0 (suc n);
    steps = bound;
    run = λ few file out out_after after told runs. of_run n after few (bound after) derived file out out_after told runs;
  }

pub steps_have_figures : StepsHaveFigures
steps_have_figures = record { accepted = accepted; told = told (derived 1); any = has_figures; two = has_figures 1; many = has_figures 9999 }
