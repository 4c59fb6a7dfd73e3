-- What a script is told of the derivations up to its place.
use Rattle.std.proofs.Common.{◌≡◌, ◌∙◌, ℕ, ◌<◌, ◌≤◌, ◌++◌, List, [], ◌∷◌, Option, Some, Contains, length, map, take, refl, sym, ap, subst, arith, append-nil, slice_index_or}
use Rattle.std.specs.Prelude.{codes, decimal, slice_get}
use Rattle.std.specs.List.{concat}
use Rattle.std.specs.List.Sorted.{IsStrictlySortedBy}
use Rattle.std.specs.Io.KnownBytes.{Appends}
use Rattle.std.proofs.lemmas.List.{take_all}
use Rattle.std.proofs.lemmas.Option.{slice_get-get_or}
use Rattle.outside_model.specs.Told.{AppendsPrefix}
use Rattle.finite_sets.proofs.Lists.{Contains-none}
use Rattle.grammar_model.specs.declared.Edge.{Edge}
use Rattle.grammar_model.specs.Grammar.{Grammar, slot_of}
use Rattle.grammar_model.specs.Trees.{Tree}
use Rattle.grammar_model.specs.Derives.{Held, Derives}
use Rattle.grammar_model.specs.Chosen.{AreChosen}
use Rattle.grammar_model.specs.Order.{rank_order, tree_cmp}
use Rattle.grammar_model.specs.declared.Ranking.TheVariants.{Rule as RuleRanks}
use Rattle.grammar_core.specs.Written.{IsWritten}
use Rattle.forest_model.specs.Forest.{Forest}
use Rattle.forest_model.specs.Listing.{IsListing}
use Rattle.earley_sets.specs.Recognizer.{Recognizer, IsRecognizer, HasTree, earleme_of}
use Rattle.earley_sets.specs.Laws.{TreesAreDerivations}
use Rattle.script_model.specs.Replies.{Reply, as_line, tells, tree_line, TreesReply}
use Rattle.marpa_script.specs.Machines.{reading, ReadsBy}
use Rattle.marpa_script.specs.Written.{Replied, BreaksOff, Within}
use Rattle.marpa_script.specs.Listed.{IsOver, TellsAll}

-- the forest is of what the recognizer has read
pub record IsForestBy (g : Grammar) (r : Recognizer) (f : Forest) : Type 0 where
  pub written : f.written ≡ g
  pub start : f.start ≡ r.start
  pub edges : f.edges ≡ r.edges
  pub place : f.place ≡ earleme_of r
  pub ranking : f.ranking ≡ RuleRanks

module _ (g : Grammar) (r : Recognizer) (reads : ReadsBy g r) (f : Forest) (by : IsForestBy g r f) where
  pub is_over : IsWritten g → IsOver g f
  is_over written = record {
    written = by.written;
    known = subst (λ n. slice_index_or g.starts n 0 < length g.names) (sym (by.start ∙ reads.start)) (written.starts_known 0 0 reads.checked.some_start);
  }

  listed : (trees : List Tree) → IsListing f trees → AreChosen g (Held r.edges) RuleRanks (slot_of (slice_index_or g.starts 0 0)) 0 (earleme_of r) trees
  listed trees l =
      subst (λ k. AreChosen g (Held r.edges) k (slot_of (slice_index_or g.starts 0 0)) 0 (earleme_of r) trees) by.ranking
      (subst (λ n. AreChosen g (Held r.edges) f.ranking (slot_of (slice_index_or g.starts n 0)) 0 (earleme_of r) trees) (by.start ∙ reads.start)
      (subst (λ n. AreChosen g (Held r.edges) f.ranking (slot_of (slice_index_or g.starts f.start 0)) 0 n trees) by.place
      (subst (λ (es : List Edge). AreChosen g (Held es) f.ranking (slot_of (slice_index_or g.starts f.start 0)) 0 f.place trees) by.edges
      (subst (λ (h : Grammar). AreChosen h (Held f.edges) f.ranking (slot_of (slice_index_or h.starts f.start 0)) 0 f.place trees) by.written l))))

  module _ (count : ℕ) (old new : Option (List ℕ)) where
    abbrev reply : List Tree → Reply
    reply trees = tells (reading g r) (map (tree_line g) (take count trees)) (codes "trees " ++ decimal (length (take count trees)))

    replies : (trees : List Tree) → IsListing f trees → TreesReply (reading g r) count (reply trees)
    replies trees l = record { trees = trees; all = listed trees l; is = refl }

    pub trees_told : TellsAll g f count (Appends old new) → Replied (TreesReply (reading g r) count) (reading g r) old new
    trees_told t = record { reply = reply t.trees; is = replies t.trees t.listing; after_is = refl; appends = t.has }

    pub trees_broken : TellsAll g f count (AppendsPrefix old new) → BreaksOff (TreesReply (reading g r) count) old new
    trees_broken t = Within (reply t.trees) (replies t.trees t.listing) t.has

-- ---- WHERE THERE IS NONE

module _ (law : TreesAreDerivations) (g : Grammar) (r : Recognizer) (reads : ReadsBy g r) (is : IsRecognizer r) (none : HasTree r → ⊥) where
  none_derived : (t : Tree) → Derives g (Held r.edges) (slot_of (slice_index_or g.starts 0 0)) 0 (earleme_of r) t → ⊥
  none_derived t d =
      none ((law g r (slice_index_or g.starts 0 0) reads.checked reads.flat is (ap (slice_get g.starts) reads.start ∙ slice_get-get_or g.starts 0 0 reads.checked.some_start)).1 (t, d))

  none_sorted : IsStrictlySortedBy (tree_cmp (rank_order g RuleRanks)) []
  unfolding IsStrictlySortedBy
  none_sorted = tt

  none_chosen : AreChosen g (Held r.edges) RuleRanks (slot_of (slice_index_or g.starts 0 0)) 0 (earleme_of r) []
  none_chosen = record { sorted = none_sorted; each = λ t. ((λ among. absurd (Contains-none t among)), (λ (d, c). absurd (none_derived t d))) }

  module _ (count : ℕ) where
    abbrev empty : Reply
    empty = tells (reading g r) [] (codes "trees " ++ decimal 0)

    no_tree : TreesReply (reading g r) count empty
    no_tree = record {
      trees = [];
      all = none_chosen;
      is = ap (λ (ts : List Tree). tells (reading g r) (map (tree_line g) ts) (codes "trees " ++ decimal (length ts))) (sym (take_all count [] (omega arith)));
    }

    pub no_tree_told : (old new : Option (List ℕ)) → Appends old new (as_line (codes "trees " ++ decimal 0)) → Replied (TreesReply (reading g r) count) (reading g r) old new
    no_tree_told old new appends = record { reply = empty; is = no_tree; after_is = refl; appends = subst (Appends old new) (sym (append-nil (as_line (codes "trees " ++ decimal 0)))) appends }

    pub no_tree_broken : (old new : Option (List ℕ)) → AppendsPrefix old new (as_line (codes "trees " ++ decimal 0)) → BreaksOff (TreesReply (reading g r) count) old new
    no_tree_broken old new part = Within empty no_tree (subst (AppendsPrefix old new) (sym (append-nil (as_line (codes "trees " ++ decimal 0)))) part)
