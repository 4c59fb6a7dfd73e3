-- How many derivations a forest has, how many steps they take, and what the forest's numbers are those of.
use Rattle.std.proofs.Common.{◌≡◌, ℕ, ◌+◌, ◌≤◌, List, [], ◌∷◌, ◌++◌, true, false, Option, Some, length, length-append, take, refl, sym, ap, subst, ◌∙◌, arith, slice_get}
use Rattle.std.specs.List.{sum_by}
use Rattle.std.proofs.lemmas.List.{take_all, take_at}
use Rattle.std.proofs.lemmas.List.Sums.{sum_by_push}
use Rattle.std.proofs.lemmas.Option.{slice_get-get_or}
use Rattle.grammar_model.specs.Grammar.{Grammar}
use Rattle.grammar_model.specs.Trees.{Tree}
use Rattle.grammar_model.specs.Derives.{Held}
use Rattle.grammar_model.specs.declared.Edge.{Edge}
use Rattle.grammar_model.specs.declared.Ranking.{Ranking}
use Rattle.grammar_core.specs.declared.steps.Span.{Span}
use Rattle.recognizer_model.specs.Chosen.{allowed_by}
use Rattle.recognizer_model.specs.FlatForm.{FlatEdges}
use Rattle.recognizer_model.specs.Links.{choices}
use Rattle.recognizer_model.specs.Nodes.{IsStats}
use Rattle.language_model.specs.Building.{Built}
use Rattle.reading_model.specs.Reading.{Piece, edges_of, earleme_after}
use Rattle.forest_model.specs.Forest as forest
use Rattle.forest_model.specs.Forest.{Forest, IsForest, top_of}
use Rattle.forest_model.specs.Listing.{IsListing}
use Rattle.run_model.specs.Listing.{first_of}
use Rattle.run_model.specs.Numbers.{HasNumbers}
use Rattle.tree_iter.specs.Iteration.{Iteration, AreGiven, AreFew}
use Rattle.bocage.specs.declared.forest.Stats.{Stats}
use Rattle.value_lines.specs.Lines.{IsForestOf}
use Rattle.value_lines.specs.Counts.{numbers_of}
use Rattle.value_lines.specs.Writing.{IsWithin}
use Rattle.value_lines.proofs.Texts.{one_list, all_of_first}

module _ (f : Forest) where
  -- those that were given are the first of all
  abbrev IsBounded : Option ℕ → (before after : ℕ) → Type 0
  IsBounded first before after = (trees : List Tree) → IsListing f trees → after ≤ before + sum_by choices (first_of first trees)

  bounded_by : (first : Option ℕ) (given all : List Tree) (before after : ℕ) → IsListing f all → first_of first all ≡ given → after ≤ before + sum_by choices given → IsBounded first before after
  bounded_by first given all before after l is few trees q =
      subst (λ (ts : List Tree). after ≤ before + sum_by choices ts) (sym is ∙ ap (first_of first) (one_list f all trees l q)) few

-- how many of a list there are, or of the first so many
module _ (f : Forest) (most : ℕ) where
  pub counts_all : (given trees : List Tree) (n : ℕ) → IsListing f given → IsListing f trees → length given ≡ n → n ≤ most → n ≡ length (take most trees)
  counts_all given trees n p q is le =
      sym is ∙ ap length (sym (take_all most given (omega (arith, is, le)))) ∙ ap (λ (ts : List Tree). length (take most ts)) (one_list f given trees p q)

  pub counts_most : (given rest trees : List Tree) → IsListing f (given ++ rest) → IsListing f trees → length given ≡ most → most ≡ length (take most trees)
  counts_most given rest trees p q is =
      sym is ∙ ap length (sym (take_before given rest)) ∙ ap (λ n. length (take n (given ++ rest))) is ∙ ap (λ (ts : List Tree). length (take most ts)) (one_list f (given ++ rest) trees p q)
    where
      take_before : (xs ys : List Tree) → take (length xs) (xs ++ ys) ≡ xs
      take_before [] ys = refl
      take_before (x ∷ xs) ys = ap (λ (l : List Tree). x ∷ l) (take_before xs ys)

-- STEPS

-- so many were given, with no more steps than they have choices
pub record HasCounted (it : Iteration) (count before after : ℕ) : Type 0 where
  pub given : List Tree
  pub are : AreGiven it given
  pub count_is : length given ≡ count
  pub few : after ≤ before + sum_by choices given

pub none_counted : (it : Iteration) (before : ℕ) → AreGiven it [] → HasCounted it 0 before before
none_counted it before are = record { given = []; are = are; count_is = refl; few = omega arith }

pub one_more_counted : (it new : Iteration) (count before middle after : ℕ) (w : HasCounted it count before middle) (tree : Tree) → AreGiven new (w.given ++ tree ∷ []) → AreFew new w.given true middle after →
    HasCounted new (count + 1) before after
one_more_counted it new count before middle after w tree are few = record {
  given = w.given ++ tree ∷ [];
  are = are;
  count_is = let n = length-append w.given (tree ∷ []) in let is = w.count_is in omega (arith, n, is);
  few = let s = sum_by_push choices w.given tree in let old = w.few in let new = few tree are in omega (arith, s, old, new);
}

-- all were given
pub all_counted : (f : Forest) (first : Option ℕ) (it new : Iteration) → new.forest ≡ f → (count before middle after : ℕ) (w : HasCounted it count before middle) → IsListing new.forest w.given →
    AreFew new w.given false middle after → IsWithin first count → IsBounded f first before after
all_counted f first it new same count before middle after w l few within =
    bounded_by f first w.given w.given before after (subst (λ (g : Forest). IsListing g w.given) same l) (all_of_first first w.given (subst (IsWithin first) (sym w.count_is) within))
    (subst (λ n. n ≤ before + sum_by choices w.given) (sym few) w.few)

-- so many as were asked for
pub enough_counted : (f : Forest) (first : Option ℕ) (it : Iteration) → it.forest ≡ f → (count before after : ℕ) → HasCounted it count before after → first ≡ Some count → IsBounded f first before after
enough_counted f first it same count before after w is =
    bounded_by f first w.given (w.given ++ w.are.first.rest) before after (subst (λ (g : Forest). IsListing g (w.given ++ w.are.first.rest)) same w.are.first.listing)
    (ap (λ o. first_of o (w.given ++ w.are.first.rest)) is ∙ take_at w.given w.are.first.rest count w.count_is) w.few

-- NUMBERS

-- the numbers of a forest are those of its reading
pub has_numbers : (b : Built) (cs : List ℕ) (spans : List Span) (f : Forest) (pieces : List Piece) → IsForestOf b cs spans f pieces → (ranking : Ranking) → f.ranking ≡ ranking → IsForest f →
    (s : Stats) → IsStats f.flat (forest.edges_of f) (forest.allowed_of f) (top_of f) f.place s.tokens s.kept s.nodes s.expanded → HasNumbers b ranking pieces (numbers_of s)
has_numbers b cs spans f pieces of ranking ranked is s stats =
    let lt = is.derived.start in
    let told = λ (g : Grammar) (r : Ranking) (es : List Edge) (n : ℕ). IsStats f.flat (FlatEdges f.flat (Held es)) (allowed_by g r f.flat (FlatEdges f.flat (Held es))) (top_of f) n s.tokens s.kept s.nodes s.expanded in record {
      flat = f.flat;
      is = is.derived.flat;
      of = of.flat.made;
      top = top_of f;
      top_is = subst (λ n. slice_get f.flat.tops n ≡ Some (top_of f)) of.start (slice_get-get_or f.flat.tops f.start 0 lt);
      numbers = subst (λ (g : Grammar). told g ranking (edges_of pieces) (earleme_after pieces)) of.written (subst (λ (r : Ranking). told f.written r (edges_of pieces) (earleme_after pieces)) ranked
          (subst (λ (es : List Edge). told f.written f.ranking es (earleme_after pieces)) of.edges (subst (told f.written f.ranking f.edges) of.place stats)));
    }
