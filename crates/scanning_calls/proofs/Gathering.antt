-- What is kept while derivations are given one after another.
use Rattle.std.proofs.Common.{◌≡◌, ℕ, zero, suc, ◌+◌, ◌<◌, ◌≤◌, Bool, true, false, List, [], ◌∷◌, ◌++◌, Some, length, map, take, drop, refl, sym, ap, ◌∙◌, subst, arith}
use Rattle.std.specs.Prelude.{IfSome}
use Rattle.std.proofs.lemmas.Bool.{both_ways}
use Rattle.std.proofs.lemmas.List.{append_assoc, length_push, length-append, map_push, drop_at, take_all, take_at, drop_all}
use Rattle.grammar_model.specs.Trees.{Tree}
use Rattle.grammar_model.specs.Steps.{Step, steps_of}
use Rattle.grammar_core.specs.Steps.{step_of}
use Rattle.forest_model.specs.Forest.{Forest}
use Rattle.forest_model.specs.Listing.{IsListing}
use Rattle.tree_iter.specs.Iteration.{Iteration, AreGiven, IsAnswer}
use Rattle.scanning_calls.specs.declared.kept.Kept.{Kept}
use Rattle.scanning_calls.specs.Kept.{AreSomeOf}

-- ONE AFTER ANOTHER

-- so many are given
abbrev pub AreSoMany : Iteration → ℕ → Type 0
AreSoMany it n = (given : List Tree) × AreGiven it given × (length given ≡ n)

pub one_given : (it new : Iteration) (n : ℕ) → AreSoMany it n → (more : Bool) → more ≡ true → ((g : List Tree) → AreGiven it g → IsAnswer new g more) → AreSoMany new (n + 1)
one_given it new n (given, are, many) more found answer =
    let next = subst (IsAnswer new given) found (answer given are) in
    (given ++ next.0 ∷ [], next.1, length_push given next.0 ∙ ap (λ m. m + 1) many)

-- after those that were given, so many more are given, and kept
pub record AreKept (given : List Tree) (it : Iteration) (n : ℕ) (rows : List (List Step)) : Type 0 where
  pub kept : List Tree
  pub are : AreGiven it (given ++ kept)
  pub many : length kept ≡ n
  pub rows_are : rows ≡ map steps_of kept

pub one_kept : (given : List Tree) (it new : Iteration) (n : ℕ) (rows both : List (List Step)) (row : List Step) → AreKept given it n rows → (more : Bool) → more ≡ true →
    ((g : List Tree) → AreGiven it g → IsAnswer new g more) → IfSome new.current (λ current. row ≡ current) → both ≡ rows ++ row ∷ [] → AreKept given new (n + 1) both
one_kept given it new n rows both row k more found answer row_is are_both =
    let next = subst (IsAnswer new (given ++ k.kept)) found (answer (given ++ k.kept) k.are) in let tree = next.0 in
    let same : row ≡ steps_of tree = subst (λ o. IfSome o (λ current. row ≡ current)) next.2 row_is in
    record {
      kept = k.kept ++ tree ∷ [];
      are = subst (AreGiven new) (append_assoc given k.kept (tree ∷ [])) next.1;
      many = length_push k.kept tree ∙ ap (λ m. m + 1) k.many;
      rows_are = are_both ∙ (ap (λ l. l ++ row ∷ []) k.rows_are ∙ (ap (λ x. map steps_of k.kept ++ x ∷ []) same ∙ sym (map_push steps_of k.kept tree)));
    }

-- THE END

pub take_none : (n : ℕ) (l : List Tree) → l ≡ [] → take n l ≡ []
take_none zero l e = refl
take_none (suc n) l e = ap (take (suc n)) e

module _ (f : Forest) (new : Iteration) (same : new.forest ≡ f) (given : List Tree) (most : ℕ) (p : Kept) where
  abbrev rows : List (List Step)
  rows = map (λ steps. map step_of steps.items) p.derivations.items

  -- those that are kept are the last
  pub no_more : (it : Iteration) (n : ℕ) → AreKept given it n rows → n ≤ most → p.more ≡ false → ((g : List Tree) → AreGiven it g → IsAnswer new g false) → AreSomeOf f (length given) most p
  no_more it n k few none answer =
      let long = length-append given k.kept in
      record {
        trees = given ++ k.kept;
        listing = subst (λ (h : Forest). IsListing h (given ++ k.kept)) same (answer (given ++ k.kept) k.are);
        kept = k.rows_are ∙ ap (map steps_of) (sym (ap (take most) (drop_at given k.kept (length given) refl) ∙ take_all most k.kept (omega (arith, k.many, few))));
        more = (λ is. absurd (both_ways p.more none is), λ lt. absurd (omega (arith, lt, long, k.many, few)));
      }

  -- there is one more
  pub some_more : (it : Iteration) → AreKept given it most rows → p.more ≡ true → ((g : List Tree) → AreGiven it g → IsAnswer new g true) → AreSomeOf f (length given) most p
  some_more it k told answer =
      let next = answer (given ++ k.kept) k.are in let rest = next.1.first.rest in
      let trees = given ++ k.kept ++ next.0 ∷ [] ++ rest in
      let behind : trees ≡ given ++ (k.kept ++ next.0 ∷ rest) = append_assoc (given ++ k.kept) (next.0 ∷ []) rest ∙ append_assoc given k.kept (next.0 ∷ rest) in
      let long = ap length behind ∙ length-append given (k.kept ++ next.0 ∷ rest) in let longer = length-append k.kept (next.0 ∷ rest) in
      record {
        trees = trees;
        listing = subst (λ (h : Forest). IsListing h trees) same next.1.first.listing;
        kept = k.rows_are ∙ ap (map steps_of) (sym (ap (λ l. take most (drop (length given) l)) behind ∙
            (ap (take most) (drop_at given (k.kept ++ next.0 ∷ rest) (length given) refl) ∙ take_at k.kept (next.0 ∷ rest) most k.many)));
        more = (λ is. omega (arith, long, longer, k.many), λ lt. told);
      }

  pub ended : (it : Iteration) (n : ℕ) → AreKept given it n rows → n ≡ most → (more : Bool) → p.more ≡ more → ((g : List Tree) → AreGiven it g → IsAnswer new g more) → AreSomeOf f (length given) most p
  ended it n k all true told answer = some_more it (subst (λ m. AreKept given it m rows) all k) told answer
  ended it n k all false told answer = no_more it n k (omega (arith, all)) told answer

-- there are not so many
pub too_few : (f : Forest) (new : Iteration) → new.forest ≡ f → (skip most : ℕ) (p : Kept) → (trees : List Tree) × IsListing new.forest trees × (length trees < skip) →
    map (λ steps. map step_of steps.items) p.derivations.items ≡ [] → p.more ≡ false → AreSomeOf f skip most p
too_few f new same skip most p (trees, all, few) empty none = record {
  trees = trees;
  listing = subst (λ (h : Forest). IsListing h trees) same all;
  kept = empty ∙ sym (ap (map steps_of) (take_none most (drop skip trees) (drop_all skip trees (omega (arith, few)))));
  more = (λ is. absurd (both_ways p.more none is), λ lt. absurd (omega (arith, lt, few)));
}
