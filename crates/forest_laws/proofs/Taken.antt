-- The first lists of steps are those of the first derivations.
use Rattle.std.proofs.Common.{◌≡◌, ℕ, zero, suc, ◌≤◌, List, [], ◌∷◌, ◌++◌, length, map, inl, inr, Option, Some, None, refl, sym, ap, ◌∙◌, subst}
use Rattle.std.specs.Prelude.{slice_get}
use Rattle.std.proofs.lemmas.List.{map-append, append-nil}
use Rattle.finite_sets.proofs.Members.{contains_from, among_left, Among}
use Rattle.finite_sets.proofs.Lists.{map_empty}
use Rattle.grammar_model.specs.Trees.{Tree, Node}
use Rattle.grammar_model.specs.Steps.{Step, steps_of}
use Rattle.recognizer_model.specs.Flat.{lhs_of}
use Rattle.recognizer_model.specs.FlatForm.{tree_of}
use Rattle.recognizer_model.specs.FlatDerives.{Derives}
use Rattle.recognizer_model.specs.Links.{choices}
use Rattle.forest_model.specs.Forest.{Forest, IsForest, IsRoot, edges_of, top_of}
use Rattle.forest_model.specs.Listing.{IsListing}
use Rattle.forest_laws.specs.Lists.{Lists, roots_by, rule_of}
use Rattle.forest_laws.specs.Laws.{AreAllLists}
use Rattle.forest_laws.specs.Written.{steps_written}
use Rattle.forest_laws.specs.Taken.{AreTaken, PrefixesAreTaken}
use Rattle.forest_laws.proofs.Reading
use Rattle.forest_laws.proofs.Exact
use Rattle.forest_laws.proofs.Exact.{root_kept, in_kept}
use Rattle.forest_laws.proofs.One.{only_one}
use Rattle.forest_laws.proofs.Written.{steps_are_written}
use Rattle.forest_laws.proofs.Few.{steps_are_few}

record IsSplitAt {X Y : Type 0} (h : X → Y) (xs : List X) (ys zs : List Y) : Type 0 where
  first : List X
  second : List X
  both : xs ≡ first ++ second
  first_is : map h first ≡ ys
  second_is : map h second ≡ zs

split_map : {X Y : Type 0} (h : X → Y) (xs : List X) (ys zs : List Y) → map h xs ≡ ys ++ zs → IsSplitAt h xs ys zs
split_map h xs [] zs e = record { first = []; second = xs; both = refl; first_is = refl; second_is = e }
split_map h [] (y ∷ ys) zs e = cc
split_map h (x ∷ xs) (y ∷ ys) zs e =
    let head : h x ≡ y = cc in
    let tail : map h xs ≡ ys ++ zs = cc in
    let s = split_map h xs ys zs tail in
    let same = s.first_is in
    record { first = x ∷ s.first; second = s.second; both = ap (λ l. x ∷ l) s.both; first_is = λ i. head i ∷ same i; second_is = s.second_is }

each_written : (out : List Step → List Step) (tree : Tree → Tree) (ts : List Tree) → ((t : Tree) → Among t ts → out (steps_of t) ≡ steps_of (tree t)) → map out (map steps_of ts) ≡ map steps_of (map tree ts)
each_written out tree [] e = refl
each_written out tree (t ∷ ts) e =
    let a = e t (inl refl) in
    let b = each_written out tree ts (λ u m. e u (inr m)) in
    λ i. a i ∷ b i

each_few : (tree : Tree → Tree) (ts : List Tree) → ((t : Tree) → Among t ts → length (steps_of t) ≤ suc (choices (tree t))) →
    (k : ℕ) (flat : List Step) (t : Tree) → slice_get (map steps_of ts) k ≡ Some flat → slice_get (map tree ts) k ≡ Some t → length flat ≤ suc (choices t)
each_few tree [] e k flat t a b = cc
each_few tree (u ∷ ts) e zero flat t a b =
    let flat_is : steps_of u ≡ flat = cc in
    let tree_is : tree u ≡ t = cc in
    subst (λ x. length x ≤ suc (choices t)) flat_is (subst (λ x. length (steps_of u) ≤ suc (choices x)) tree_is (e u (inl refl)))
each_few tree (u ∷ ts) e (suc k) flat t a b = each_few tree ts (λ v m. e v (inr m)) k flat t a b

module _ (f : Forest) (lists : Lists) (is : IsForest f) (all : AreAllLists f lists) where
  roots_same : (root : Option ℕ) → IsRoot f root → roots_by f lists root ≡ roots_by f (Exact.lists f is) root
  roots_same None h = refl
  roots_same (Some n) (lt, (node, e, same)) = ap (map (λ cs. Node (rule_of (slice_get f.nodes n)) cs 0 f.place)) (only_one f is lists all.equal n node e)

  derived : (t : Tree) → Among t (roots_by f lists f.root) → Derives f.flat (edges_of f) (lhs_of f.flat (top_of f)) 0 f.place t
  derived t m =
      let here = subst (Among t) (roots_same f.root is.root ∙ root_kept f is f.root is.root) m in
      Reading.back f is.derived (lhs_of f.flat (top_of f)) 0 f.place t ((in_kept f is (lhs_of f.flat (top_of f)) 0 f.place t).0 (contains_from _ t here)).0

  pub taken_are : (taken rest : List (List Step)) → map steps_of (roots_by f lists f.root) ≡ taken ++ rest → AreTaken f taken rest
  taken_are taken rest e =
      let s = split_map steps_of (roots_by f lists f.root) taken rest e in
      let listing : IsListing f (map (tree_of f.written f.flat) s.first ++ map (tree_of f.written f.flat) s.second) =
      subst (IsListing f) (ap (map (tree_of f.written f.flat)) s.both ∙ map-append (tree_of f.written f.flat) s.first s.second) all.listing in
      record {
        given = map (tree_of f.written f.flat) s.first;
        first = record { rest = map (tree_of f.written f.flat) s.second; listing = listing };
        steps = ap (map (steps_written f.written f.flat [])) (sym s.first_is)
            ∙ each_written (steps_written f.written f.flat []) (tree_of f.written f.flat) s.first
            (λ t m. steps_are_written f is.derived t (derived t (subst (Among t) (sym s.both) (among_left t s.first s.second m))));
        few = λ k flat tree at there.
            each_few (tree_of f.written f.flat) s.first (λ t m. steps_are_few f is.derived t (derived t (subst (Among t) (sym s.both) (among_left t s.first s.second m))))
            k flat tree (subst (λ l. slice_get l k ≡ Some flat) (sym s.first_is) at) there;
        all = λ none. (let gone = map_empty steps_of s.second (s.second_is ∙ none) in
            subst (IsListing f) (ap (λ l. map (tree_of f.written f.flat) s.first ++ map (tree_of f.written f.flat) l) gone ∙ append-nil (map (tree_of f.written f.flat) s.first)) listing);
      }

pub prefixes_are_taken : PrefixesAreTaken
prefixes_are_taken f lists taken rest is all e = taken_are f lists is all taken rest e
