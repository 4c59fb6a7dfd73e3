-- The derivations that were given, when one more is.
use Rattle.std.proofs.Common.{◌≡◌, inl, inr, ℕ, zero, suc, ◌+◌, ◌≤◌, List, [], ◌∷◌, ◌++◌, length, map, true, false, Some, refl, sym, ap, ◌∙◌, subst, append_assoc, length-append, arith}
use Rattle.grammar_model.specs.Grammar.{Slot, slot_of}
use Rattle.grammar_model.specs.Trees.{Tree}
use Rattle.grammar_model.specs.Steps.{Step, steps_of}
use Rattle.grammar_model.specs.Order.{rank_order, tree_cmp}
use Rattle.grammar_model.proofs.ChosenOnce.{chosen_unique}
use Rattle.grammar_model.proofs.Sorting.{ranks_order}
use Rattle.grammar_model.proofs.Total.{derivations_ordered}
use Rattle.grammar_model.proofs.Steps.{steps_tell}
use Rattle.grammar_core.specs.Steps.{step_of}
use Rattle.std.specs.List.{AllByRecursion}
use Rattle.std.specs.List.Sorted.{IsStrictlySortedBy}
use Rattle.std.specs.declared.cmp.Ordering.{Ordering}
use Rattle.std.specs.declared.cmp.Ordering.TheVariants.{Less}
use Rattle.grammar_model.specs.Derives.{Held}
use Rattle.std.specs.Prelude.{slice_get, slice_index_or}
use Rattle.std.proofs.lemmas.List.{append-nil, map-append, length-map}
use Rattle.finite_sets.proofs.Lists.{get_last, get_among}
use Rattle.recognizer_model.specs.Links.{choices}
use Rattle.forest_model.specs.Forest.{Forest, IsForest}
use Rattle.forest_model.specs.Listing.{IsListing, AreFirst}
use Rattle.forest_laws.specs.Lists.{Lists, roots_by}
use Rattle.forest_laws.specs.Laws.{AreAllLists}
use Rattle.forest_laws.specs.Written.{steps_written}
use Rattle.forest_laws.proofs.Taken.{prefixes_are_taken}
use Rattle.tree_iter.specs.declared.walk.Walk.{Walk}
use Rattle.tree_iter.specs.declared.walk.Place.{Place}
use Rattle.tree_iter.specs.declared.walk.Place.TheVariants.{Walking, Between}
use Rattle.tree_iter.specs.declared.iter.Current.{Current}
use Rattle.tree_iter.specs.declared.iter.Current.TheVariants.{Begun as NotBegun, Walked, Copied, Ended}
use Rattle.finite_sets.proofs.Members.{Among, among_from, contains_from}
use Rattle.forest_laws.proofs.Guide.{choices_per_step}
use Rattle.tree_iter.specs.Iteration.{Iteration, EndsAt, AreBefore, AreGiven, IsAnswer, AreFew, HasNone}
use Rattle.tree_iter.specs.Leads.{HasNoFlat}
use Rattle.grammar_core.specs.declared.steps.TreeStep.{TreeStep}
use Rattle.tree_iter.specs.Walk.{AreFewLooks, Remain, Advances, Reaches, current_of, has_ended, ShowsLast, AreTakenBy, ComesTo, IsUnderWay}
use Rattle.tree_iter.proofs.Trails.{same_ends}

same_prefixes : {X : Type 0} (xs ys us vs : List X) → xs ++ us ≡ ys ++ vs → length xs ≡ length ys → xs ≡ ys
same_prefixes [] [] us vs e l = refl
same_prefixes [] (y ∷ ys) us vs e l = absurd (omega arith)
same_prefixes (x ∷ xs) [] us vs e l = absurd (omega arith)
same_prefixes (x ∷ xs) (y ∷ ys) us vs e l =
    let tails : xs ++ us ≡ ys ++ vs = cc in
    let heads : x ≡ y = cc in
    let r = same_prefixes xs ys us vs tails (omega arith) in
    λ i. heads i ∷ r i

record IsEnded {X : Type 0} (xs : List X) : Type 0 where
  prefix : List X
  last : X
  is : xs ≡ prefix ++ last ∷ []

ended : {X : Type 0} (n : ℕ) (xs : List X) → length xs ≡ suc n → IsEnded xs
ended n [] e = absurd (omega arith)
ended zero (x ∷ []) e = record { prefix = []; last = x; is = refl }
ended zero (x ∷ y ∷ xs) e = absurd (omega arith)
ended (suc n) (x ∷ xs) e =
    let r = ended n xs (omega arith) in
    record { prefix = x ∷ r.prefix; last = r.last; is = ap (λ l. x ∷ l) r.is }

listings_same : (f : Forest) (ts us : List Tree) → IsListing f ts → IsListing f us → ts ≡ us
listings_same f ts us a b = chosen_unique f.written (Held f.edges) f.ranking (slot_of (slice_index_or f.written.starts f.start 0)) 0 f.place ts us a b

pub prefixes_same : (f : Forest) (a b : List Tree) → AreFirst f a → AreFirst f b → length a ≡ length b → a ≡ b
prefixes_same f a b g h l = same_prefixes a b g.rest h.rest (listings_same f (a ++ g.rest) (b ++ h.rest) g.listing h.listing) l

-- after those given before, this one is next
record IsNext (f : Forest) (given : List Tree) (first : List Step) : Type 0 where
  tree : Tree
  are_first : AreFirst f (given ++ tree ∷ [])
  steps : steps_written f.written f.flat [] first ≡ steps_of tree
  few : length first ≤ suc (choices tree)

next_is : (f : Forest) (lists : Lists) → IsForest f → AreAllLists f lists → (taken later : List (List Step)) (first : List Step) → map steps_of (roots_by f lists f.root) ≡ taken ++ first ∷ later →
    (given : List Tree) → AreFirst f given → length given ≡ length taken → IsNext f given first
next_is f lists is all taken later first e given g l =
    let W : List Step → List Step = steps_written f.written f.flat [] in
    let t = prefixes_are_taken f lists (taken ++ first ∷ []) later is all (e ∙ sym (append_assoc taken (first ∷ []) later)) in
    let sizes : length t.given ≡ suc (length taken) =
    sym (length-map t.given steps_of) ∙ ap (λ (x : List (List Step)). length x) (sym t.steps) ∙ length-map (taken ++ first ∷ []) W ∙ length-append taken (first ∷ []) ∙ (let n : length taken + 1 ≡ suc (length taken) = omega arith in n) in
    let r = ended (length taken) t.given sizes in
    let longer : length t.given ≡ length (r.prefix ++ r.last ∷ []) = ap (λ (x : List Tree). length x) r.is in
    let parts = length-append r.prefix (r.last ∷ []) in
    let whole : AreFirst f (r.prefix ++ r.last ∷ []) = subst (AreFirst f) r.is t.first in
    let prefix : AreFirst f r.prefix = record { rest = r.last ∷ whole.rest; listing = subst (IsListing f) (append_assoc r.prefix (r.last ∷ []) whole.rest) whole.listing } in
    let count : length given ≡ length r.prefix = omega arith in
    let same : r.prefix ≡ given = sym (prefixes_same f given r.prefix g prefix count) in
    let ends = same_ends (map W taken) (map steps_of r.prefix) (W first) (steps_of r.last)
    (sym (map-append W taken (first ∷ [])) ∙ t.steps ∙ ap (map steps_of) r.is ∙ map-append steps_of r.prefix (r.last ∷ [])) in
    let few = t.few (length taken) first r.last (get_last taken first)
    (subst (λ l. slice_get l (length taken) ≡ Some r.last) (sym r.is) (subst (λ k. slice_get (r.prefix ++ r.last ∷ []) k ≡ Some r.last) (let at : length r.prefix ≡ length taken = omega arith in at) (get_last r.prefix r.last))) in
    record { tree = r.last; are_first = subst (λ g'. AreFirst f (g' ++ r.last ∷ [])) same whole; steps = ends.lasts; few = few }

all_given : (f : Forest) (lists : Lists) → IsForest f → AreAllLists f lists → (taken rest : List (List Step)) → map steps_of (roots_by f lists f.root) ≡ taken ++ rest → rest ≡ [] →
    (given : List Tree) → AreFirst f given → length given ≡ length taken → IsListing f given
all_given f lists is all taken rest e none given g l =
    let t = prefixes_are_taken f lists taken rest is all e in
    let W : List Step → List Step = steps_written f.written f.flat [] in
    let sizes : length t.given ≡ length taken = sym (length-map t.given steps_of) ∙ ap (λ (x : List (List Step)). length x) (sym t.steps) ∙ length-map taken W in
    subst (IsListing f) (prefixes_same f t.given given t.first g (sizes ∙ sym l)) (t.all none)

-- ---- how many were given

-- the part of a list up to an element, in which nothing stands twice
each_here : (P : Tree → Type 0) (c y : List Tree) (t : Tree) → AllByRecursion P (c ++ t ∷ y) → P t
each_here P [] y t all = all.0
each_here P (k ∷ c) y t all = each_here P c y t all.1

same_fronts : (R : Tree → Tree → Ordering) → ((t : Tree) → R t t ≡ Less → ⊥) → (b c x y : List Tree) (t : Tree) → IsStrictlySortedBy R (b ++ t ∷ x) → b ++ t ∷ x ≡ c ++ t ∷ y → b ≡ c
unfolding IsStrictlySortedBy
same_fronts R apart [] [] x y t s e = refl
same_fronts R apart [] (k ∷ c) x y t s e =
    let tails : x ≡ c ++ t ∷ y = cc in
    absurd (apart t (each_here (λ z. R t z ≡ Less) c y t (subst (λ l. AllByRecursion (λ z. R t z ≡ Less) l) tails s.0)))
same_fronts R apart (k ∷ b) [] x y t s e =
    let heads : k ≡ t = cc in
    absurd (apart t (subst (λ h. R h t ≡ Less) heads (each_here (λ z. R k z ≡ Less) b x t s.0)))
same_fronts R apart (k ∷ b) (l ∷ c) x y t s e =
    let heads : k ≡ l = cc in
    let tails : b ++ t ∷ x ≡ c ++ t ∷ y = cc in
    let r = same_fronts R apart b c x y t s.1 tails in
    λ i. heads i ∷ r i

-- two beginnings of the list with the same last derivation are one
same_up_to : (f : Forest) (b c : List Tree) (t u : Tree) → t ≡ u → AreFirst f (b ++ t ∷ []) → AreFirst f (c ++ u ∷ []) → b ≡ c
same_up_to f b c t u same g h =
    let R : Tree → Tree → Ordering = tree_cmp (rank_order f.written f.ranking) in
    let slot : Slot = slot_of (slice_index_or f.written.starts f.start 0) in
    let apart = (derivations_ordered f.written (Held f.edges) (rank_order f.written f.ranking) (ranks_order f.written f.ranking) slot 0 f.place).irreflexive in
    let x : (b ++ t ∷ []) ++ g.rest ≡ b ++ t ∷ g.rest = append_assoc b (t ∷ []) g.rest in
    let y : (c ++ u ∷ []) ++ h.rest ≡ c ++ t ∷ h.rest = append_assoc c (u ∷ []) h.rest ∙ ap (λ v. c ++ v ∷ h.rest) (sym same) in
    same_fronts (tree_cmp (rank_order f.written f.ranking)) apart b c g.rest h.rest t (subst (IsStrictlySortedBy (tree_cmp (rank_order f.written f.ranking))) x g.listing.sorted)
    (sym x ∙ listings_same f ((b ++ t ∷ []) ++ g.rest) ((c ++ u ∷ []) ++ h.rest) g.listing h.listing ∙ y)

module _ (f : Forest) (lists : Lists) (is : IsForest f) (all : AreAllLists f lists) (taken rest : List (List Step)) (e : map steps_of (roots_by f lists f.root) ≡ taken ++ rest) (given : List Tree) (g : AreFirst f given) where
  sizes : length (prefixes_are_taken f lists taken rest is all e).given ≡ length taken
  sizes =
      let t = prefixes_are_taken f lists taken rest is all e in
      sym (length-map t.given steps_of) ∙ ap (λ (x : List (List Step)). length x) (sym t.steps) ∙ length-map taken (steps_written f.written f.flat [])

  to_last : (steps : List TreeStep) → ShowsLast f steps taken → EndsAt given (map step_of steps) → length given ≡ length taken
  to_last steps shows at =
      let t = prefixes_are_taken f lists taken rest is all e in
      let W : List Step → List Step = steps_written f.written f.flat [] in
      let count = ap (λ (x : List (List Step)). length x) shows.is in
      let long = length-append shows.front (shows.last ∷ []) in
      let size = sizes in
      let r = ended (length shows.front) t.given (omega (arith, count, long, size)) in
      let ends = same_ends (map W shows.front) (map steps_of r.prefix) (W shows.last) (steps_of r.last)
      (sym (map-append W shows.front (shows.last ∷ [])) ∙ ap (map W) (sym shows.is) ∙ t.steps ∙ ap (map steps_of) r.is ∙ map-append steps_of r.prefix (r.last ∷ [])) in
      let same : at.last ≡ r.last = steps_tell at.last r.last (at.steps_are ∙ shows.shows ∙ ends.lasts) in
      let fronts = same_up_to f at.front r.prefix at.last r.last same (subst (AreFirst f) at.is g) (subst (AreFirst f) r.is t.first) in
      ap (λ (x : List Tree). length x) at.is ∙ length-append at.front (at.last ∷ []) ∙ ap (λ (x : List Tree). length x + 1) fronts
      ∙ sym (length-append r.prefix (r.last ∷ [])) ∙ ap (λ (x : List Tree). length x) (sym r.is) ∙ sizes

  pub given_count : (current : Current) (walked copied : List TreeStep) → AreTakenBy f current walked copied taken rest → AreBefore f (has_ended current) (current_of current walked copied) given → length given ≡ length taken
  given_count NotBegun walked copied none empty = ap (λ (x : List Tree). length x) empty ∙ ap (λ (x : List (List Step)). length x) (sym none)
  given_count Walked walked copied shows at = to_last walked shows at
  given_count Copied walked copied shows at = to_last copied shows at
  given_count Ended walked copied none listing =
      let t = prefixes_are_taken f lists taken rest is all e in
      ap (λ (x : List Tree). length x) (listings_same f given t.given listing (t.all none)) ∙ sizes

-- ---- the iterator

abbrev pub seen : Walk → Current → List TreeStep → Iteration
seen w current copy = record { forest = w.forest.now; ended = has_ended current; current = current_of current w.steps.items copy }

pub is_forest : (w : Walk) (rest : List (List Step)) (place : Place) → Remain place w rest → IsForest w.forest.now
is_forest w rest Walking h = h.is.forest
is_forest w rest Between h = h.is.forest

module _ (w : Walk) (place : Place) (current : Current) (old : List TreeStep) (u : IsUnderWay w place current old) where
  counted : (trees : List Tree) → AreGiven (seen w current old) trees → length trees ≡ length u.taken
  counted trees g = given_count w.forest.now u.lists (is_forest w u.rest place u.remain) u.all u.taken u.rest u.both trees g.first current w.steps.items old u.taken_by g.are_before

  module _ (n : Walk) (forest : n.forest ≡ w.forest) where
    same_forest : w.forest.now ≡ n.forest.now
    same_forest = ap (λ (x : _). x.now) (sym forest)

    -- one more was given
    pub under_way_more : Reaches n u.rest → (copy : List TreeStep) → IsUnderWay n Between Walked copy
    under_way_more r copy = record {
      lists = u.lists;
      all = subst (λ f. AreAllLists f u.lists) same_forest u.all;
      taken = u.taken ++ r.first ∷ [];
      rest = r.later;
      both = ap (λ (f : Forest). map steps_of (roots_by f u.lists f.root)) (sym same_forest) ∙ u.both ∙ ap (λ l. u.taken ++ l) r.rest_is ∙ sym (append_assoc u.taken (r.first ∷ []) r.later);
      taken_by = record { front = u.taken; last = r.first; is = refl; shows = r.shows };
      remain = r.behind;
    }

    next_one : (r : Reaches n u.rest) (trees : List Tree) → AreGiven (seen w current old) trees → IsNext w.forest.now trees r.first
    next_one r trees g = next_is w.forest.now u.lists (is_forest w u.rest place u.remain) u.all u.taken r.later r.first (u.both ∙ ap (λ l. u.taken ++ l) r.rest_is) trees g.first (counted trees g)

    pub answer_more : Reaches n u.rest → (copy : List TreeStep) (trees : List Tree) → AreGiven (seen w current old) trees → IsAnswer (seen n Walked copy) trees true
    answer_more r copy trees g =
        let next = next_one r trees g in
        let steps : map step_of n.steps.items ≡ steps_of next.tree = r.shows ∙ ap (λ (f : Forest). steps_written f.written f.flat [] r.first) (sym same_forest) ∙ next.steps in (
          next.tree,
          record {
            first = subst (λ f. AreFirst f (trees ++ next.tree ∷ [])) same_forest next.are_first;
            are_before = record { front = trees; last = next.tree; is = refl; steps_are = sym steps };
          },
          ap Some steps,
        )

    pub few_more : (r : Reaches n u.rest) (copy : List TreeStep) (before after : ℕ) → AreFewLooks n true before after → (trees : List Tree) → AreGiven (seen w current old) trees → AreFew (seen n Walked copy) trees true before after
    few_more r copy before after few trees g = λ tree h.
        let next = next_one r trees g in
        let held : AreFirst w.forest.now (trees ++ tree ∷ []) = subst (λ f. AreFirst f (trees ++ tree ∷ [])) (sym same_forest) h.first in
        let one = same_ends trees trees tree next.tree (prefixes_same w.forest.now (trees ++ tree ∷ []) (trees ++ next.tree ∷ []) held next.are_first (length-append trees (tree ∷ []) ∙ sym (length-append trees (next.tree ∷ [])))) in
        let bound : length r.first ≤ suc (choices tree) = subst (λ t. length r.first ≤ suc (choices t)) (sym one.lasts) next.few in
        let counts = r.counts in
        omega arith

    -- the walk went on, and none was given
    pub under_way_on : (after : Place) → Remain after n u.rest → (now : Current) (copy : List TreeStep) → AreTakenBy w.forest.now now n.steps.items copy u.taken u.rest → IsUnderWay n after now copy
    under_way_on after h now copy taken_by = record {
      lists = u.lists;
      all = subst (λ f. AreAllLists f u.lists) same_forest u.all;
      taken = u.taken;
      rest = u.rest;
      both = ap (λ (f : Forest). map steps_of (roots_by f u.lists f.root)) (sym same_forest) ∙ u.both;
      taken_by = subst (λ f. AreTakenBy f now n.steps.items copy u.taken u.rest) same_forest taken_by;
      remain = h;
    }

    pub answer_none : u.rest ≡ [] → (copy : List TreeStep) (trees : List Tree) → AreGiven (seen w current old) trees → IsAnswer (seen n Ended copy) trees false
    answer_none none copy trees g =
        subst (λ f. IsListing f trees) same_forest (all_given w.forest.now u.lists (is_forest w u.rest place u.remain) u.all u.taken u.rest u.both none trees g.first (counted trees g))

pub remain_none : (n : Walk) (after : Place) (rest : List (List Step)) → Advances after n rest false → Remain after n rest
remain_none n after rest (at, behind, none) = subst (λ p. Remain p n rest) (sym at) behind

-- ---- the iterator at a derivation that a walk was led to

-- what was given, where the iterator stands at a derivation
pub given_past : (w : Walk) (copy : List TreeStep) → IsUnderWay w Between Walked copy → (given : List Tree) × AreGiven (seen w Walked copy) given
given_past w copy u =
    let f : Forest = w.forest.now in
    let t = prefixes_are_taken f u.lists u.taken u.rest (is_forest w u.rest Between u.remain) u.all u.both in
    let W : List Step → List Step = steps_written f.written f.flat [] in
    let shows : ShowsLast f w.steps.items u.taken = u.taken_by in
    let size : length t.given ≡ length u.taken = sym (length-map t.given steps_of) ∙ ap (λ (x : List (List Step)). length x) (sym t.steps) ∙ length-map u.taken W in
    let count = ap (λ (x : List (List Step)). length x) shows.is in
    let long = length-append shows.front (shows.last ∷ []) in
    let r = ended (length shows.front) t.given (omega (arith, count, long, size)) in
    let ends = same_ends (map W shows.front) (map steps_of r.prefix) (W shows.last) (steps_of r.last)
    (sym (map-append W shows.front (shows.last ∷ [])) ∙ ap (map W) (sym shows.is) ∙ t.steps ∙ ap (map steps_of) r.is ∙ map-append steps_of r.prefix (r.last ∷ [])) in (
      t.given,
      record { first = t.first; are_before = record { front = r.prefix; last = r.last; is = r.is; steps_are = sym (shows.shows ∙ ends.lasts) } },
    )

-- the derivations before it were skipped, and it is the last that was taken
pub under_way_past : (w n : Walk) (old copy : List TreeStep) (u : IsUnderWay w Walking NotBegun old) → n.forest ≡ w.forest → ComesTo n u.rest → IsUnderWay n Between Walked copy
under_way_past w n old copy u forest c =
    let same : w.forest.now ≡ n.forest.now = ap (λ (x : _). x.now) (sym forest) in
    let none : u.taken ≡ [] = u.taken_by in
    record {
      lists = u.lists;
      all = subst (λ f. AreAllLists f u.lists) same u.all;
      taken = c.skipped ++ c.reaches.first ∷ [];
      rest = c.reaches.later;
      both = ap (λ (f : Forest). map steps_of (roots_by f u.lists f.root)) (sym same) ∙ u.both ∙ ap (λ l. l ++ u.rest) none ∙ c.rest_is ∙ ap (λ l. c.skipped ++ l) c.reaches.rest_is
          ∙ sym (append_assoc c.skipped (c.reaches.first ∷ []) c.reaches.later);
      taken_by = record { front = c.skipped; last = c.reaches.first; is = refl; shows = c.reaches.shows };
      remain = c.reaches.behind;
    }

-- the steps of no flat derivation are written as these; each that is has few of its own
pub none_has : (w : Walk) (old : List TreeStep) (u : IsUnderWay w Walking NotBegun old) (steps : List Step) → HasNoFlat w.forest.now u.rest steps → HasNone w.forest.now steps
none_has w old u steps none trees listing tree held =
    let f : Forest = w.forest.now in
    let W : List Step → List Step = steps_written f.written f.flat [] in
    let empty : u.taken ≡ [] = u.taken_by in
    let t = prefixes_are_taken f u.lists u.rest [] (is_forest w u.rest Walking u.remain) u.all (u.both ∙ ap (λ l. l ++ u.rest) empty ∙ sym (append-nil u.rest)) in
    let same : trees ≡ t.given = listings_same f trees t.given listing (t.all refl) in
    let (k, there) = got_among t.given tree (subst (Among tree) same (among_from trees tree held)) in
    let (flat, flat_at, is) = get_mapped W steps_of u.rest t.given t.steps k tree there in
    λ e. none flat (contains_from u.rest flat (get_among u.rest k flat flat_at))
    (let few = t.few k flat tree flat_at there in let per = choices_per_step tree in let size : length (steps_of tree) ≡ length steps = ap (λ (l : List Step). length l) e in omega (arith, few, per, size)) (is ∙ e)
  where
    got_among : {X : Type 0} (xs : List X) (x : X) → Among x xs → (k : ℕ) × (slice_get xs k ≡ Some x)
    got_among [] x m = absurd m
    got_among (y ∷ ys) x (inl e) = (0, ap Some e)
    got_among (y ∷ ys) x (inr m) = let r = got_among ys x m in (suc r.0, r.1)

    get_mapped : {X Y Z : Type 0} (g : X → Z) (h : Y → Z) (xs : List X) (ys : List Y) → map g xs ≡ map h ys → (k : ℕ) (y : Y) → slice_get ys k ≡ Some y → (x : X) × (slice_get xs k ≡ Some x) × (g x ≡ h y)
    get_mapped g h [] [] e k y at = cc
    get_mapped g h [] (v ∷ ys) e k y at = cc
    get_mapped g h (u ∷ xs) [] e k y at = cc
    get_mapped g h (u ∷ xs) (v ∷ ys) e zero y at = let heads : g u ≡ h v = cc in let same : v ≡ y = cc in (u, refl, heads ∙ ap h same)
    get_mapped g h (u ∷ xs) (v ∷ ys) e (suc k) y at = let tails : map g xs ≡ map h ys = cc in get_mapped g h xs ys tails k y at
