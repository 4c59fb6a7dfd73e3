-- A walk from the last goal to the first, by first options, writes the steps of the first derivation.
use Rattle.std.proofs.Common.{◌≡◌, ℕ, suc, ◌<◌, ◌≤◌, Bool, List, [], ◌∷◌, ◌++◌, map, length, inl, inr, Option, Some, None, refl, sym, ap, ◌∙◌, subst, arith}
use Rattle.std.specs.Prelude.{◌&&◌, ◌↔◌, IsTrue, slice_get, Contains}
use Rattle.std.specs.List.{flat_map}
use Rattle.std.proofs.lemmas.Bool.{false≢true}
use Rattle.std.proofs.lemmas.List.{append_assoc, append-nil}
use Rattle.std.proofs.lemmas.List.Folds.{flat_map-map}
use Rattle.std.proofs.lemmas.Option.{slice_get-get_or}
use Rattle.finite_sets.proofs.Members.{among_from, contains_from, among_map, among_left, Among}
use Rattle.finite_sets.proofs.Lists.{get_among, get_some, flat_flat, map_flat, map_same}
use Rattle.grammar_model.specs.Trees.{Tree, Children, Node}
use Rattle.grammar_model.specs.Steps.{Step, steps_of, steps_of_all}
use Rattle.recognizer_model.specs.Flat.{lhs_of}
use Rattle.recognizer_model.specs.FlatForm.{tree_of}
use Rattle.recognizer_model.specs.FlatDerives.{Derives, Spans}
use Rattle.recognizer_model.specs.Contexts.{IsTop}
use Rattle.recognizer_model.specs.Nodes.{IsMet, Whole, Before, Last}
use Rattle.recognizer_model.proofs.Nodes.{used_are_met}
use Rattle.recognizer_model.proofs.Leaving.{prefix_some}
use Rattle.forest_model.specs.Forest.{ForestNode, Forest, IsForest, IsRoot, edges_of, allowed_of, top_of}
use Rattle.forest_model.specs.Listing.{IsListing}
use Rattle.forest_laws.specs.Lists.{Lists, roots_by, rule_of, whole_by}
use Rattle.forest_laws.specs.Laws.{AreAllLists}
use Rattle.forest_laws.specs.Written.{steps_written}
use Rattle.recognizer_model.specs.Links.{choices}
use Rattle.forest_laws.specs.Goals.{Goal, Parts, OneOf, Write, options, IsGoal, AreGoals, root_goals, steps_from, later_steps, GoalsAreChosen}
use Rattle.forest_laws.proofs.Allowing.{leaves}
use Rattle.forest_laws.proofs.Exact
use Rattle.forest_laws.proofs.Exact.{forests_have_lists, root_kept, in_kept}
use Rattle.forest_laws.proofs.Few.{steps_are_few}
use Rattle.forest_laws.proofs.Lists.{flat_map_same}
use Rattle.forest_laws.proofs.One.{only_one}
use Rattle.forest_laws.proofs.Reading
use Rattle.forest_laws.proofs.Walked.{is_walked}
use Rattle.forest_laws.proofs.Written.{steps_are_written}
use Rattle.first_walk.specs.Walk.{is_none, IsWalk, Done, Wrote, Chose, IsFirst, WalksAreFirst}

-- ---- lists of lists

map_map : {X Y Z : Type 0} (f : X → Y) (h : Y → Z) (xs : List X) → map h (map f xs) ≡ map (λ x. h (f x)) xs
map_map f h [] = refl
map_map f h (x ∷ xs) = ap (λ l. h (f x) ∷ l) (map_map f h xs)

map_id : {X : Type 0} (f : X → X) → ((x : X) → f x ≡ x) → (xs : List X) → map f xs ≡ xs
map_id f e [] = refl
map_id f e (x ∷ xs) =
    let a = e x in
    let b = map_id f e xs in
    λ i. a i ∷ b i

-- each of the first with each of the second
abbrev times : List (List Step) → List (List Step) → List (List Step)
times xs ys = flat_map (λ x. map (λ y. x ++ y) ys) xs

times_put : (w : List Step) (xs ys : List (List Step)) → times (map (λ r. w ++ r) xs) ys ≡ map (λ r. w ++ r) (times xs ys)
times_put w xs ys =
    flat_map-map (λ x. map (λ y. x ++ y) ys) (λ r. w ++ r) xs
    ∙ flat_map_same (λ r. map (λ y. (w ++ r) ++ y) ys) (λ r. map (λ z. w ++ z) (map (λ y. r ++ y) ys)) xs
    (λ r m. map_same (λ y. (w ++ r) ++ y) (λ y. w ++ (r ++ y)) (λ y. append_assoc w r y) ys ∙ sym (map_map (λ y. r ++ y) (λ z. w ++ z) ys))
    ∙ sym (map_flat (λ r. map (λ y. r ++ y) ys) (λ z. w ++ z) xs)

times_spread : {X : Type 0} (h : X → List Step) (cs : List X) (xs ys : List (List Step)) →
    times (flat_map (λ c. map (λ r. h c ++ r) xs) cs) ys ≡ flat_map (λ c. map (λ r. h c ++ r) (times xs ys)) cs
times_spread h cs xs ys =
    flat_flat (λ c. map (λ r. h c ++ r) xs) (λ x. map (λ y. x ++ y) ys) cs
    ∙ flat_map_same (λ c. times (map (λ r. h c ++ r) xs) ys) (λ c. map (λ r. h c ++ r) (times xs ys)) cs (λ c m. times_put (h c) xs ys)

-- these begin with the steps, and are these alone or not
record Begins (xs : List (List Step)) (steps : List Step) (alone : Bool) : Type 0 where
  rest : List (List Step)
  is : xs ≡ steps ∷ rest
  alone_is : is_none rest ≡ alone

record HasSome (xs : List (List Step)) : Type 0 where
  first : List Step
  rest : List (List Step)
  is : xs ≡ first ∷ rest

times_none : (xs : List (List Step)) → times xs [] ≡ []
times_none [] = refl
times_none (x ∷ xs) = times_none xs

none_times : (xs : List (List Step)) (y : List Step) (ys : List (List Step)) → is_none (times xs (y ∷ ys)) ≡ is_none xs
none_times [] y ys = refl
none_times (x ∷ xs) y ys = refl

none_both : (w : List Step) (xs : List (List Step)) (y : List Step) (ys zs : List (List Step)) →
    is_none (map (λ r. w ++ r) (ys ++ zs) ++ times xs (y ∷ (ys ++ zs))) ≡ is_none (map (λ r. w ++ r) ys ++ times xs (y ∷ ys)) && is_none zs
none_both w [] y [] [] = refl
none_both w [] y [] (z ∷ zs) = refl
none_both w (x ∷ xs) y [] [] = refl
none_both w (x ∷ xs) y [] (z ∷ zs) = refl
none_both w xs y (v ∷ ys) zs = refl

-- more in the second list
begins_more : (xs ys zs : List (List Step)) (steps : List Step) (alone : Bool) → Begins (times xs ys) steps alone → Begins (times xs (ys ++ zs)) steps (alone && is_none zs)
begins_more [] ys zs steps alone b = let e : [] ≡ steps ∷ b.rest = b.is in absurd (cc)
begins_more (x ∷ xs) [] zs steps alone b = let e : [] ≡ steps ∷ b.rest = sym (times_none xs) ∙ b.is in absurd (cc)
begins_more (x ∷ xs) (y ∷ ys) zs steps alone b =
    let e : (x ++ y) ∷ (map (λ r. x ++ r) ys ++ times xs (y ∷ ys)) ≡ steps ∷ b.rest = b.is in
    let first : x ++ y ≡ steps = cc in
    let others : map (λ r. x ++ r) ys ++ times xs (y ∷ ys) ≡ b.rest = cc in
    record {
      rest = map (λ r. x ++ r) (ys ++ zs) ++ times xs (y ∷ (ys ++ zs));
      is = ap (λ s. s ∷ (map (λ r. x ++ r) (ys ++ zs) ++ times xs (y ∷ (ys ++ zs)))) first;
      alone_is = none_both x xs y ys zs ∙ ap (λ l. is_none l && is_none zs) others ∙ ap (λ z. z && is_none zs) b.alone_is;
    }

begins_step : (xs : List (List Step)) (step : Step) (steps : List Step) (alone : Bool) → Begins xs steps alone → Begins (times xs ((step ∷ []) ∷ [])) (steps ++ step ∷ []) alone
begins_step xs step steps alone b = record {
  rest = times b.rest ((step ∷ []) ∷ []);
  is = ap (λ l. times l ((step ∷ []) ∷ [])) b.is;
  alone_is = none_times b.rest (step ∷ []) [] ∙ b.alone_is;
}

some_both : (xs ys : List (List Step)) → HasSome xs → HasSome (xs ++ ys)
some_both xs ys h = record { first = h.first; rest = h.rest ++ ys; is = ap (λ l. l ++ ys) h.is }

some_spread : {X : Type 0} (h : X → List Step) (cs : List X) (xs : List (List Step)) (c : X) → Among c cs → HasSome xs → HasSome (flat_map (λ c. map (λ r. h c ++ r) xs) cs)
some_spread h [] xs c m s = absurd m
some_spread h (d ∷ cs) xs c m s = record {
  first = h d ++ s.first;
  rest = map (λ r. h d ++ r) s.rest ++ flat_map (λ c. map (λ r. h c ++ r) xs) cs;
  is = ap (λ l. map (λ r. h d ++ r) l ++ flat_map (λ c. map (λ r. h c ++ r) xs) cs) s.is;
}

-- ---- goals

module _ (f : Forest) (lists : Lists) where
  abbrev S : List Goal → List (List Step)
  S = steps_from f lists

  joined : (xs ys : List Goal) → S (xs ++ ys) ≡ times (S xs) (S ys)
  joined [] ys = sym (append-nil (map (λ y. y) (S ys)) ∙ map_id (λ y. y) (λ x. refl) (S ys))
  joined (Write step ∷ xs) ys = ap (map (λ rest. step ∷ rest)) (joined xs ys) ∙ sym (times_put (step ∷ []) (S xs) (S ys))
  joined (Parts n ∷ xs) ys = ap (λ l. flat_map (λ cs. map (λ rest. steps_of_all cs ++ rest) l) (lists n)) (joined xs ys) ∙ sym (times_spread steps_of_all (lists n) (S xs) (S ys))
  joined (OneOf start end nodes ∷ xs) ys =
      ap (λ l. flat_map (λ t. map (λ rest. steps_of t ++ rest) l) (flat_map (whole_by f lists start end) nodes)) (joined xs ys)
      ∙ sym (times_spread steps_of (flat_map (whole_by f lists start end) nodes) (S xs) (S ys))

  goals_left : (xs ys : List Goal) → AreGoals f (xs ++ ys) → AreGoals f xs
  goals_left [] ys h = tt
  goals_left (x ∷ xs) ys h = (h.0, goals_left xs ys h.1)

  goals_right : (xs ys : List Goal) → AreGoals f (xs ++ ys) → AreGoals f ys
  goals_right [] ys h = h
  goals_right (x ∷ xs) ys h = goals_right xs ys h.1

  goals_both : (xs ys : List Goal) → AreGoals f xs → AreGoals f ys → AreGoals f (xs ++ ys)
  goals_both [] ys a b = b
  goals_both (x ∷ xs) ys a b = (a.0, goals_both xs ys a.1 b)

  module _ (is : IsForest f) (all : AreAllLists f lists) where
    abbrev choices_are : GoalsAreChosen f lists
    choices_are = (is_walked f lists is all).choices

    -- a node stands for some child list
    node_some : (n : ℕ) → n < length f.nodes → (cs : Children) × Among cs (lists n)
    node_some n lt =
        let (node, e) = get_some f.nodes n lt in
        let used = (is.used.exact node.key).0 (contains_from _ node.key (among_map (λ (z : ForestNode). z.key) node f.nodes (get_among f.nodes n node e))) in
        let met = ((used_are_met f.flat (edges_of f) (allowed_of f) (top_of f) top (λ x p q e. (e.0, e.1)) is.derived.flat.no_rules (leaves f is.derived) f.place node.key).0 used).1 in
        let (cs, s) = met_spans met in
        let (ds, s', c) = prefix_some f.flat (edges_of f) (allowed_of f) (leaves f is.derived) s in
        (ds, among_from (lists n) ds (((all.nodes n node e).exact ds).1 (s', c)))
      where
        top : IsTop f.flat (top_of f)
        top = (is.derived.flat.tops f.start (top_of f) (slice_get-get_or f.flat.tops f.start 0 is.derived.start)).is_top

        met_spans : {r d p q : ℕ} → IsMet f.flat (edges_of f) (allowed_of f) (top_of f) f.place r d p q → (cs : Children) × Spans f.flat (edges_of f) r d p q cs
        met_spans (Whole {cs = cs} lt s) = (cs, s)
        met_spans (Before {cs = cs} m s e d) = (cs, s)
        met_spans (Last {cs' = cs} m s e rule lt s' a) = (cs, s')

    -- so do goals
    goals_some : (goals : List Goal) → AreGoals f goals → HasSome (S goals)
    goals_some [] h = record { first = []; rest = []; is = refl }
    goals_some (Write step ∷ goals) h = let s = goals_some goals h.1 in record { first = step ∷ s.first; rest = map (λ rest. step ∷ rest) s.rest; is = ap (map (λ rest. step ∷ rest)) s.is }
    goals_some (Parts n ∷ goals) h = let (cs, m) = node_some n h.0 in some_spread steps_of_all (lists n) (S goals) cs m (goals_some goals h.1)
    goals_some (OneOf start end [] ∷ goals) h = absurd (omega (arith, h.0.0))
    goals_some (OneOf start end (n ∷ nodes) ∷ goals) h =
        let (cs, m) = node_some n (h.0.1 n (contains_from (n ∷ nodes) n (inl refl))) in
        some_spread steps_of (flat_map (whole_by f lists start end) (n ∷ nodes)) (S goals) (Node (rule_of (slice_get f.nodes n)) cs start end)
        (among_left _ (whole_by f lists start end n) (flat_map (whole_by f lists start end) nodes) (among_map (λ children. Node (rule_of (slice_get f.nodes n)) children start end) cs (lists n) m))
        (goals_some goals h.1)

    -- later options stand for something
    later_none : (later : List (List Goal)) → ((option : List Goal) → Among option later → AreGoals f option) → is_none (later_steps f lists [] later) ≡ is_none later
    later_none [] h = refl
    later_none (option ∷ later) h =
        let s = some_both (S (option ++ [])) (later_steps f lists [] later) (goals_some (option ++ []) (goals_both option [] (h option (inl refl)) tt)) in
        ap is_none s.is

    no_step : (goal : Goal) (option : List Goal) (later : List (List Goal)) → options f goal ≡ option ∷ later → (step : Step) → goal ≡ Write step → ⊥
    no_step goal option later e step same = let h : [] ≡ option ∷ later = sym (ap (options f) same) ∙ e in cc

    -- what a goal stands for, by its first option
    by_first : (goal : Goal) (option : List Goal) (later : List (List Goal)) → IsGoal f goal → options f goal ≡ option ∷ later → S (goal ∷ []) ≡ S option ++ later_steps f lists [] later
    by_first goal option later is_goal e =
        choices_are.chosen goal [] is_goal (no_step goal option later e) ∙ ap (later_steps f lists []) e
        ∙ ap (λ l. S l ++ later_steps f lists [] later) (append-nil option)

    kept : (goal : Goal) (options_are : List (List Goal)) → IsGoal f goal → options f goal ≡ options_are → (option : List Goal) → Among option options_are → AreGoals f option
    kept goal options_are is_goal e option m = choices_are.kept goal option is_goal (subst (λ l. Contains l option) (sym e) (contains_from options_are option m))

    walked : {goals : List Goal} {steps : List Step} {alone : Bool} → IsWalk f goals steps alone → AreGoals f goals → Begins (S goals) steps alone
    walked Done h = record { rest = []; is = refl; alone_is = refl }
    walked (Wrote goals steps alone step w) h =
        subst (λ l. Begins l (steps ++ step ∷ []) alone) (sym (joined goals (Write step ∷ [])))
        (begins_step (S goals) step steps alone (walked w (goals_left goals (Write step ∷ []) h)))
    walked (Chose goals steps alone goal option later e w) h =
        let is_goal : IsGoal f goal = (goals_right goals (goal ∷ []) h).0 in
        let left = goals_left goals (goal ∷ []) h in
        let options_kept = kept goal (option ∷ later) is_goal e in
        let one = walked w (goals_both goals option left (options_kept option (inl refl))) in
        let more = begins_more (S goals) (S option) (later_steps f lists [] later) steps alone (subst (λ l. Begins l steps alone) (joined goals option) one) in
        subst (λ l. Begins l steps (alone && is_none later)) (sym (joined goals (goal ∷ []) ∙ ap (times (S goals)) (by_first goal option later is_goal e)))
        (subst (λ b. Begins (times (S goals) (S option ++ later_steps f lists [] later)) steps (alone && b)) (later_none later (λ o m. options_kept o (inr m))) more)

    -- ---- the whole

    roots_same : (root : Option ℕ) → IsRoot f root → roots_by f lists root ≡ roots_by f (Exact.lists f is) root
    roots_same None h = refl
    roots_same (Some n) (lt, (node, e, same)) = ap (map (λ cs. Node (rule_of (slice_get f.nodes n)) cs 0 f.place)) (only_one f is lists all.equal n node e)

    derived : (t : Tree) → Among t (roots_by f lists f.root) → Derives f.flat (edges_of f) (lhs_of f.flat (top_of f)) 0 f.place t
    derived t m =
        let here = subst (Among t) (roots_same f.root is.root ∙ root_kept f is f.root is.root) m in
        Reading.back f is.derived (lhs_of f.flat (top_of f)) 0 f.place t ((in_kept f is (lhs_of f.flat (top_of f)) 0 f.place t).0 (contains_from _ t here)).0

    none_mapped : {X Y : Type 0} (h : X → Y) (xs : List X) → is_none (map h xs) ≡ is_none xs
    none_mapped h [] = refl
    none_mapped h (x ∷ xs) = refl

    none_empty : {X : Type 0} (xs : List X) (alone : Bool) → is_none xs ≡ alone → IsTrue alone ↔ (xs ≡ [])
    none_empty xs alone e = subst (λ b. IsTrue b ↔ (xs ≡ [])) e (go xs)
      where
        go : {X : Type 0} (xs : List X) → IsTrue (is_none xs) ↔ (xs ≡ [])
        go [] = (λ t. refl, λ e. refl)
        go (x ∷ xs) = (λ t. absurd (false≢true t), λ e. (let no : x ∷ xs ≡ [] = e in absurd (cc)))

    first_by : (roots : List Tree) (steps : List Step) (alone : Bool) → roots_by f lists f.root ≡ roots → Begins (map steps_of roots) steps alone → IsFirst f steps alone
    first_by [] steps alone e b = let no : [] ≡ steps ∷ b.rest = b.is in absurd (cc)
    first_by (t ∷ roots) steps alone e b =
        let both : steps_of t ∷ map steps_of roots ≡ steps ∷ b.rest = b.is in
        let same : steps_of t ≡ steps = cc in
        let others : map steps_of roots ≡ b.rest = cc in
        let d = derived t (subst (Among t) (sym e) (inl refl)) in
        record {
          tree = tree_of f.written f.flat t;
          others = map (tree_of f.written f.flat) roots;
          listing = subst (λ l. IsListing f (map (tree_of f.written f.flat) l)) e all.listing;
          steps = ap (steps_written f.written f.flat []) (sym same) ∙ steps_are_written f is.derived t d;
          few = subst (λ l. length l ≤ suc (choices (tree_of f.written f.flat t))) same (steps_are_few f is.derived t d);
          only = none_empty (map (tree_of f.written f.flat) roots) alone
              (none_mapped (tree_of f.written f.flat) roots ∙ sym (none_mapped steps_of roots) ∙ ap is_none others ∙ b.alone_is);
        }

    pub first_of_walk : (steps : List Step) (alone : Bool) → IsWalk f (root_goals f f.root) steps alone → IsFirst f steps alone
    first_of_walk steps alone w =
        let known = is_walked f lists is all in
        first_by (roots_by f lists f.root) steps alone refl (subst (λ l. Begins l steps alone) known.root (walked w known.are_goals))

pub walks_are_first : WalksAreFirst
walks_are_first f steps alone is w = let (lists, all) = forests_have_lists f is in first_of_walk f lists is all steps alone w
