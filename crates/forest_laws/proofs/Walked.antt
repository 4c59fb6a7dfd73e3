-- Walks through a forest: options in order, and what is still to come.
use Rattle.std.proofs.Common.{◌≡◌, ℕ, zero, suc, ◌<◌, List, [], ◌∷◌, ◌++◌, map, length, Option, Some, None, refl, sym, ap, ◌∙◌, subst, arith}
use Rattle.std.specs.Prelude.{slice_get, slice_index_or, Contains}
use Rattle.std.specs.List.{flat_map}
use Rattle.std.proofs.lemmas.List.{append_assoc, map-append, append-nil}
use Rattle.std.proofs.lemmas.List.Folds.{flat_map-map}
use Rattle.std.proofs.lemmas.Option.{slice_get_within}
use Rattle.finite_sets.proofs.Members.{among_from, contains_from, among_map, among_map_from, Among}
use Rattle.finite_sets.proofs.Lists.{get_among, among_get, flat_flat, map_flat, get_some}
use Rattle.grammar_model.specs.Trees.{Tree, Children, Node, Child, child_count}
use Rattle.grammar_model.specs.Steps.{Step, TokenStep, NulledStep, RuleStep, steps_of, steps_of_all}
use Rattle.recognizer_model.specs.Contexts.{IsTop}
use Rattle.recognizer_model.specs.Nodes.{IsMet, Whole, Before, Last as MetLast}
use Rattle.recognizer_model.proofs.Nodes.{used_are_met}
use Rattle.recognizer_model.specs.FlatDerives.{Derives, Spans, More}
use Rattle.recognizer_model.specs.FlatDerives
use Rattle.recognizer_model.specs.Flat.{FlatGrammar, part_of}
use Rattle.grammar_model.specs.Derives.{Edges}
use Rattle.forest_model.specs.Forest.{Cause, AnEdge, Nothing, Wholes, Alternative, ForestNode, Forest, edges_of, allowed_of, top_of, IsNode, IsSplit, IsPredecessor, IsCause, IsRoot, IsForest}
use Rattle.forest_laws.specs.Lists.{Lists, cause_symbol, rule_of, prefixes_by, whole_by, causes_by, alternative_by, roots_by}
use Rattle.forest_laws.specs.Laws.{AreAllLists}
use Rattle.forest_laws.specs.Goals.{Goal, Parts, OneOf, Write, count_of, predecessor_goals, cause_goals, whole_goals, alternative_goals, node_options, options, IsGoal, AreGoals, root_goals, steps_from, Done, Wrote, Chose, written, later_steps, to_come, stands, GoalsAreChosen, WalksGoOn}
use Rattle.forest_laws.specs.Walked.{IsWalked, ForestsAreWalked}
use Rattle.forest_laws.proofs.Allowing.{leaves}
use Rattle.forest_laws.proofs.Lists.{flat_map_same, get_there}

-- ---- lists

map_map : {X Y Z : Type 0} (f : X → Y) (h : Y → Z) (k : X → Z) → ((x : X) → h (f x) ≡ k x) → (xs : List X) → map h (map f xs) ≡ map k xs
map_map f h k e [] = refl
map_map f h k e (x ∷ xs) =
    let a = e x in
    let b = map_map f h k e xs in
    λ i. a i ∷ b i

map_id : {X : Type 0} (f : X → X) → ((x : X) → f x ≡ x) → (xs : List X) → map f xs ≡ xs
map_id f e [] = refl
map_id f e (x ∷ xs) =
    let a = e x in
    let b = map_id f e xs in
    λ i. a i ∷ b i

-- ---- walks, whatever the lists are

module _ (f : Forest) (lists : Lists) where
  abbrev S : List Goal → List (List Step)
  S = steps_from f lists

  unwrites : (done : List Done) (step : Step) → to_come f lists (done ++ Wrote step ∷ []) ≡ to_come f lists done
  unwrites [] step = refl
  unwrites (Wrote s ∷ done) step = ap (map (λ rest. s ∷ rest)) (unwrites done step)
  unwrites (Chose later behind ∷ done) step = ap (λ l. l ++ later_steps f lists behind later) (unwrites done step)

  chose : (done : List Done) (later : List (List Goal)) (behind : List Goal) →
      to_come f lists (done ++ Chose later behind ∷ []) ≡ map (λ rest. written done ++ rest) (later_steps f lists behind later) ++ to_come f lists done
  chose [] later behind = sym (append-nil (map (λ rest. rest) (later_steps f lists behind later)) ∙ map_id (λ rest. rest) (λ x. refl) (later_steps f lists behind later))
  chose (Wrote s ∷ done) later behind =
      let l : List (List Step) = later_steps f lists behind later in
      ap (map (λ rest. s ∷ rest)) (chose done later behind) ∙ map-append (λ rest. s ∷ rest) (map (λ rest. written done ++ rest) l) (to_come f lists done)
      ∙ ap (λ m. m ++ map (λ rest. s ∷ rest) (to_come f lists done)) (map_map (λ rest. written done ++ rest) (λ rest. s ∷ rest) (λ rest. s ∷ (written done ++ rest)) (λ x. refl) l)
  chose (Chose others before ∷ done) later behind =
      ap (λ l. l ++ later_steps f lists before others) (chose done later behind)
      ∙ append_assoc (map (λ rest. written done ++ rest) (later_steps f lists behind later)) (to_come f lists done) (later_steps f lists before others)

  wrote_more : (done : List Done) (step : Step) → written (done ++ Wrote step ∷ []) ≡ written done ++ step ∷ []
  wrote_more [] step = refl
  wrote_more (Wrote s ∷ done) step = ap (λ l. s ∷ l) (wrote_more done step)
  wrote_more (Chose later behind ∷ done) step = wrote_more done step

  wrote_same : (done : List Done) (later : List (List Goal)) (behind : List Goal) → written (done ++ Chose later behind ∷ []) ≡ written done
  wrote_same [] later behind = refl
  wrote_same (Wrote s ∷ done) later behind = ap (λ l. s ∷ l) (wrote_same done later behind)
  wrote_same (Chose others before ∷ done) later behind = wrote_same done later behind

  writes : (done : List Done) (step : Step) (left : List Goal) → stands f lists done (Write step ∷ left) ≡ stands f lists (done ++ Wrote step ∷ []) left
  writes done step left =
      let same : map (λ rest. written done ++ rest) (map (λ rest. step ∷ rest) (S left)) ≡ map (λ rest. written (done ++ Wrote step ∷ []) ++ rest) (S left) =
      map_map (λ rest. step ∷ rest) (λ rest. written done ++ rest) (λ rest. written (done ++ Wrote step ∷ []) ++ rest)
      (λ x. sym (ap (λ l. l ++ x) (wrote_more done step) ∙ append_assoc (written done) (step ∷ []) x)) (S left) in
      let rest = sym (unwrites done step) in
      λ i. same i ++ rest i

  pub opened : (done : List Done) (option behind : List Goal) (later : List (List Goal)) →
      map (λ rest. written done ++ rest) (S (option ++ behind) ++ later_steps f lists behind later) ++ to_come f lists done ≡ stands f lists (done ++ Chose later behind ∷ []) (option ++ behind)
  opened done option behind later =
      let first : List (List Step) = S (option ++ behind) in
      let l : List (List Step) = later_steps f lists behind later in
      let a : map (λ rest. written done ++ rest) first ≡ map (λ rest. written (done ++ Chose later behind ∷ []) ++ rest) first = ap (λ w. map (λ rest. w ++ rest) first) (sym (wrote_same done later behind)) in
      let b = sym (chose done later behind) in
      ap (λ m. m ++ to_come f lists done) (map-append (λ rest. written done ++ rest) first l)
      ∙ append_assoc (map (λ rest. written done ++ rest) first) (map (λ rest. written done ++ rest) l) (to_come f lists done)
      ∙ (λ i. a i ++ b i)

  walks_go_on : GoalsAreChosen f lists → WalksGoOn f lists
  walks_go_on choices = record {
    writes = writes;
    chooses = λ done goal left option later is e.
        ap (λ l. map (λ rest. written done ++ rest) l ++ to_come f lists done)
        (choices.chosen goal left is (λ step same. (let h : [] ≡ option ∷ later = sym (ap (options f) same) ∙ e in cc)) ∙ ap (later_steps f lists left) e)
        ∙ opened done option left later;
    gives = λ done. ap (λ l. l ∷ to_come f lists done) (append-nil (written done));
    unwrites = unwrites;
    is_spent = λ done behind. chose done [] behind;
    goes_on = λ done option behind later. chose done (option ∷ later) behind ∙ opened done option behind later;
  }

-- ---- the goals of a forest

count_is : {g : FlatGrammar} {E : Edges} {r d p q : ℕ} {cs : Children} → Spans g E r d p q cs → child_count cs ≡ d
count_is FlatDerives.Nothing = refl
count_is (More s e t) = ap suc (count_is s)

module _ (f : Forest) (lists : Lists) (is : IsForest f) (all : AreAllLists f lists) where
  counted : (n : ℕ) → n < length f.nodes → (cs : Children) → Among cs (lists n) → child_count cs ≡ count_of (slice_get f.nodes n)
  counted n lt cs m =
      let (node, e) = get_some f.nodes n lt in
      count_is ((((all.nodes n node e).exact cs).0 (contains_from (lists n) cs m)).0) ∙ sym (ap count_of e)

  module _ (goals : List Goal) where
    abbrev after : List (List Step)
    after = steps_from f lists goals

    abbrev with_children : Children → List (List Step)
    with_children cs = map (λ rest. steps_of_all cs ++ rest) (steps_from f lists goals)

    abbrev with_tree : Tree → List (List Step)
    with_tree t = map (λ rest. steps_of t ++ rest) (steps_from f lists goals)

    last_one : (x m q : ℕ) (l : Cause) → steps_from f lists (cause_goals x m q l ++ goals) ≡ flat_map with_tree (causes_by f lists x m q l)
    last_one x m q AnEdge = sym (append-nil (map (λ rest. TokenStep x m q ∷ rest) after))
    last_one x m q Nothing = sym (append-nil (map (λ rest. NulledStep x m ∷ rest) after))
    last_one x m q (Wholes nodes) = refl

    prefix_one : (prefix : Option ℕ) (more : List Goal) → steps_from f lists (predecessor_goals prefix ++ more) ≡ flat_map (λ cs. map (λ rest. steps_of_all cs ++ rest) (steps_from f lists more)) (prefixes_by lists prefix)
    prefix_one None more = sym (append-nil (map (λ rest. rest) (steps_from f lists more)) ∙ map_id (λ rest. rest) (λ x. refl) (steps_from f lists more))
    prefix_one (Some n) more = refl

    one_more : (prefix : Children) (trees : List Tree) → map (λ rest. steps_of_all prefix ++ rest) (flat_map with_tree trees) ≡ flat_map with_children (map (Child prefix) trees)
    one_more prefix trees =
        map_flat with_tree (λ rest. steps_of_all prefix ++ rest) trees
        ∙ flat_map_same (λ t. map (λ rest. steps_of_all prefix ++ rest) (with_tree t)) (λ t. with_children (Child prefix t)) trees
        (λ t m. map_map (λ rest. steps_of t ++ rest) (λ rest. steps_of_all prefix ++ rest) (λ rest. (steps_of_all prefix ++ steps_of t) ++ rest) (λ x. sym (append_assoc (steps_of_all prefix) (steps_of t) x)) after)
        ∙ sym (flat_map-map with_children (Child prefix) trees)

    alternative_one : (node : ForestNode) (a : Alternative) →
        flat_map with_children (alternative_by f lists (cause_symbol f node.key) node.key.end a) ≡ steps_from f lists (alternative_goals f node a ++ goals)
    alternative_one node a =
        let trees : List Tree = causes_by f lists (cause_symbol f node.key) a.start node.key.end a.cause in
        let ends : List Goal = cause_goals (cause_symbol f node.key) a.start node.key.end a.cause in
        flat_flat (λ prefix. map (Child prefix) (causes_by f lists (cause_symbol f node.key) a.start node.key.end a.cause)) with_children (prefixes_by lists a.predecessor)
        ∙ sym (ap (steps_from f lists) (append_assoc (predecessor_goals a.predecessor) ends goals) ∙ prefix_one a.predecessor (ends ++ goals)
        ∙ ap (λ (l : List (List Step)). flat_map (λ cs. map (λ rest. steps_of_all cs ++ rest) l) (prefixes_by lists a.predecessor)) (last_one (cause_symbol f node.key) a.start node.key.end a.cause)
        ∙ flat_map_same (λ cs. map (λ rest. steps_of_all cs ++ rest) (flat_map with_tree trees)) (λ cs. flat_map with_children (map (Child cs) trees)) (prefixes_by lists a.predecessor) (λ cs m. one_more cs trees))

    parts_chosen : (n : ℕ) (node : ForestNode) → slice_get f.nodes n ≡ Some node → steps_from f lists (Parts n ∷ goals) ≡ later_steps f lists goals (options f (Parts n))
    parts_chosen n node e =
        ap (flat_map with_children) (all.equal n node e)
        ∙ flat_flat (alternative_by f lists (cause_symbol f node.key) node.key.end) with_children node.alternatives
        ∙ flat_map_same (λ a. flat_map with_children (alternative_by f lists (cause_symbol f node.key) node.key.end a)) (λ a. steps_from f lists (alternative_goals f node a ++ goals)) node.alternatives (λ a m. alternative_one node a)
        ∙ sym (flat_map-map (λ option. steps_from f lists (option ++ goals)) (alternative_goals f node) node.alternatives)
        ∙ ap (λ o. later_steps f lists goals (node_options f o)) (sym e)

    whole_one : (m q n : ℕ) → n < length f.nodes → flat_map with_tree (whole_by f lists m q n) ≡ steps_from f lists (whole_goals f m q n ++ goals)
    whole_one m q n lt =
        let r : ℕ = rule_of (slice_get f.nodes n) in
        let c : ℕ = count_of (slice_get f.nodes n) in
        flat_map-map with_tree (λ cs. Node (rule_of (slice_get f.nodes n)) cs m q) (lists n)
        ∙ flat_map_same (λ cs. with_tree (Node r cs m q)) (λ cs. map (λ rest. steps_of_all cs ++ rest) (map (λ rest. RuleStep r c m q ∷ rest) after)) (lists n)
        (λ cs i. sym (map_map (λ rest. RuleStep r c m q ∷ rest) (λ rest. steps_of_all cs ++ rest) (λ rest. (steps_of_all cs ++ RuleStep r (child_count cs) m q ∷ []) ++ rest)
        (λ x. ap (λ k. steps_of_all cs ++ RuleStep r k m q ∷ x) (sym (counted n lt cs i)) ∙ sym (append_assoc (steps_of_all cs) (RuleStep r (child_count cs) m q ∷ []) x)) after))

    wholes_chosen : (m q : ℕ) (nodes : List ℕ) → ((n : ℕ) → Contains nodes n → n < length f.nodes) → steps_from f lists (OneOf m q nodes ∷ goals) ≡ later_steps f lists goals (options f (OneOf m q nodes))
    wholes_chosen m q nodes inside =
        flat_flat (whole_by f lists m q) with_tree nodes
        ∙ flat_map_same (λ n. flat_map with_tree (whole_by f lists m q n)) (λ n. steps_from f lists (whole_goals f m q n ++ goals)) nodes (λ n i. whole_one m q n (inside n (contains_from nodes n i)))
        ∙ sym (flat_map-map (λ option. steps_from f lists (option ++ goals)) (whole_goals f m q) nodes)

  goal_chosen : (goal : Goal) (goals : List Goal) → IsGoal f goal → ((step : Step) → goal ≡ Write step → ⊥) → steps_from f lists (goal ∷ goals) ≡ later_steps f lists goals (options f goal)
  goal_chosen (Parts n) goals lt other = let (node, e) = get_some f.nodes n lt in parts_chosen goals n node e
  goal_chosen (OneOf m q nodes) goals h other = wholes_chosen goals m q nodes h.1
  goal_chosen (Write step) goals h other = absurd (other step refl)

  is_node : (n : ℕ) (k : _) → IsNode f n k → n < length f.nodes
  is_node n k (node, e, same) = slice_get_within f.nodes n node e

  prefixes_kept : (rule dot origin m : ℕ) (prefix : Option ℕ) → IsPredecessor f rule dot origin m prefix → AreGoals f (predecessor_goals prefix)
  prefixes_kept rule dot origin m None h = tt
  prefixes_kept rule dot origin m (Some n) h = (is_node n _ h.1, tt)

  lasts_kept : (x m q : ℕ) (y : ℕ) (l : Cause) → IsCause f x m q l → AreGoals f (cause_goals y m q l)
  lasts_kept x m q y AnEdge h = (tt, tt)
  lasts_kept x m q y Nothing h = (tt, tt)
  lasts_kept x m q y (Wholes nodes) h = ((h.some, inside), tt)
    where
      inside : (n : ℕ) → Contains nodes n → n < length f.nodes
      inside n c =
          let (i, e) = among_get nodes n (among_from nodes n c) in
          let (r, e') = get_there nodes h.rules i n h.all e in
          is_node n _ (h.each i n r e e')

  both : (xs ys : List Goal) → AreGoals f xs → AreGoals f ys → AreGoals f (xs ++ ys)
  both [] ys a b = b
  both (x ∷ xs) ys a b = (a.0, both xs ys a.1 b)

  goal_kept : (goal : Goal) (option : List Goal) → IsGoal f goal → Contains (options f goal) option → AreGoals f option
  goal_kept (Parts n) option lt c =
      let (node, e) = get_some f.nodes n lt in
      let here = subst (λ o. Contains (node_options f o) option) e c in
      let (a, i, same) = among_map_from (alternative_goals f node) option node.alternatives (among_from _ option here) in
      let alternatives = is.alternatives node (contains_from f.nodes node (get_among f.nodes n node e)) in
      let one = alternatives.each a (contains_from node.alternatives a i) in
      subst (AreGoals f) same (both (predecessor_goals a.predecessor) (cause_goals (cause_symbol f node.key) a.start node.key.end a.cause)
      (prefixes_kept node.key.rule alternatives.dot node.key.origin a.start a.predecessor one.predecessor) (lasts_kept alternatives.symbol a.start node.key.end (cause_symbol f node.key) a.cause one.cause))
  goal_kept (OneOf m q nodes) option (some, inside) c =
      let (n, i, same) = among_map_from (whole_goals f m q) option nodes (among_from _ option c) in
      subst (AreGoals f) same (inside n (contains_from nodes n i), (tt, tt))
  goal_kept (Write step) option h c = absurd (among_from [] option c)

  is_top : IsTop f.flat (top_of f)
  is_top = (is.derived.flat.tops f.start (top_of f) (go f.flat.tops f.start is.derived.start)).is_top
    where
      go : (xs : List ℕ) (k : ℕ) → k < length xs → slice_get xs k ≡ Some (slice_index_or xs k 0)
      go [] k lt = absurd (omega arith)
      go (x ∷ xs) zero lt = refl
      go (x ∷ xs) (suc k) lt = go xs k (omega arith)

  -- the first parts of a used node are there
  met_spans : {r d p q : ℕ} → IsMet f.flat (edges_of f) (allowed_of f) (top_of f) f.place r d p q → (cs : Children) × Spans f.flat (edges_of f) r d p q cs
  met_spans (Whole {cs = cs} lt s) = (cs, s)
  met_spans (Before {cs = cs} m s e d) = (cs, s)
  met_spans (MetLast {cs' = cs} m s e rule lt s' a) = (cs, s')

  split_there : {r d p q x : ℕ} {cs : Children} → Spans f.flat (edges_of f) r (suc d) p q cs → part_of f.flat r d ≡ Some x → (m : ℕ) × IsSplit f r d p x m q
  split_there {r} {d} {p} {q} {x} (More {m = m} {x = y} {cs = cs} {t = t} s e h) part =
      let same : y ≡ x = (let both = sym e ∙ part in cc) in
      (m, record { children = cs; predecessor = s; tree = t; cause = subst (λ z. Derives f.flat (edges_of f) z m q t) same h })

  map_length : {X Y : Type 0} (h : X → Y) (xs : List X) → length (map h xs) ≡ length xs
  map_length h [] = refl
  map_length h (x ∷ xs) = ap suc (map_length h xs)

  some_alternative : (n : ℕ) (node : ForestNode) → slice_get f.nodes n ≡ Some node → 0 < length node.alternatives
  some_alternative n node e =
      let here = get_among f.nodes n node e in
      let a = is.alternatives node (contains_from f.nodes node here) in
      let used = (is.used.exact node.key).0 (contains_from _ node.key (among_map (λ (z : ForestNode). z.key) node f.nodes here)) in
      let met = ((used_are_met f.flat (edges_of f) (allowed_of f) (top_of f) is_top (λ x p q e. (e.0, e.1)) is.derived.flat.no_rules (leaves f is.derived) f.place node.key).0 used).1 in
      let (cs, s) = met_spans met in
      let (m, split) = split_there (subst (λ d. Spans f.flat (edges_of f) node.key.rule d node.key.origin node.key.end cs) a.dot_is s) a.part in
      let c = (a.exact m).1 split in
      let l = map_length (λ (z : Alternative). z.start) node.alternatives in
      let lt = c.1 in
      omega (arith, l, lt)

  goal_some : (goal : Goal) → IsGoal f goal → ((step : Step) → goal ≡ Write step → ⊥) → 0 < length (options f goal)
  goal_some (Parts n) lt other =
      let (node, e) = get_some f.nodes n lt in
      let h = some_alternative n node e in
      let l = map_length (alternative_goals f node) node.alternatives in
      let same : length (node_options f (slice_get f.nodes n)) ≡ length (map (alternative_goals f node) node.alternatives) = ap (λ o. length (node_options f o)) e in
      omega (arith, h, l, same)
  goal_some (OneOf m q nodes) (some, inside) other = let l = map_length (whole_goals f m q) nodes in omega (arith, some, l)
  goal_some (Write step) h other = absurd (other step refl)

  choices : GoalsAreChosen f lists
  choices = record { chosen = goal_chosen; some = goal_some; kept = goal_kept }

  alone : (trees : List Tree) → flat_map (λ t. map (λ rest. steps_of t ++ rest) ([] ∷ [])) trees ≡ map steps_of trees
  alone [] = refl
  alone (t ∷ trees) =
      let a = append-nil (steps_of t) in
      let b = alone trees in
      λ i. a i ∷ b i

  root_kept : (root : Option ℕ) → IsRoot f root → AreGoals f (root_goals f root)
  root_kept None h = (tt, tt)
  root_kept (Some n) h = (is_node n _ h.1, (tt, tt))

  root_steps : (root : Option ℕ) → IsRoot f root → steps_from f lists (root_goals f root) ≡ map steps_of (roots_by f lists root)
  root_steps None h = refl
  root_steps (Some n) h = sym (whole_one [] 0 f.place n (is_node n _ h.1)) ∙ alone (whole_by f lists 0 f.place n)

  pub is_walked : IsWalked f lists
  is_walked = record {
    choices = choices;
    walks = walks_go_on f lists choices;
    are_goals = root_kept f.root is.root;
    root = root_steps f.root is.root;
  }

pub forests_are_walked : ForestsAreWalked
forests_are_walked f lists is all = is_walked f lists is all
