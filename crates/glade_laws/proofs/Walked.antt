-- The walks by choices pass the first two shapes of what a node stands for.
use Rattle.std.proofs.Common.{◌≡◌, ℕ, true, false, cond, List, [], ◌∷◌, ◌++◌, map, flat_map, inl, inr, Some, None, refl, sym, ap, ◌∙◌, subst}
use Rattle.std.specs.Prelude.{slice_get}
use Rattle.std.proofs.lemmas.Bool.{cond-true, cond-false}
use Rattle.finite_sets.proofs.Members.{Among, among_either, among_map_from, among_flat_map_from}
use Rattle.grammar_model.specs.Trees.{Tree, Children, Node, NoChild, Child, from_of}
use Rattle.recognizer_model.specs.FlatForm.{symbol_at, is_list, is_list_node, tree_of, children_of}
use Rattle.recognizer_model.proofs.FlatSound.{join-NoChild}
use Rattle.recognizer_model.specs.Flat.{lhs_of}
use Rattle.forest_model.specs.Forest.{Wholes, Alternative, ForestNode, Forest}
use Rattle.glade_model.specs.Glades.{starts_of}
use Rattle.forest_laws.specs.Lists.{Lists, AreLists, cause_symbol, rule_of, prefixes_by, whole_by, causes_by, alternative_by}
use Rattle.glade_laws.specs.Walks.{is_list_part, option_by, options, end_of, passed, IsFirst, IsOnly, IsSecond}
use Rattle.glade_laws.specs.Walks.IsFirst.{FirstEnds, FirstGoes}
use Rattle.glade_laws.specs.Walks.IsOnly.{OnlyEnds, OnlyGoes}
use Rattle.glade_laws.specs.Walks.IsSecond.{Here, Below}

-- the written starts of flat children
abbrev pub written_starts : Forest → Children → List ℕ
written_starts f cs = starts_of (children_of f.written f.flat cs)

-- the cause of an alternative is a child that begins there, in one way or more
pub record IsChildCause (f : Forest) (lists : Lists) (node : ForestNode) (a : Alternative) : Type 0 where
  pub tree : Tree
  pub more : List Tree
  pub some : causes_by f lists (cause_symbol f node.key) a.start node.key.end a.cause ≡ tree ∷ more
  pub each : (t : Tree) → Among t (causes_by f lists (cause_symbol f node.key) a.start node.key.end a.cause) → (is_list_node f.flat t ≡ false) × (from_of (tree_of f.written f.flat t) ≡ a.start)

abbrev pub IsLater : Forest → Lists → ForestNode → Alternative → Type 0
IsLater f lists node a = (m : ℕ) × (a.predecessor ≡ Some m) × (end_of (slice_get f.nodes m) ≡ a.start) × IsChildCause f lists node a

-- what the last part of a node is: a list at the front, a child at the front, or a child after others
pub data Kind (f : Forest) (lists : Lists) (node : ForestNode) : Type 0 where
  OfList : (start m : ℕ) (more : List ℕ) → node.alternatives ≡ record { start = start; predecessor = None; cause = Wholes (m ∷ more) } ∷ [] → is_list_part f node.key ≡ true →
      ((m' : ℕ) → Among m' (m ∷ more) → is_list (symbol_at f.flat (lhs_of f.flat (rule_of (slice_get f.nodes m')))) ≡ true) → Kind f lists node
  OfFirst : (a : Alternative) → node.alternatives ≡ a ∷ [] → a.predecessor ≡ None → is_list_part f node.key ≡ false → a.start ≡ node.key.origin → IsChildCause f lists node a → Kind f lists node
  OfLater : (a : Alternative) (more : List Alternative) → node.alternatives ≡ a ∷ more → is_list_part f node.key ≡ false → ((b : Alternative) → Among b node.alternatives → IsLater f lists node b) → Kind f lists node

abbrev pub Kinds : Forest → Lists → Type 0
Kinds f lists = (n : ℕ) (node : ForestNode) → slice_get f.nodes n ≡ Some node → Kind f lists node

-- ---- how a list begins, and where it turns

abbrev pub Begins : {X : Type 0} → (X → Type 0) → List X → Type 0
Begins {X} P xs = (x : X) × (rest : List X) × (xs ≡ x ∷ rest) × P x

abbrev pub AreAll : {X : Type 0} → (X → Type 0) → List X → Type 0
AreAll {X} P xs = (x : X) → Among x xs → P x

-- elements that are so, and after them one that is otherwise
abbrev pub Turns : {X : Type 0} → (P Q : X → Type 0) → List X → Type 0
Turns {X} P Q xs = (front : List X) × (x : X) × (rest : List X) × (xs ≡ front ++ x ∷ rest) × AreAll P front × Q x

pub begins_append : {X : Type 0} (P : X → Type 0) (xs ys : List X) → Begins P xs → Begins P (xs ++ ys)
begins_append P xs ys (x, rest, e, p) = (x, rest ++ ys, ap (λ z. z ++ ys) e, p)

pub begins_map : {X Y : Type 0} (P : X → Type 0) (Q : Y → Type 0) (h : X → Y) → ((x : X) → P x → Q (h x)) → (xs : List X) → Begins P xs → Begins Q (map h xs)
begins_map P Q h to xs (x, rest, e, p) = (h x, map h rest, ap (map h) e, to x p)

pub begins_flat_map : {X Y : Type 0} (P : X → Type 0) (Q : Y → Type 0) (h : X → List Y) → ((x : X) → P x → Begins Q (h x)) → (xs : List X) → Begins P xs → Begins Q (flat_map h xs)
begins_flat_map P Q h to xs (x, rest, e, p) = subst (λ zs. Begins Q (flat_map h zs)) (sym e) (begins_append Q (h x) (flat_map h rest) (to x p))

pub all_map : {X Y : Type 0} (P : X → Type 0) (Q : Y → Type 0) (h : X → Y) → ((x : X) → P x → Q (h x)) → (xs : List X) → AreAll P xs → AreAll Q (map h xs)
all_map P Q h to xs all y m = let (x, among, e) = among_map_from h y xs m in subst Q e (to x (all x among))

pub all_flat_map : {X Y : Type 0} (P : X → Type 0) (Q : Y → Type 0) (h : X → List Y) → ((x : X) → P x → AreAll Q (h x)) → (xs : List X) → AreAll P xs → AreAll Q (flat_map h xs)
all_flat_map P Q h to xs all y m = let (x, among, inner) = among_flat_map_from h y xs m in to x (all x among) y inner

pub all_append : {X : Type 0} (P : X → Type 0) (xs ys : List X) → AreAll P xs → AreAll P ys → AreAll P (xs ++ ys)
all_append P xs ys a b y m = elim (among_either y xs ys m) [ inl n ↦ a y n | inr n ↦ b y n ]

assoc : {X : Type 0} (xs ys zs : List X) → (xs ++ ys) ++ zs ≡ xs ++ (ys ++ zs)
assoc [] ys zs = refl
assoc (x ∷ xs) ys zs = ap (λ l. x ∷ l) (assoc xs ys zs)

flat_map_append : {X Y : Type 0} (h : X → List Y) (xs ys : List X) → flat_map h (xs ++ ys) ≡ flat_map h xs ++ flat_map h ys
flat_map_append h [] ys = refl
flat_map_append h (x ∷ xs) ys = ap (λ l. h x ++ l) (flat_map_append h xs ys) ∙ sym (assoc (h x) (flat_map h xs) (flat_map h ys))

pub map_append : {X Y : Type 0} (h : X → Y) (xs ys : List X) → map h (xs ++ ys) ≡ map h xs ++ map h ys
map_append h [] ys = refl
map_append h (x ∷ xs) ys = ap (λ l. h x ∷ l) (map_append h xs ys)

pub turns_append : {X : Type 0} (P Q : X → Type 0) (xs ys : List X) → Turns P Q xs → Turns P Q (xs ++ ys)
turns_append P Q xs ys (front, x, rest, e, all, q) = (front, x, rest ++ ys, ap (λ z. z ++ ys) e ∙ assoc front (x ∷ rest) ys, all, q)

pub turns_after : {X : Type 0} (P Q : X → Type 0) (xs ys : List X) → AreAll P xs → Begins Q ys → Turns P Q (xs ++ ys)
turns_after P Q xs ys all (x, rest, e, q) = (xs, x, rest, ap (λ z. xs ++ z) e, all, q)

pub turns_map : {X Y : Type 0} (P Q : X → Type 0) (P' Q' : Y → Type 0) (h : X → Y) → ((x : X) → P x → P' (h x)) → ((x : X) → Q x → Q' (h x)) → (xs : List X) → Turns P Q xs → Turns P' Q' (map h xs)
turns_map P Q P' Q' h to to' xs (front, x, rest, e, all, q) = (map h front, h x, map h rest, ap (map h) e ∙ map_append h front (x ∷ rest), all_map P P' h to front all, to' x q)

pub turns_flat_map : {X Y : Type 0} (P Q : X → Type 0) (P' Q' : Y → Type 0) (h : X → List Y) → ((x : X) → P x → AreAll P' (h x)) → ((x : X) → Q x → Begins Q' (h x)) → (xs : List X) → Turns P Q xs → Turns P' Q' (flat_map h xs)
turns_flat_map P Q P' Q' h to to' xs (front, x, rest, e, all, q) =
    subst (Turns P' Q') (sym (ap (flat_map h) e ∙ flat_map_append h front (x ∷ rest)))
    (turns_after P' Q' (flat_map h front) (flat_map h (x ∷ rest)) (all_flat_map P P' h to front all) (begins_append Q' (h x) (flat_map h rest) (to' x q)))

pub no_nil : {X : Type 0} (x : X) (xs : List X) → [] ≡ x ∷ xs → ⊥
no_nil x xs e = cc

module _ (f : Forest) (lists : Lists) (are : AreLists f lists) (kinds : Kinds f lists) where
  abbrev pub Has : List ℕ → Children → Type 0
  Has s cs = written_starts f cs ≡ s

  -- ---- what stands after a child

  module _ (node : ForestNode) (a : Alternative) (cause : IsChildCause f lists node a) (s : List ℕ) where
    abbrev trees : List Tree
    trees = causes_by f lists (cause_symbol f node.key) a.start node.key.end a.cause

    abbrev made : List Children
    made = alternative_by f lists (cause_symbol f node.key) node.key.end a

    behind : (p : Children) (t : Tree) → Has s p → Among t trees → Has (s ++ a.start ∷ []) (Child p t)
    behind p t h m =
        let (child, from) = cause.each t m in
        ap starts_of (cond-false _ _ _ child) ∙ (λ i. h i ++ from i ∷ [])

    all_behind : (p : Children) → Has s p → AreAll (Has (s ++ a.start ∷ [])) (map (Child p) trees)
    all_behind p h c m = let (t, among, e) = among_map_from (Child p) c trees m in subst (Has (s ++ a.start ∷ [])) e (behind p t h among)

    begins_behind : (p : Children) → Has s p → Begins (Has (s ++ a.start ∷ [])) (map (Child p) trees)
    begins_behind p h = (Child p cause.tree, map (Child p) cause.more, ap (map (Child p)) cause.some, behind p cause.tree h (subst (Among cause.tree) (sym cause.some) (inl refl)))

    child_begins : Begins (Has s) (prefixes_by lists a.predecessor) → Begins (Has (s ++ a.start ∷ [])) made
    child_begins b = begins_flat_map (Has s) (Has (s ++ a.start ∷ [])) (λ p. map (Child p) trees) begins_behind (prefixes_by lists a.predecessor) b

    child_all : AreAll (Has s) (prefixes_by lists a.predecessor) → AreAll (Has (s ++ a.start ∷ [])) made
    child_all b = all_flat_map (Has s) (Has (s ++ a.start ∷ [])) (λ p. map (Child p) trees) all_behind (prefixes_by lists a.predecessor) b

  child_turns : (node : ForestNode) (a : Alternative) → IsChildCause f lists node a → (s s' : List ℕ) → Turns (Has s) (Has s') (prefixes_by lists a.predecessor) →
      Turns (Has (s ++ a.start ∷ [])) (Has (s' ++ a.start ∷ [])) (alternative_by f lists (cause_symbol f node.key) node.key.end a)
  child_turns node a cause s s' b =
      turns_flat_map (Has s) (Has s') (Has (s ++ a.start ∷ [])) (Has (s' ++ a.start ∷ [])) (λ p. map (Child p) (causes_by f lists (cause_symbol f node.key) a.start node.key.end a.cause))
      (all_behind node a cause s) (begins_behind node a cause s') (prefixes_by lists a.predecessor) b

  -- ---- what a list's nodes stand for

  abbrev Listed : List ℕ → Tree → Type 0
  Listed s t = Has s (Child NoChild t)

  module _ (start end m : ℕ) (of : is_list (symbol_at f.flat (lhs_of f.flat (rule_of (slice_get f.nodes m)))) ≡ true) where
    listed : (s : List ℕ) (cs : Children) → Has s cs → Listed s (Node (rule_of (slice_get f.nodes m)) cs start end)
    listed s cs h = ap starts_of (cond-true _ _ _ of ∙ join-NoChild (children_of f.written f.flat cs)) ∙ h

    whole_begins : (s : List ℕ) → Begins (Has s) (lists m) → Begins (Listed s) (whole_by f lists start end m)
    whole_begins s b = begins_map (Has s) (Listed s) _ (listed s) (lists m) b

    whole_all : (s : List ℕ) → AreAll (Has s) (lists m) → AreAll (Listed s) (whole_by f lists start end m)
    whole_all s b = all_map (Has s) (Listed s) _ (listed s) (lists m) b

    whole_turns : (s s' : List ℕ) → Turns (Has s) (Has s') (lists m) → Turns (Listed s) (Listed s') (whole_by f lists start end m)
    whole_turns s s' b = turns_map (Has s) (Has s') (Listed s) (Listed s') _ (listed s) (listed s') (lists m) b

  -- ---- a node by its kind

  -- what a node stands for, of which its first part is a list
  list_is : (n : ℕ) (node : ForestNode) → slice_get f.nodes n ≡ Some node → (start : ℕ) (nodes : List ℕ) → node.alternatives ≡ record { start = start; predecessor = None; cause = Wholes nodes } ∷ [] →
      lists n ≡ (map (Child NoChild) (flat_map (whole_by f lists start node.key.end) nodes) ++ []) ++ []
  list_is n node there start nodes is = are n node there ∙ ap (flat_map (alternative_by f lists (cause_symbol f node.key) node.key.end)) is

  module _ (P : Children → Type 0) where
    whole_list_begins : (xs : List Tree) → Begins (λ t. P (Child NoChild t)) xs → Begins P ((map (Child NoChild) xs ++ []) ++ [])
    whole_list_begins xs b = begins_append P _ [] (begins_append P _ [] (begins_map (λ t. P (Child NoChild t)) P (Child NoChild) (λ t h. h) xs b))

    whole_list_all : (xs : List Tree) → AreAll (λ t. P (Child NoChild t)) xs → AreAll P ((map (Child NoChild) xs ++ []) ++ [])
    whole_list_all xs b = all_append P _ [] (all_append P _ [] (all_map (λ t. P (Child NoChild t)) P (Child NoChild) (λ t h. h) xs b) (λ x m. absurd m)) (λ x m. absurd m)

  whole_list_turns : (P Q : Children → Type 0) (xs : List Tree) → Turns (λ t. P (Child NoChild t)) (λ t. Q (Child NoChild t)) xs → Turns P Q ((map (Child NoChild) xs ++ []) ++ [])
  whole_list_turns P Q xs b = turns_append P Q _ [] (turns_append P Q _ [] (turns_map (λ t. P (Child NoChild t)) (λ t. Q (Child NoChild t)) P Q (Child NoChild) (λ t h. h) (λ t h. h) xs b))

  -- a node's options by its kind
  pub list_options : (node : ForestNode) (start : ℕ) (nodes : List ℕ) → node.alternatives ≡ record { start = start; predecessor = None; cause = Wholes nodes } ∷ [] → is_list_part f node.key ≡ true → options f node ≡ nodes ++ []
  list_options node start nodes is list = ap (flat_map (λ a. option_by (is_list_part f node.key) a.predecessor a.cause)) is ∙ ap (λ b. cond b nodes [] ++ []) list

  pub first_options : (node : ForestNode) (a : Alternative) → node.alternatives ≡ a ∷ [] → a.predecessor ≡ None → is_list_part f node.key ≡ false → options f node ≡ []
  first_options node a is before list =
      ap (flat_map (λ a. option_by (is_list_part f node.key) a.predecessor a.cause)) is ∙ (λ i. option_by (list i) (before i) a.cause ++ [])

  pub later_options : (node : ForestNode) (a : Alternative) (more : List Alternative) (m : ℕ) → node.alternatives ≡ a ∷ more → a.predecessor ≡ Some m →
      options f node ≡ m ∷ flat_map (λ b. option_by (is_list_part f node.key) b.predecessor b.cause) more
  later_options node a more m is before = ap (flat_map (λ a. option_by (is_list_part f node.key) a.predecessor a.cause)) is ∙ ap (λ p. option_by (is_list_part f node.key) p a.cause ++ flat_map (λ b. option_by (is_list_part f node.key) b.predecessor b.cause) more) before

  pub same_head : {x y : ℕ} {xs ys : List ℕ} → x ∷ xs ≡ y ∷ ys → x ≡ y
  same_head e = cc

  pub same_tail : {x y : ℕ} {xs ys : List ℕ} → x ∷ xs ≡ y ∷ ys → xs ≡ ys
  same_tail e = cc

  pub no_head : {x : ℕ} {xs : List ℕ} → x ∷ xs ≡ [] → ⊥
  no_head e = cc

  -- what a node stands for whose alternatives begin with this one
  later_is : (n : ℕ) (node : ForestNode) → slice_get f.nodes n ≡ Some node → (a : Alternative) (more : List Alternative) → node.alternatives ≡ a ∷ more →
      lists n ≡ alternative_by f lists (cause_symbol f node.key) node.key.end a ++ flat_map (alternative_by f lists (cause_symbol f node.key) node.key.end) more
  later_is n node there a more is = are n node there ∙ ap (flat_map (alternative_by f lists (cause_symbol f node.key) node.key.end)) is

  before_is : (a : Alternative) (m m' : ℕ) → a.predecessor ≡ Some m' → m' ≡ m → lists m ≡ prefixes_by lists a.predecessor
  before_is a m m' before same = sym (ap (prefixes_by lists) before ∙ ap lists same)

  -- the starts that are passed where the last part is a child that begins there
  passed_child : (node : ForestNode) (m m' : ℕ) (start : ℕ) (s : List ℕ) → is_list_part f node.key ≡ false → m' ≡ m → end_of (slice_get f.nodes m') ≡ start → s ++ start ∷ [] ≡ passed f node m s
  passed_child node m m' start s list same end =
      ap (λ x. s ++ x ∷ []) (sym end ∙ ap (λ k. end_of (slice_get f.nodes k)) same) ∙ sym (ap (λ b. cond b s (s ++ end_of (slice_get f.nodes m) ∷ [])) list)

  pub passed_list : (node : ForestNode) (m : ℕ) (s : List ℕ) → is_list_part f node.key ≡ true → s ≡ passed f node m s
  passed_list node m s list = sym (ap (λ b. cond b s (s ++ end_of (slice_get f.nodes m) ∷ [])) list)

  pub first_is : (n : ℕ) (s : List ℕ) → IsFirst f n s → Begins (Has s) (lists n)
  first_is n s (FirstEnds node there none) = go (kinds n node there)
    where
      go : Kind f lists node → Begins (Has (node.key.origin ∷ [])) (lists n)
      go (OfFirst a is before list start cause) =
          let b : Begins (Has []) (prefixes_by lists a.predecessor) = (NoChild, [], ap (prefixes_by lists) before, refl) in
          subst (λ x. Begins (Has (x ∷ [])) (lists n)) start (subst (Begins (Has (a.start ∷ []))) (sym (later_is n node there a [] is)) (begins_append (Has (a.start ∷ [])) _ [] (child_begins node a cause [] b)))
      go (OfList start m more is list of) = absurd (no_head (sym (list_options node start (m ∷ more) is list) ∙ none))
      go (OfLater a more is list each) =
          let (m, before, end, cause) = each a (subst (Among a) (sym is) (inl refl)) in
          absurd (no_head (sym (later_options node a more m is before) ∙ none))
  first_is n s (FirstGoes node m rest starts there some walk) = go (kinds n node there) (first_is m starts walk)
    where
      go : Kind f lists node → Begins (Has starts) (lists m) → Begins (Has (passed f node m starts)) (lists n)
      go (OfFirst a is before list start cause) b = absurd (no_nil m rest (sym (first_options node a is before list) ∙ some))
      go (OfList start m' more is list of) b =
          let same : m' ≡ m = same_head (sym (list_options node start (m' ∷ more) is list) ∙ some) in
          let b' : Begins (Has starts) (lists m') = subst (λ k. Begins (Has starts) (lists k)) (sym same) b in
          let whole = begins_append (Listed starts) _ (flat_map (whole_by f lists start node.key.end) more) (whole_begins start node.key.end m' (of m' (inl refl)) starts b') in
          subst (λ z. Begins (Has z) (lists n)) (passed_list node m starts list) (subst (Begins (Has starts)) (sym (list_is n node there start (m' ∷ more) is)) (whole_list_begins (Has starts) _ whole))
      go (OfLater a more is list each) b =
          let (m', before, end, cause) = each a (subst (Among a) (sym is) (inl refl)) in
          let same : m' ≡ m = same_head (sym (later_options node a more m' is before) ∙ some) in
          let b' : Begins (Has starts) (prefixes_by lists a.predecessor) = subst (Begins (Has starts)) (before_is a m m' before same) b in
          subst (λ z. Begins (Has z) (lists n)) (passed_child node m m' a.start starts list same end)
          (subst (Begins (Has (starts ++ a.start ∷ []))) (sym (later_is n node there a more is)) (begins_append (Has (starts ++ a.start ∷ [])) _ _ (child_begins node a cause starts b')))

  -- no other alternative, where there is one option
  alone : (node : ForestNode) (a : Alternative) (more : List Alternative) (m : ℕ) → node.alternatives ≡ a ∷ more → ((b : Alternative) → Among b node.alternatives → IsLater f lists node b) →
      flat_map (λ b. option_by (is_list_part f node.key) b.predecessor b.cause) more ≡ [] → more ≡ []
  alone node a [] m is each none = refl
  alone node a (b ∷ bs) m is each none =
      let (m', before, end, cause) = each b (subst (Among b) (sym is) (inr (inl refl))) in
      absurd (no_head (sym (ap (λ p. option_by (is_list_part f node.key) p b.cause ++ flat_map (λ c. option_by (is_list_part f node.key) c.predecessor c.cause) bs) before) ∙ none))

  no_more : (xs : List ℕ) → xs ++ [] ≡ [] → xs ≡ []
  no_more [] e = refl
  no_more (x ∷ xs) e = absurd (no_head e)

  pub only_is : (n : ℕ) (s : List ℕ) → IsOnly f n s → AreAll (Has s) (lists n)
  only_is n s (OnlyEnds node there none) = go (kinds n node there)
    where
      go : Kind f lists node → AreAll (Has (node.key.origin ∷ [])) (lists n)
      go (OfFirst a is before list start cause) =
          let b : AreAll (Has []) (prefixes_by lists a.predecessor) = λ p m. only_empty p (subst (Among p) (ap (prefixes_by lists) before) m) in
          subst (λ x. AreAll (Has (x ∷ [])) (lists n)) start (subst (AreAll (Has (a.start ∷ []))) (sym (later_is n node there a [] is)) (all_append (Has (a.start ∷ [])) _ [] (child_all node a cause [] b) (λ x m. absurd m)))
        where
          only_empty : (p : Children) → Among p (NoChild ∷ []) → Has [] p
          only_empty p (inl e) = subst (Has []) e refl
          only_empty p (inr m) = absurd m
      go (OfList start m more is list of) = absurd (no_head (sym (list_options node start (m ∷ more) is list) ∙ none))
      go (OfLater a more is list each) =
          let (m, before, end, cause) = each a (subst (Among a) (sym is) (inl refl)) in
          absurd (no_head (sym (later_options node a more m is before) ∙ none))
  only_is n s (OnlyGoes node m starts there some walk) = go (kinds n node there) (only_is m starts walk)
    where
      go : Kind f lists node → AreAll (Has starts) (lists m) → AreAll (Has (passed f node m starts)) (lists n)
      go (OfFirst a is before list start cause) b = absurd (no_nil m [] (sym (first_options node a is before list) ∙ some))
      go (OfList start m' more is list of) b =
          let e = sym (list_options node start (m' ∷ more) is list) ∙ some in
          let same : m' ≡ m = same_head e in
          let none : more ≡ [] = no_more more (same_tail e) in
          let b' : AreAll (Has starts) (lists m') = subst (λ k. AreAll (Has starts) (lists k)) (sym same) b in
          let whole : AreAll (Listed starts) (flat_map (whole_by f lists start node.key.end) (m' ∷ more)) =
          all_append (Listed starts) _ _ (whole_all start node.key.end m' (of m' (inl refl)) starts b') (subst (λ zs. AreAll (Listed starts) (flat_map (whole_by f lists start node.key.end) zs)) (sym none) (λ x k. absurd k)) in
          subst (λ z. AreAll (Has z) (lists n)) (passed_list node m starts list) (subst (AreAll (Has starts)) (sym (list_is n node there start (m' ∷ more) is)) (whole_list_all (Has starts) _ whole))
      go (OfLater a more is list each) b =
          let (m', before, end, cause) = each a (subst (Among a) (sym is) (inl refl)) in
          let e = sym (later_options node a more m' is before) ∙ some in
          let same : m' ≡ m = same_head e in
          let none : more ≡ [] = alone node a more m' is each (same_tail e) in
          let b' : AreAll (Has starts) (prefixes_by lists a.predecessor) = subst (AreAll (Has starts)) (before_is a m m' before same) b in
          let rest : AreAll (Has (starts ++ a.start ∷ [])) (flat_map (alternative_by f lists (cause_symbol f node.key) node.key.end) more) =
          subst (λ zs. AreAll (Has (starts ++ a.start ∷ [])) (flat_map (alternative_by f lists (cause_symbol f node.key) node.key.end) zs)) (sym none) (λ x k. absurd k) in
          subst (λ z. AreAll (Has z) (lists n)) (passed_child node m m' a.start starts list same end)
          (subst (AreAll (Has (starts ++ a.start ∷ []))) (sym (later_is n node there a more is)) (all_append (Has (starts ++ a.start ∷ [])) _ _ (child_all node a cause starts b') rest))

  pub second_is : (n : ℕ) (s s' : List ℕ) → IsSecond f n s s' → Turns (Has s) (Has s') (lists n)
  second_is n s s' (Here node m m' rest starts others there some walk other) = go (kinds n node there) (only_is m starts walk) (first_is m' others other)
    where
      go : Kind f lists node → AreAll (Has starts) (lists m) → Begins (Has others) (lists m') → Turns (Has (passed f node m starts)) (Has (passed f node m' others)) (lists n)
      go (OfFirst a is before list start cause) b c = absurd (no_nil m (m' ∷ rest) (sym (first_options node a is before list) ∙ some))
      go (OfList start k [] is list of) b c = absurd (no_nil m' rest (same_tail (sym (list_options node start (k ∷ []) is list) ∙ some)))
      go (OfList start k (k' ∷ more) is list of) b c =
          let e = sym (list_options node start (k ∷ k' ∷ more) is list) ∙ some in
          let same : k ≡ m = same_head e in
          let same' : k' ≡ m' = same_head (same_tail e) in
          let b' = whole_all start node.key.end k (of k (inl refl)) starts (subst (λ x. AreAll (Has starts) (lists x)) (sym same) b) in
          let c' = begins_append (Listed others) _ (flat_map (whole_by f lists start node.key.end) more) (whole_begins start node.key.end k' (of k' (inr (inl refl))) others (subst (λ x. Begins (Has others) (lists x)) (sym same') c)) in
          let turned = whole_list_turns (Has starts) (Has others) _ (turns_after (Listed starts) (Listed others) _ _ b' c') in
          subst (λ z. Turns (Has (passed f node m starts)) (Has z) (lists n)) (passed_list node m' others list)
          (subst (λ z. Turns (Has z) (Has others) (lists n)) (passed_list node m starts list) (subst (Turns (Has starts) (Has others)) (sym (list_is n node there start (k ∷ k' ∷ more) is)) turned))
      go (OfLater a [] is list each) b c =
          let (k, before, end, cause) = each a (subst (Among a) (sym is) (inl refl)) in
          absurd (no_nil m' rest (same_tail (sym (later_options node a [] k is before) ∙ some)))
      go (OfLater a (a' ∷ more) is list each) b c =
          let (k, before, end, cause) = each a (subst (Among a) (sym is) (inl refl)) in
          let (k', before', end', cause') = each a' (subst (Among a') (sym is) (inr (inl refl))) in
          let e = sym (later_options node a (a' ∷ more) k is before) ∙ some in
          let same : k ≡ m = same_head e in
          let opened = ap (λ p. option_by (is_list_part f node.key) p a'.cause ++ flat_map (λ d. option_by (is_list_part f node.key) d.predecessor d.cause) more) before' in
          let same' : k' ≡ m' = same_head (sym opened ∙ same_tail e) in
          let b' = child_all node a cause starts (subst (AreAll (Has starts)) (before_is a m k before same) b) in
          let c' = begins_append (Has (others ++ a'.start ∷ [])) _ (flat_map (alternative_by f lists (cause_symbol f node.key) node.key.end) more) (child_begins node a' cause' others (subst (Begins (Has others)) (before_is a' m' k' before' same') c)) in
          let turned = turns_after (Has (starts ++ a.start ∷ [])) (Has (others ++ a'.start ∷ [])) _ _ b' c' in
          subst (λ z. Turns (Has (passed f node m starts)) (Has z) (lists n)) (passed_child node m' k' a'.start others list same' end')
          (subst (λ z. Turns (Has z) (Has (others ++ a'.start ∷ [])) (lists n)) (passed_child node m k a.start starts list same end) (subst (Turns (Has (starts ++ a.start ∷ [])) (Has (others ++ a'.start ∷ []))) (sym (later_is n node there a (a' ∷ more) is)) turned))
  second_is n s s' (Below node m rest starts others there some walk) = go (kinds n node there) (second_is m starts others walk)
    where
      go : Kind f lists node → Turns (Has starts) (Has others) (lists m) → Turns (Has (passed f node m starts)) (Has (passed f node m others)) (lists n)
      go (OfFirst a is before list start cause) b = absurd (no_nil m rest (sym (first_options node a is before list) ∙ some))
      go (OfList start k more is list of) b =
          let same : k ≡ m = same_head (sym (list_options node start (k ∷ more) is list) ∙ some) in
          let b' = whole_turns start node.key.end k (of k (inl refl)) starts others (subst (λ x. Turns (Has starts) (Has others) (lists x)) (sym same) b) in
          let turned = whole_list_turns (Has starts) (Has others) _ (turns_append (Listed starts) (Listed others) _ (flat_map (whole_by f lists start node.key.end) more) b') in
          subst (λ z. Turns (Has (passed f node m starts)) (Has z) (lists n)) (passed_list node m others list)
          (subst (λ z. Turns (Has z) (Has others) (lists n)) (passed_list node m starts list) (subst (Turns (Has starts) (Has others)) (sym (list_is n node there start (k ∷ more) is)) turned))
      go (OfLater a more is list each) b =
          let (k, before, end, cause) = each a (subst (Among a) (sym is) (inl refl)) in
          let same : k ≡ m = same_head (sym (later_options node a more k is before) ∙ some) in
          let b' = child_turns node a cause starts others (subst (Turns (Has starts) (Has others)) (before_is a m k before same) b) in
          let turned = turns_append (Has (starts ++ a.start ∷ [])) (Has (others ++ a.start ∷ [])) _ (flat_map (alternative_by f lists (cause_symbol f node.key) node.key.end) more) b' in
          subst (λ z. Turns (Has (passed f node m starts)) (Has z) (lists n)) (passed_child node m k a.start others list same end)
          (subst (λ z. Turns (Has z) (Has (others ++ a.start ∷ [])) (lists n)) (passed_child node m k a.start starts list same end) (subst (Turns (Has (starts ++ a.start ∷ [])) (Has (others ++ a.start ∷ []))) (sym (later_is n node there a more is)) turned))
