-- What the last part of a forest's node is: a list stands at the front of its rule alone, and what stands after a part is a child.
use Rattle.std.proofs.Common.{◌≡◌, ℕ, zero, suc, ◌<◌, Bool, true, false, List, [], ◌∷◌, map, flat_map, length, inl, inr, Option, Some, None, Contains, refl, sym, ap, ◌∙◌, subst, arith}
use Rattle.std.specs.Prelude.{slice_get, slice_index_or, ◌-◌}
use Rattle.std.specs.List.Sorted.{IsStrictlySortedBy}
use Rattle.std.specs.declared.cmp.Ordering.{Ordering}
use Rattle.std.specs.declared.cmp.Ordering.TheVariants.{Less, Equal}
use Rattle.std.specs.Ordering.{ordering_then}
use Rattle.std.specs.Cmp.{tied_itself, nat_cmp_total}
use Rattle.std.proofs.lemmas.Bool.{true≢false}
use Rattle.std.proofs.lemmas.Option.{slice_get-get_or}
use Rattle.finite_sets.proofs.Lists.{get_among, get_index, among_get}
use Rattle.finite_sets.proofs.Members.{Among, contains_from, among_map, among_flat_map_from, among_map_from}
use Rattle.grammar_model.specs.Grammar.{Grammar}
use Rattle.grammar_model.specs.Grammar
use Rattle.grammar_model.specs.Trees.{Tree, Children, Node, from_of}
use Rattle.recognizer_model.specs.declared.flat.FlatSymbol.{FlatSymbol}
use Rattle.recognizer_model.specs.declared.flat.FlatSymbol.TheVariants.{Terminal, Slot, Sequence, Top}
use Rattle.recognizer_model.specs.declared.flat.FlatSource.{FlatSource}
use Rattle.recognizer_model.specs.declared.flat.FlatSource.TheVariants.{Written, Top as OfStart}
use Rattle.recognizer_model.specs.Invariant.{IsFlat, HasSource}
use Rattle.recognizer_model.specs.Flat.{FlatGrammar, FlatRule, no_rule, IsRule, lhs_of, rhs_of, source_of, part_of}
use Rattle.recognizer_model.specs.FlatForm.{Stands, AsTerminal, AsSlot, StandAll, NamedRule, named, IsRuleOf, OfPlain, OfList, OfTrailing, OfItem, OfItems, OfSeparated, OfTop, symbol_at, is_list, is_list_node, tree_of, node_by, children_of}
use Rattle.recognizer_model.proofs.Sources.{rule_there}
use Rattle.forest_model.specs.Forest.{Cause, AnEdge, Nothing, Wholes, Alternative, ForestNode, Forest, IsForest, IsCause, AreWholes, IsPredecessor, AreAlternatives, start_place, starts_cmp, ranks_high}
use Rattle.forest_laws.specs.Lists.{Lists, AreLists, cause_symbol, rule_of, causes_by, whole_by, alternative_by}
use Rattle.glade_laws.specs.Walks.{is_list_part, end_of}
use Rattle.glade_laws.proofs.Walked.{IsChildCause, IsLater, Kind, OfList as ListKind, OfFirst as FirstKind, OfLater as LaterKind, Kinds}

-- each node stands for something, and so does each cause
pub record IsStocked (f : Forest) (lists : Lists) : Type 0 where
  pub nodes : (n : ℕ) (node : ForestNode) → slice_get f.nodes n ≡ Some node → (cs : Children) × Among cs (lists n)
  pub causes : (n : ℕ) (node : ForestNode) (a : Alternative) → slice_get f.nodes n ≡ Some node → Contains node.alternatives a →
      (t : Tree) × Among t (causes_by f lists (cause_symbol f node.key) a.start node.key.end a.cause)

-- ---- parts of flat rules

pub no_list : (w : Grammar) (slot : Grammar.Slot) (s : FlatSymbol) → Stands w slot s → is_list s ≡ false
no_list w slot (Terminal t) (AsTerminal h) = refl
no_list w slot (Slot t k) (AsSlot h) = refl
no_list w slot (Sequence i) h = elim h [ ]
no_list w slot (Top k) h = elim h [ ]

pub all_no_list : (w : Grammar) (rule : Grammar.WrittenRule) (k : ℕ) (ss : List FlatSymbol) → StandAll w rule k ss → (d : ℕ) (s : FlatSymbol) → slice_get ss d ≡ Some s → is_list s ≡ false
all_no_list w rule k [] h d s e = cc
all_no_list w rule k (x ∷ xs) h zero s e = let same : x ≡ s = cc in no_list w (Grammar.child_slot rule k) s (subst (Stands w (Grammar.child_slot rule k)) same h.0)
all_no_list w rule k (x ∷ xs) h (suc d) s e = all_no_list w rule (suc k) xs h.1 d s e

pub none_there : {s : FlatSymbol} → None ≡ Some s → ⊥
none_there e = cc

-- what stands after the first part is no list
pub later_no_list : (w : Grammar) (n : NamedRule) → IsRuleOf w n → (d : ℕ) (s : FlatSymbol) → slice_get n.right (suc d) ≡ Some s → is_list s ≡ false
later_no_list w n (OfPlain i t k r right a b c live fits used count all) d s e = all_no_list w (Grammar.Plain r) 0 right all (suc d) s e
later_no_list w n (OfList i r a b) d s e = absurd (none_there e)
later_no_list w n (OfTrailing i separator r c a b same proper productive st) zero s e = let is : c ≡ s = cc in subst (λ x. is_list x ≡ false) is (no_list w (Grammar.slot_of separator) c st)
later_no_list w n (OfTrailing i separator r c a b same proper productive st) (suc d) s e = absurd (none_there e)
later_no_list w n (OfItem i r b a c st) d s e = absurd (none_there e)
later_no_list w n (OfItems i r b a c none st) zero s e = let is : b ≡ s = cc in subst (λ x. is_list x ≡ false) is (no_list w (Grammar.slot_of r.item) b st)
later_no_list w n (OfItems i r b a c none st) (suc d) s e = absurd (none_there e)
later_no_list w n (OfSeparated i separator r b c a same some productive st st') zero s e = let is : c ≡ s = cc in subst (λ x. is_list x ≡ false) is (no_list w (Grammar.slot_of separator) c st)
later_no_list w n (OfSeparated i separator r b c a same some productive st st') (suc zero) s e = let is : b ≡ s = cc in subst (λ x. is_list x ≡ false) is (no_list w (Grammar.slot_of r.item) b st')
later_no_list w n (OfSeparated i separator r b c a same some productive st st') (suc (suc d)) s e = absurd (none_there e)
later_no_list w n (OfTop k start t a st) d s e = absurd (none_there e)

pub sorted_two : {X : Type 0} (R : X → X → Ordering) (x y : X) (rest : List X) → IsStrictlySortedBy R (x ∷ y ∷ rest) → R x y ≡ Less
unfolding IsStrictlySortedBy
sorted_two R x y rest h = h.0.0

pub get_map : {X Y : Type 0} (h : X → Y) (xs : List X) (k : ℕ) (x : X) → slice_get xs k ≡ Some x → slice_get (map h xs) k ≡ Some (h x)
get_map h [] k x e = absurd (cc)
get_map h (y ∷ ys) zero x e = let is : y ≡ x = cc in ap (λ z. Some (h z)) is
get_map h (y ∷ ys) (suc k) x e = get_map h ys k x e

module _ (f : Forest) (is : IsForest f) (lists : Lists) (are : AreLists f lists) (stocked : IsStocked f lists) where
  abbrev g : FlatGrammar
  g = f.flat

  abbrev flat : IsFlat f.flat
  flat = is.derived.flat

  rule_named : (r : ℕ) → IsRule g r → IsRuleOf f.written (named g (slice_index_or g.rules r no_rule))
  rule_named r rule =
      let x : FlatRule = slice_index_or g.rules r no_rule in
      let at = get_among g.rules r x (slice_get-get_or g.rules r no_rule rule) in
      (is.derived.flat_of.rules.exact (named g x)).0 (contains_from (map (named g) g.rules) (named g x) (among_map (named g) x g.rules at))

  -- a list is the first part
  later_part : (r d x : ℕ) → part_of g r (suc d) ≡ Some x → is_list (symbol_at g x) ≡ false
  later_part r d x part =
      later_no_list f.written (named g (slice_index_or g.rules r no_rule)) (rule_named r (rule_there g.rules r (suc d) x part)) d (symbol_at g x)
      (get_map (symbol_at g) (rhs_of g r) (suc d) x part)

  -- a part is no top, so what derives it comes from a written rule
  part_no_top : (r d x k : ℕ) → part_of g r d ≡ Some x → slice_get f.flat.symbols x ≡ Some (Top k) → ⊥
  part_no_top r d x k part at =
      let r' : ℕ = slice_index_or g.tops k 0 in
      let top = flat.tops k r' (slice_get-get_or g.tops k 0 (flat.all_tops x k at)) in
      let same : x ≡ lhs_of g r' = flat.differ x (lhs_of g r') (Top k) at top.symbol in
      top.is_top.outermost r d (part ∙ ap Some same)

  source_written : (r : ℕ) → IsRule g r → ((k : ℕ) → slice_get f.flat.symbols (lhs_of g r) ≡ Some (Top k) → ⊥) → (i : ℕ) × (source_of g r ≡ Written i)
  source_written r rule other =
      let at = slice_get-get_or g.symbols (lhs_of g r) (Top 0) (flat.in_range.left r rule) in
      go (symbol_at g (lhs_of g r)) at (source_of g r) refl (flat.sources r (symbol_at g (lhs_of g r)) rule at)
    where
      go : (s : FlatSymbol) → slice_get f.flat.symbols (lhs_of f.flat r) ≡ Some s → (source : FlatSource) → source_of f.flat r ≡ source → HasSource s source → (i : ℕ) × (source_of f.flat r ≡ Written i)
      go (Terminal t) at (Written i) e h = absurd h
      go (Terminal t) at (OfStart k) e h = absurd h
      go (Slot t l) at (Written i) e h = (i, e)
      go (Slot t l) at (OfStart k) e h = absurd h
      go (Sequence j) at (Written i) e h = (i, e)
      go (Sequence j) at (OfStart k) e h = absurd h
      go (Top j) at (Written i) e h = absurd h
      go (Top j) at (OfStart k) e h = absurd (other j at)

  -- ---- one node

  module _ (n : ℕ) (node : ForestNode) (there : slice_get f.nodes n ≡ Some node) (a : AreAlternatives f node.key node.alternatives) where
    abbrev x : ℕ
    x = a.symbol

    symbol_is : cause_symbol f node.key ≡ x
    symbol_is =
        let d : node.key.dot - 1 ≡ a.dot = (let e = a.dot_is in omega (arith, e)) in
        ap (λ k. slice_index_or (rhs_of g node.key.rule) k 0) d ∙ (get_index (rhs_of g node.key.rule) a.dot 0 x a.part).1

    list_is : is_list_part f node.key ≡ is_list (symbol_at g x)
    list_is = ap (λ s. is_list (symbol_at g s)) symbol_is

    -- the rules of a cause's nodes
    whole_rule : (m q : ℕ) (nodes : List ℕ) → AreWholes f x m q nodes → (k : ℕ) → Among k nodes → IsRule g (rule_of (slice_get f.nodes k)) × (lhs_of g (rule_of (slice_get f.nodes k)) ≡ x)
    whole_rule m q nodes wholes k among =
        let (i, at) = among_get nodes k among in
        let lt = (get_index nodes i 0 k at).0 in
        let count = wholes.all in
        let rule_at = slice_get-get_or wholes.rules i 0 (omega (arith, lt, count)) in
        let (inner, e, key) = wholes.each i k (slice_index_or wholes.rules i 0) at rule_at in
        let rule_is : rule_of (slice_get f.nodes k) ≡ slice_index_or wholes.rules i 0 = ap rule_of e ∙ ap (λ z. z.rule) key in
        let (over, allowed) = (wholes.exact (slice_index_or wholes.rules i 0)).0 (contains_from wholes.rules _ (get_among wholes.rules i _ rule_at)) in
        (subst (IsRule g) (sym rule_is) over.is_rule, ap (lhs_of g) rule_is ∙ over.left)

    -- a cause that is no list is a child that begins at the start
    child_cause : is_list (symbol_at g x) ≡ false → (b : Alternative) → Contains node.alternatives b → IsChildCause f lists node b
    child_cause none b held =
        let (t, m) = stocked.causes n node b there held in
        let (first, more, e) = begins trees t m in
        record { tree = first; more = more; some = e; each = λ u k. by b.cause (a.each b held).cause u k }
      where
        trees : List Tree
        trees = causes_by f lists (cause_symbol f node.key) b.start node.key.end b.cause

        begins : (ts : List Tree) (t : Tree) → Among t ts → (u : Tree) × (us : List Tree) × (ts ≡ u ∷ us)
        begins [] t m = absurd m
        begins (u ∷ us) t m = (u, us, refl)

        from_node : (r : ℕ) (cs : Children) → ((i : ℕ) × (source_of g r ≡ Written i)) → from_of (tree_of f.written g (Node r cs b.start node.key.end)) ≡ b.start
        from_node r cs (i, e) = ap (λ s. from_of (node_by s (children_of f.written g cs) b.start node.key.end)) e

        by : (cause : Cause) → IsCause f x b.start node.key.end cause → (u : Tree) → Among u (causes_by f lists (cause_symbol f node.key) b.start node.key.end cause) → (is_list_node g u ≡ false) × (from_of (tree_of f.written g u) ≡ b.start)
        by AnEdge h u (inl e) = subst (λ z. (is_list_node g z ≡ false) × (from_of (tree_of f.written g z) ≡ b.start)) e (refl, refl)
        by AnEdge h u (inr m) = absurd m
        by Nothing h u (inl e) = subst (λ z. (is_list_node g z ≡ false) × (from_of (tree_of f.written g z) ≡ b.start)) e (refl, refl)
        by Nothing h u (inr m) = absurd m
        by (Wholes nodes) h u m =
            let (k, among, inner) = among_flat_map_from (whole_by f lists b.start node.key.end) u nodes m in
            let (cs, c, made) = among_map_from _ u (lists k) inner in
            let (rule, left) = whole_rule b.start node.key.end nodes h k among in
            subst (λ z. (is_list_node g z ≡ false) × (from_of (tree_of f.written g z) ≡ b.start)) made
            (ap (λ y. is_list (symbol_at g y)) left ∙ none, from_node (rule_of (slice_get f.nodes k)) cs (source_written (rule_of (slice_get f.nodes k)) rule (λ j at. part_no_top node.key.rule a.dot x j a.part (ap (slice_get f.flat.symbols) (sym left) ∙ at))))

    -- there is some alternative
    some_alternative : (b : Alternative) × (more : List Alternative) × (node.alternatives ≡ b ∷ more)
    some_alternative = go node.alternatives refl
      where
        go : (bs : List Alternative) → node.alternatives ≡ bs → (b : Alternative) × (more : List Alternative) × (node.alternatives ≡ b ∷ more)
        go [] e =
            let (cs, m) = stocked.nodes n node there in
            let none : lists n ≡ [] = are n node there ∙ ap (flat_map (alternative_by f lists (cause_symbol f node.key) node.key.end)) e in
            absurd (subst (Among cs) none m)
        go (b ∷ more) e = (b, more, e)

    -- where all begin at one place, there is one
    abbrev cmp : ℕ → ℕ → Ordering
    cmp = starts_cmp (ranks_high f node.key.rule) node.key.end

    tied : (m : ℕ) → cmp m m ≡ Equal
    tied m = λ i. ordering_then (tied_itself nat_cmp_total (start_place (ranks_high f node.key.rule) m node.key.end) i) (tied_itself nat_cmp_total m i)

    not_less : Less ≡ Equal → ⊥
    not_less e = cc

    alone : (b : Alternative) (more : List Alternative) → node.alternatives ≡ b ∷ more → ((c : Alternative) → Among c node.alternatives → c.start ≡ node.key.origin) → more ≡ []
    alone b [] e same = refl
    alone b (c ∷ more) e same = absurd (not_less (sym (first_two b.start c.start (map (λ d. d.start) more) sorted) ∙ starts))
      where
        sorted : IsStrictlySortedBy cmp (b.start ∷ c.start ∷ map (λ d. d.start) more)
        sorted = subst (λ (zs : List Alternative). IsStrictlySortedBy cmp (map (λ d. d.start) zs)) e a.sorted

        first_two : (m k : ℕ) (rest : List ℕ) → IsStrictlySortedBy cmp (m ∷ k ∷ rest) → cmp m k ≡ Less
        first_two m k rest h = sorted_two cmp m k rest h

        starts : cmp b.start c.start ≡ Equal
        starts =
            let b_is = same b (subst (Among b) (sym e) (inl refl)) in
            let c_is = same c (subst (Among c) (sym e) (inr (inl refl))) in
            ap (λ m. cmp m c.start) (b_is ∙ sym c_is) ∙ tied c.start

    -- no parts before: where the last part begins
    at_front : a.dot ≡ 0 → (b : Alternative) → Contains node.alternatives b → (b.predecessor ≡ None) × (b.start ≡ node.key.origin)
    at_front zero_is b held = go b.predecessor refl (a.each b held).predecessor
      where
        go : (o : Option ℕ) → b.predecessor ≡ o → IsPredecessor f node.key.rule a.dot node.key.origin b.start o → (b.predecessor ≡ None) × (b.start ≡ node.key.origin)
        go None e (z, origin) = (e, origin)
        go (Some m) e (some, inner) = absurd (omega (arith, some, zero_is))

    later : (d : ℕ) → a.dot ≡ suc d → is_list (symbol_at g x) ≡ false → (b : Alternative) → Contains node.alternatives b → IsLater f lists node b
    later d dot none b held = go b.predecessor refl (a.each b held).predecessor
      where
        go : (o : Option ℕ) → b.predecessor ≡ o → IsPredecessor f node.key.rule a.dot node.key.origin b.start o → IsLater f lists node b
        go None e (z, origin) = absurd (omega (arith, z, dot))
        go (Some m) e (some, (inner, at, key)) = (m, e, ap end_of at ∙ ap (λ k. k.end) key, child_cause none b held)

    in_range : x < length g.symbols
    in_range = flat.in_range.parts node.key.rule a.dot x (rule_there g.rules node.key.rule a.dot x a.part) a.part

    -- a list derives nothing but by its rules
    list_wholes : is_list (symbol_at g x) ≡ true → (m q : ℕ) (cause : Cause) → IsCause f x m q cause → (k : ℕ) × (more : List ℕ) × (cause ≡ Wholes (k ∷ more)) × AreWholes f x m q (k ∷ more)
    list_wholes list m q AnEdge (t, at, e) = absurd (true≢false (sym list ∙ ap is_list (get_index g.symbols x (Top 0) (Terminal t) at).1))
    list_wholes list m q Nothing (same, null) = absurd (go (symbol_at g x) (slice_get-get_or g.symbols x (Top 0) in_range) list)
      where
        go : (s : FlatSymbol) → slice_get g.symbols x ≡ Some s → is_list s ≡ true → ⊥
        go (Terminal t) at e = true≢false (sym e)
        go (Slot t l) at e = true≢false (sym e)
        go (Sequence i) at e = flat.lists_span x i at null
        go (Top k) at e = true≢false (sym e)
    list_wholes list m q (Wholes []) h = let some = h.some in absurd (omega (arith, some))
    list_wholes list m q (Wholes (k ∷ more)) h = (k, more, refl, h)

    front : a.dot ≡ 0 → (t : Bool) → is_list (symbol_at g x) ≡ t → Kind f lists node
    front dot t e =
        let (b, more, alternatives) = some_alternative in
        let none = alone b more alternatives (λ c m. (at_front dot c (contains_from node.alternatives c m)).1) in
        let one : node.alternatives ≡ b ∷ [] = alternatives ∙ ap (λ bs. b ∷ bs) none in
        let held : Contains node.alternatives b = contains_from node.alternatives b (subst (Among b) (sym alternatives) (inl refl)) in
        by t e b one held
      where
        by : (t : Bool) → is_list (symbol_at g x) ≡ t → (b : Alternative) → node.alternatives ≡ b ∷ [] → Contains node.alternatives b → Kind f lists node
        by false e b one held =
            let (before, origin) = at_front dot b held in
            FirstKind b one before (list_is ∙ e) origin (child_cause e b held)
        by true e b one held =
            let (before, origin) = at_front dot b held in
            let (k, more, cause, wholes) = list_wholes e b.start node.key.end b.cause (a.each b held).cause in
            ListKind b.start k more (one ∙ (λ i. record { start = b.start; predecessor = before i; cause = cause i } ∷ [])) (list_is ∙ e)
            (λ m' among. ap (λ y. is_list (symbol_at g y)) (whole_rule b.start node.key.end (k ∷ more) wholes m' among).1 ∙ e)

    behind : (d : ℕ) → a.dot ≡ suc d → Kind f lists node
    behind d dot =
        let none = later_part node.key.rule d x (subst (λ k. part_of g node.key.rule k ≡ Some x) dot a.part) in
        let (b, more, alternatives) = some_alternative in
        LaterKind b more alternatives (list_is ∙ none) (λ c m. later d dot none c (contains_from node.alternatives c m))

    kind_by : (k : ℕ) → a.dot ≡ k → Kind f lists node
    kind_by zero e = front e (is_list (symbol_at g x)) refl
    kind_by (suc d) e = behind d e

  pub kinds : Kinds f lists
  kinds n node there = kind_by n node there (is.alternatives node (contains_from f.nodes node (get_among f.nodes n node there))) _ refl
