-- How lists are built: from lists found before, by steps of the loops.
use Rattle.std.proofs.Common.{◌≡◌, ℕ, zero, suc, ◌<◌, ◌≤◌, ◌+◌, Bool, true, false, cond, List, [], ◌∷◌, ◌++◌, length, map, Some, ◌⊎◌, inl, inr, refl, sym, ap, ◌∙◌, subst, arith, get_or, ⊎_elim, ◌*◌, ◌-◌}
use Rattle.std.specs.Prelude.{All, slice_get, slice_index, nat_lt, nat_le, ◌&&◌, ◌==◌, filter}
use Rattle.std.specs.List.{flat_map}
use Rattle.std.specs.Map.{lookup}
use Rattle.std.proofs.lemmas.Bool.{eqb-true, eq-eqb, ne_eqb, le-leb, lt-leb, lt-ltb, cases_eq}
use Rattle.std.proofs.lemmas.List.{map-append, append-nil}
use Rattle.std.proofs.lemmas.Grind.{flat_map-append}
use Rattle.grammar_model.specs.Grammar.{Grammar, Slot, WrittenRule, Plain, Sequence, rule_at, slot_of, child_slot, own_level, lhs_of, level_of}
use Rattle.grammar_model.specs.Trees.{Tree, Children, Leaf, Node, NoChild, Child}
use Rattle.grammar_model.specs.declared.Ranking.TheVariants.{Rule as RuleRanks}
use Rattle.grammar_model.specs.Simple.{IsSimple, IsSimpleRule, places, numbers, fits, part_count, is_terminal, simple_leaves, simple_nodes, simple_trees}
use Rattle.grammar_model.specs.Characters.{is_quoted, is_named}
use Rattle.grammar_model.proofs.Simple.{trees_again, among_places_from, is_terminal_from}
use Rattle.grammar_model.proofs.Characters.{quoted_forward}
use Rattle.plain_lister.specs.declared.store.Store.{Store}
use Rattle.plain_lister.specs.declared.Cell.{Cell}
use Rattle.plain_lister.specs.Arena.{Meant, tree_at}
use Rattle.plain_lister.specs.Adding.{at, as_tree, as_prefix, Within, Keeps, Adds}
use Rattle.plain_lister.specs.Table.{same_key, IsKey, rank, listed, prefixes_listed, nodes_below, prefixes_from, value_at, Holds, Grows, IsSound, IsListed, IsBuilt}
use Rattle.grammar_core.specs.Written.{IsWritten, symbols_of}
use Rattle.std.proofs.lemmas.Option.{get_or_from_slice_get, slice_get_within}
use Rattle.std.proofs.lemmas.Simd.{map-map}
use Rattle.finite_sets.proofs.Members.{Among}
use Rattle.plain_lister.proofs.Arena.{within_keeps, map_keeps}
use Rattle.plain_lister.proofs.Held.{grows_none, grows_then, holds_grow}

-- ---- the store

pub cells_grow : (old new : Store) → Keeps old.cells.items new.cells.items → new.lists.items ≡ old.lists.items → Grows old new
cells_grow old new s e = record { keeps = s; lists = λ k places f. subst (λ l. slice_get l k ≡ Some places) (sym e) f }

pub sound_grow : (g : Grammar) (input : List ℕ) (old new : Store) → Grows old new → new.memo.entries ≡ old.memo.entries → IsSound g input old → IsSound g input new
sound_grow g input old new s e sound x n p q k f = holds_grow g input old new k x n p q s (sound x n p q k (subst (λ es. lookup (same_key (x, n, p, q)) es ≡ Some k) e f))

pub built_none : (g : Grammar) (input : List ℕ) (store : Store) (places : List ℕ) (values : List Meant) → IsSound g input store → places ≡ [] → values ≡ [] → IsBuilt g input store store places values
built_none g input store places values sound e f = record {
  sound = sound;
  grows = grows_none store;
  within = subst (Within store.cells.items) (sym e) (λ k d h. absurd (omega arith));
  told = ap (map (at store.cells.items)) e ∙ sym f;
}

pub built_same : (g : Grammar) (input : List ℕ) (old new : Store) (places : List ℕ) (m n : List Meant) → m ≡ n → IsBuilt g input old new places m → IsBuilt g input old new places n
built_same g input old new places m n e b = subst (IsBuilt g input old new places) e b

-- a list is found beside
pub built_list : (g : Grammar) (input : List ℕ) (a b c : Store) (places : List ℕ) (values : List Meant) (k x n p q : ℕ) → IsBuilt g input a b places values → IsListed g input b c k x n p q → IsBuilt g input a c places values
built_list g input a b c places values k x n p q s l = record {
  sound = l.sound;
  grows = grows_then a b c s.grows l.grows;
  within = within_keeps b.cells.items c.cells.items places l.grows.keeps s.within;
  told = map_keeps b.cells.items c.cells.items places l.grows.keeps s.within ∙ s.told;
}

-- cells are added
pub built_cells : (g : Grammar) (input : List ℕ) (a b c : Store) (places others : List ℕ) (values more : List Meant) → c.lists.items ≡ b.lists.items → c.memo.entries ≡ b.memo.entries →
    IsBuilt g input a b places values → Adds b.cells.items c.cells.items places others more → IsBuilt g input a c others (values ++ more)
built_cells g input a b c places others values more lists memo s t =
    let grown = cells_grow b c t.keeps lists in
    record {
      sound = sound_grow g input b c grown memo s.sound;
      grows = grows_then a b c s.grows grown;
      within = t.within;
      told = t.told ∙ ap (λ l. l ++ more) s.told;
    }

-- ---- values

pub prefix_value : (g : Grammar) (input : List ℕ) (x n p q : ℕ) → 0 < n → value_at g input x n p q ≡ map as_prefix (prefixes_listed g input x n p q)
prefix_value g input x zero p q h = absurd (omega arith)
prefix_value g input x (suc n) p q h = refl

pub whole_key : (g : Grammar) (i n : ℕ) → i < length g.rules → n ≡ part_count (rule_at g i) → 0 < n → IsKey g i n
whole_key g i zero lt e h = absurd (omega arith)
whole_key g i (suc n) lt e h = (lt, omega arith)

pub nodes_value : (cells : List Cell) (ps : List ℕ) (fs : List Children) (i p q : ℕ) → map (at cells) ps ≡ map as_prefix fs →
    map (λ k. as_tree (Node i ((at cells k).prefix) p q)) ps ≡ map as_tree (map (λ children. Node i children p q) fs)
nodes_value cells ps fs i p q e =
    sym (map-map (λ (m : Meant). as_tree (Node i m.prefix p q)) (at cells) ps)
    ∙ ap (map (λ (m : Meant). as_tree (Node i m.prefix p q))) e
    ∙ map-map (λ (m : Meant). as_tree (Node i m.prefix p q)) as_prefix fs
    ∙ sym (map-map as_tree (λ children. Node i children p q) fs)

pub firsts_value : (cells : List Cell) (ps : List ℕ) (ts : List Tree) → map (at cells) ps ≡ map as_tree ts →
    map (λ k. as_prefix (Child NoChild ((at cells k).tree))) ps ≡ map as_prefix (map (Child NoChild) ts)
firsts_value cells ps ts e =
    sym (map-map (λ (m : Meant). as_prefix (Child NoChild m.tree)) (at cells) ps)
    ∙ ap (map (λ (m : Meant). as_prefix (Child NoChild m.tree))) e
    ∙ map-map (λ (m : Meant). as_prefix (Child NoChild m.tree)) as_tree ts
    ∙ sym (map-map as_prefix (Child NoChild) ts)

pub pairs_value : (cells : List Cell) (js ks : List ℕ) (fs : List Children) (ts : List Tree) → map (at cells) js ≡ map as_prefix fs → map (at cells) ks ≡ map as_tree ts →
    flat_map (λ j. map (λ k. as_prefix (Child ((at cells j).prefix) ((at cells k).tree))) ks) js ≡ map as_prefix (flat_map (λ prefix. map (Child prefix) ts) fs)
pairs_value cells js ks fs ts e f =
    over js ∙ ap (flat_map (λ (m : Meant). map (λ (o : Meant). as_prefix (Child m.prefix o.tree)) (map (at cells) ks))) e
    ∙ ap (λ (l : List Meant). flat_map (λ (m : Meant). map (λ (o : Meant). as_prefix (Child m.prefix o.tree)) l) (map as_prefix fs)) f
    ∙ inside fs
  where
    over : (xs : List ℕ) → flat_map (λ j. map (λ k. as_prefix (Child ((at cells j).prefix) ((at cells k).tree))) ks) xs ≡ flat_map (λ (m : Meant). map (λ (o : Meant). as_prefix (Child m.prefix o.tree)) (map (at cells) ks)) (map (at cells) xs)
    over [] = refl
    over (x ∷ xs) = λ i. sym (map-map (λ (o : Meant). as_prefix (Child ((at cells x).prefix) o.tree)) (at cells) ks) i ++ over xs i

    inside : (xs : List Children) → flat_map (λ (m : Meant). map (λ (o : Meant). as_prefix (Child m.prefix o.tree)) (map as_tree ts)) (map as_prefix xs) ≡ map as_prefix (flat_map (λ prefix. map (Child prefix) ts) xs)
    inside [] = refl
    inside (x ∷ xs) =
        (λ i. (map-map (λ (o : Meant). as_prefix (Child x o.tree)) as_tree ts ∙ sym (map-map as_prefix (Child x) ts)) i ++ inside xs i)
        ∙ sym (map-append as_prefix (map (Child x) ts) (flat_map (λ prefix. map (Child prefix) ts) xs))

-- ---- places

pub places_none : (p q : ℕ) → q ≤ p → places p q ≡ []
places_none p zero h = refl
places_none p (suc q) h = ap (λ b. cond b (q ∷ places p q) []) (lt-leb p q (omega arith))

pub places_more : (r q : ℕ) → r < q → places r q ≡ places (suc r) q ++ r ∷ []
places_more r zero h = absurd (omega arith)
places_more r (suc q) h = go (cases_eq r q) (λ lt. places_more r q lt)
  where
    go : (r ≡ q) ⊎ (r ≡ q → ⊥) → (r < q → places r q ≡ places (suc r) q ++ r ∷ []) → places r (suc q) ≡ places (suc r) (suc q) ++ r ∷ []
    go (inl e) ih =
        let a = le-leb r q (omega arith) in
        let b = lt-leb (suc r) q (omega arith) in
        ap (λ t. cond t (q ∷ places r q) []) a ∙ (λ i. sym e i ∷ places_none r q (omega arith) i) ∙ ap (λ t. cond t (q ∷ places (suc r) q) [] ++ r ∷ []) (sym b)
    go (inr ne) ih =
        let a = le-leb r q (omega arith) in
        let b = le-leb (suc r) q (omega arith) in
        ap (λ t. cond t (q ∷ places r q) []) a ∙ ap (λ l. q ∷ l) (ih (omega arith)) ∙ ap (λ t. cond t (q ∷ places (suc r) q) [] ++ r ∷ []) (sym b)

flat_map_none : {X Y : Type 0} (f : X → List Y) (xs : List X) → ((x : X) → Among x xs → f x ≡ []) → flat_map f xs ≡ []
flat_map_none f [] h = refl
flat_map_none f (x ∷ xs) h = λ i. h x (inl refl) i ++ flat_map_none f xs (λ y m. h y (inr m)) i

flat_map_push : {X Y : Type 0} (f : X → List Y) (xs : List X) (x : X) → flat_map f (xs ++ x ∷ []) ≡ flat_map f xs ++ f x
flat_map_push f xs x = flat_map-append f xs (x ∷ []) ∙ ap (λ l. flat_map f xs ++ l) (append-nil (f x))

filter_push : {X : Type 0} (test : X → Bool) (xs : List X) (x : X) → filter test (xs ++ x ∷ []) ≡ filter test xs ++ cond (test x) (x ∷ []) []
filter_push test [] x = refl
filter_push {X} test (y ∷ ys) x = go (test y) (filter_push test ys x)
  where
    go : (b : Bool) → filter test (ys ++ x ∷ []) ≡ filter test ys ++ cond (test x) (x ∷ []) [] →
        cond b (y ∷ filter test (ys ++ x ∷ [])) (filter test (ys ++ x ∷ [])) ≡ cond b (y ∷ filter test ys) (filter test ys) ++ cond (test x) (x ∷ []) []
    go true ih = ap (λ l. y ∷ l) ih
    go false ih = ih

-- ---- leaves and nodes

pub leaf_value : (g : Grammar) (input : List ℕ) (x p q : ℕ) (b : Bool) → is_terminal g x ≡ true → p < q → is_quoted g input x p q ≡ b →
    listed g input (slot_of x) p q ≡ cond b (Leaf x p q ∷ []) []
leaf_value g input x p q b t lt e = λ i. cond (lt-ltb p q lt i) (cond (t i) (cond (e i) (Leaf x p q ∷ []) []) (simple_nodes g (simple_trees g (is_quoted g input) (length input)) (slot_of x) p q)) []

pub not_near : (g : Grammar) (input : List ℕ) (x p q : ℕ) → (q ≡ suc p → ⊥) → is_quoted g input x p q ≡ false
not_near g input x p q ne = ap (λ b. is_named (slice_get input p) (slice_get g.names x) && b) (ne_eqb q (suc p) ne) ∙ and_false (is_named (slice_get input p) (slice_get g.names x))
  where
    and_false : (b : Bool) → (b && false) ≡ false
    and_false true = refl
    and_false false = refl

pub quoted_is : (g : Grammar) (input : List ℕ) (x p q : ℕ) (b : Bool) → q ≡ suc p → is_named (slice_get input p) (slice_get g.names x) ≡ b → is_quoted g input x p q ≡ b
quoted_is g input x p q b e f = (λ i. f i && eq-eqb q (suc p) e i) ∙ and_true b
  where
    and_true : (b : Bool) → (b && true) ≡ b
    and_true true = refl
    and_true false = refl

pub nodes_listed : (g : Grammar) (input : List ℕ) (x p q : ℕ) → IsSimple g → is_terminal g x ≡ false → p < q → q ≤ length input →
    listed g input (slot_of x) p q ≡ nodes_below g input x p q (length g.rules)
nodes_listed g input x p q simple inner lt within = trees_again g (is_quoted g input) RuleRanks simple (quoted_forward g input) (suc (length input)) (slot_of x) p q lt (omega arith) inner

nodes_push : (g : Grammar) (input : List ℕ) (x p q n : ℕ) (b : Bool) → fits (rule_at g n) (slot_of x) ≡ b →
    nodes_below g input x p q (n + 1) ≡ nodes_below g input x p q n ++ cond b (map (λ children. Node n children p q) (prefixes_listed g input n (part_count (rule_at g n)) p q)) []
nodes_push g input x p q n b e =
    let next : n + 1 ≡ suc n = omega arith in
    ap (nodes_below g input x p q) next
    ∙ ap (flat_map nodes) (filter_push (λ i. fits (rule_at g i) (slot_of x)) (numbers n) n ∙ ap (λ t. filter (λ i. fits (rule_at g i) (slot_of x)) (numbers n) ++ cond t (n ∷ []) []) e)
    ∙ go b
  where
    nodes : ℕ → List Tree
    nodes i = map (λ children. Node i children p q) (prefixes_listed g input i (part_count (rule_at g i)) p q)

    go : (t : Bool) → flat_map nodes (filter (λ i. fits (rule_at g i) (slot_of x)) (numbers n) ++ cond t (n ∷ []) []) ≡ nodes_below g input x p q n ++ cond t (nodes n) []
    go true = flat_map_push nodes (filter (λ i. fits (rule_at g i) (slot_of x)) (numbers n)) n
    go false = ap (flat_map nodes) (append-nil (filter (λ i. fits (rule_at g i) (slot_of x)) (numbers n))) ∙ sym (append-nil (nodes_below g input x p q n))

pub nodes_more : (g : Grammar) (input : List ℕ) (x p q n : ℕ) → lhs_of (rule_at g n) ≡ x →
    map as_tree (nodes_below g input x p q n) ++ map as_tree (map (λ children. Node n children p q) (prefixes_listed g input n (part_count (rule_at g n)) p q)) ≡ map as_tree (nodes_below g input x p q (n + 1))
nodes_more g input x p q n e =
    let f : fits (rule_at g n) (slot_of x) ≡ true = λ i. eq-eqb (lhs_of (rule_at g n)) x e i && le-leb 0 (level_of (rule_at g n)) (omega arith) i in
    sym (map-append as_tree (nodes_below g input x p q n) (map (λ children. Node n children p q) (prefixes_listed g input n (part_count (rule_at g n)) p q)))
    ∙ ap (map as_tree) (sym (nodes_push g input x p q n true f))

pub nodes_as_before : (g : Grammar) (input : List ℕ) (x p q n : ℕ) → (lhs_of (rule_at g n) ≡ x → ⊥) → map as_tree (nodes_below g input x p q n) ≡ map as_tree (nodes_below g input x p q (n + 1))
nodes_as_before g input x p q n ne =
    let f : fits (rule_at g n) (slot_of x) ≡ false = λ i. ne_eqb (lhs_of (rule_at g n)) x ne i && nat_le 0 (level_of (rule_at g n)) in
    ap (map as_tree) (sym (nodes_push g input x p q n false f ∙ append-nil (nodes_below g input x p q n)))

-- ---- children

pub slot_is : (g : Grammar) (rule : WrittenRule) (k : ℕ) → IsSimpleRule g rule → child_slot rule k ≡ slot_of (child_slot rule k).symbol
slot_is g (Plain r) k s = λ i. record { symbol = slice_index r.rhs k; level = cond (nat_lt 1 (s.0 i) && (slice_index r.rhs k == r.lhs)) (own_level r.assoc r k) 0 }
slot_is g (Sequence r) k s = absurd s

pub firsts_listed : (g : Grammar) (input : List ℕ) (i p q : ℕ) → p < q → prefixes_listed g input i 1 p q ≡ map (Child NoChild) (listed g input (child_slot (rule_at g i) 0) p q)
firsts_listed g input i p q lt =
    let none : p + 0 ≡ p = omega arith in
    ap (λ z. flat_map from (places z q)) none ∙ ap (flat_map from) (places_more p q lt) ∙ flat_map_push from (places (suc p) q) p
    ∙ (λ z. flat_map_none from (places (suc p) q) later z ++ here z)
  where
    from : ℕ → List Children
    from r = flat_map (λ prefix. map (Child prefix) (listed g input (child_slot (rule_at g i) 0) r q)) (cond (p == r) (NoChild ∷ []) [])

    later : (r : ℕ) → Among r (places (suc p) q) → from r ≡ []
    later r m =
        let b = among_places_from (suc p) q r m in
        ap (λ t. flat_map (λ prefix. map (Child prefix) (listed g input (child_slot (rule_at g i) 0) r q)) (cond t (NoChild ∷ []) [])) (ne_eqb p r (λ e. omega arith))

    here : from p ≡ map (Child NoChild) (listed g input (child_slot (rule_at g i) 0) p q)
    here = ap (λ t. flat_map (λ prefix. map (Child prefix) (listed g input (child_slot (rule_at g i) 0) p q)) (cond t (NoChild ∷ []) [])) (eq-eqb p p refl) ∙ append-nil (map (Child NoChild) (listed g input (child_slot (rule_at g i) 0) p q))

pub pairs_more : (g : Grammar) (input : List ℕ) (i n p q r s : ℕ) → r ≡ suc s → s < q →
    map as_prefix (flat_map (prefixes_from g input i n p q) (places r q)) ++ map as_prefix (prefixes_from g input i n p q s) ≡ map as_prefix (flat_map (prefixes_from g input i n p q) (places s q))
pairs_more g input i n p q r s e lt =
    sym (map-append as_prefix (flat_map (prefixes_from g input i n p q) (places r q)) (prefixes_from g input i n p q s))
    ∙ ap (λ z. map as_prefix (flat_map (prefixes_from g input i n p q) (places z q) ++ prefixes_from g input i n p q s)) e
    ∙ ap (map as_prefix) (sym (ap (flat_map (prefixes_from g input i n p q)) (places_more s q lt) ∙ flat_map_push (prefixes_from g input i n p q) (places (suc s) q) s))

pub pairs_as_before : (g : Grammar) (input : List ℕ) (i n p q r s : ℕ) → r ≡ suc s → s < q → prefixes_from g input i n p q s ≡ [] →
    map as_prefix (flat_map (prefixes_from g input i n p q) (places r q)) ≡ map as_prefix (flat_map (prefixes_from g input i n p q) (places s q))
pairs_as_before g input i n p q r s e lt none =
    sym (append-nil (map as_prefix (flat_map (prefixes_from g input i n p q) (places r q)))) ∙ ap (λ l. map as_prefix (flat_map (prefixes_from g input i n p q) (places r q)) ++ map as_prefix l) (sym none) ∙ pairs_more g input i n p q r s e lt

-- a terminal spans one place, and so stands nowhere else as a last child
pub no_last : (g : Grammar) (input : List ℕ) (i n p q s : ℕ) → IsSimpleRule g (rule_at g i) → is_terminal g (child_slot (rule_at g i) n).symbol ≡ true → s < q → (q ≡ suc s → ⊥) → prefixes_from g input i n p q s ≡ []
no_last g input i n p q s simple terminal lt ne =
    ap (λ (l : List Tree). flat_map (λ prefix. map (Child prefix) l) (prefixes_listed g input i n p s))
    (ap (λ z. listed g input z s q) (slot_is g (rule_at g i) n simple) ∙ leaf_value g input (child_slot (rule_at g i) n).symbol s q false terminal lt (not_near g input (child_slot (rule_at g i) n).symbol s q ne))
    ∙ flat_map_none (λ prefix. map (Child prefix) []) (prefixes_listed g input i n p s) (λ x m. refl)

pub no_prefix : (g : Grammar) (input : List ℕ) (i n p q s : ℕ) (cells : List Cell) (ps : List ℕ) → ps ≡ [] → map (at cells) ps ≡ map as_prefix (prefixes_listed g input i n p s) → prefixes_from g input i n p q s ≡ []
no_prefix g input i n p q s cells ps e f = ap (flat_map (λ prefix. map (Child prefix) (listed g input (child_slot (rule_at g i) n) s q))) (go (prefixes_listed g input i n p s) (sym (ap (map (at cells)) e) ∙ f))
  where
    go : (l : List Children) → [] ≡ map as_prefix l → l ≡ []
    go [] h = refl
    go (x ∷ l) h = cc

-- ---- reads

pub places_read : (g : Grammar) (input : List ℕ) (store : Store) (k x n p q : ℕ) (r s : List ℕ) (h : Holds g input store k x n p q) → r ≡ get_or store.lists.items k r → s ≡ r → s ≡ h.places
places_read g input store k x n p q r s h e f = f ∙ e ∙ get_or_from_slice_get store.lists.items k h.places r h.found

pub within_read : (g : Grammar) (input : List ℕ) (store : Store) (k x n p q : ℕ) (r s : List ℕ) → Holds g input store k x n p q → r ≡ get_or store.lists.items k r → s ≡ r → Within store.cells.items s
within_read g input store k x n p q r s h e f = subst (Within store.cells.items) (sym (places_read g input store k x n p q r s h e f)) h.within

pub told_read : (g : Grammar) (input : List ℕ) (store : Store) (k x n p q : ℕ) (r s : List ℕ) → Holds g input store k x n p q → r ≡ get_or store.lists.items k r → s ≡ r → map (at store.cells.items) s ≡ value_at g input x n p q
told_read g input store k x n p q r s h e f = subst (λ l. map (at store.cells.items) l ≡ value_at g input x n p q) (sym (places_read g input store k x n p q r s h e f)) h.told

pub in_lists : (g : Grammar) (input : List ℕ) (store : Store) (k x n p q : ℕ) → Holds g input store k x n p q → k < length store.lists.items
in_lists g input store k x n p q h = slice_get_within store.lists.items k h.places h.found

pub part_known : (g : Grammar) (i k : ℕ) → IsWritten g → i < length g.rules → k < part_count (rule_at g i) → (child_slot (rule_at g i) k).symbol < length g.names
part_known g i k w lt h = go (rule_at g i) (w.rules_known i lt).0 h
  where
    go : (rule : WrittenRule) → All (λ s. s < length g.names) (symbols_of rule) → k < part_count rule → (child_slot rule k).symbol < length g.names
    go (Plain r) all h = all (suc k) 0 (omega arith)
    go (Sequence r) all h = absurd (omega arith)

-- a rule's first part needs less than the rule
pub first_rank : (g : Grammar) (i : ℕ) → IsSimpleRule g (rule_at g i) → 0 < part_count (rule_at g i) → rank g (child_slot (rule_at g i) 0).symbol 0 < rank g i 1
first_rank g i simple h = go (part_count (rule_at g i) == 1) refl
  where
    low : (b : Bool) → cond b 0 2 < 3
    low true = omega arith
    low false = omega arith

    terminal : (rule : WrittenRule) → IsSimpleRule g rule → part_count rule ≡ 1 → is_terminal g (child_slot rule 0).symbol ≡ true
    terminal (Plain r) s e = ⊎_elim (λ t. is_terminal_from g (slice_index r.rhs 0) t.1) (λ two. absurd (omega arith)) s.2
    terminal (Sequence r) s e = absurd s

    go : (b : Bool) → (part_count (rule_at g i) == 1) ≡ b → cond (is_terminal g (child_slot (rule_at g i) 0).symbol) 0 2 < cond b 1 3
    go true e = subst (λ t. cond t 0 2 < 1) (sym (terminal (rule_at g i) simple (eqb-true (part_count (rule_at g i)) 1 e))) (omega arith)
    go false e = low (is_terminal g (child_slot (rule_at g i) 0).symbol)

pub weight_less : (d a b : ℕ) → a < b → 2 * (4 * d + a) + 1 < 2 * (4 * d + b)
weight_less d a b h = omega arith

pub rank_low : (g : Grammar) (x : ℕ) → rank g x 0 ≤ 2
rank_low g x = go (is_terminal g x)
  where
    go : (b : Bool) → cond b 0 2 ≤ 2
    go true = omega arith
    go false = omega arith

pub rank_high : (g : Grammar) (x n : ℕ) → rank g x n ≤ 3
rank_high g x zero = let h = rank_low g x in omega arith
rank_high g x (suc zero) = go (part_count (rule_at g x) == 1)
  where
    go : (b : Bool) → cond b 1 3 ≤ 3
    go true = omega arith
    go false = omega arith
rank_high g x (suc (suc n)) = omega arith

pub whole_rank : (g : Grammar) (i n : ℕ) → n ≡ part_count (rule_at g i) → 0 < n → rank g i n ≤ 1
whole_rank g i zero e h = absurd (omega arith)
whole_rank g i (suc zero) e h = subst (λ m. cond (m == 1) 1 3 ≤ 1) e (omega arith)
whole_rank g i (suc (suc n)) e h = omega arith

pub key_before : (g : Grammar) (i n : ℕ) → IsKey g i n → 2 ≤ n → IsKey g i (n - 1)
key_before g i zero k h = absurd (omega arith)
key_before g i (suc zero) k h = absurd (omega arith)
key_before g i (suc (suc m)) k h = let e : suc (suc m) - 1 ≡ suc m = omega arith in rw e (k.0, omega (arith, k.1))

pub key_rule : (g : Grammar) (i n : ℕ) → IsKey g i n → 0 < n → i < length g.rules
key_rule g i zero k h = absurd (omega arith)
key_rule g i (suc n) k h = k.0

pub prefixes_step : (g : Grammar) (input : List ℕ) (i n p q : ℕ) → 0 < n → prefixes_listed g input i n p q ≡ flat_map (prefixes_from g input i (n - 1) p q) (places (p + (n - 1)) q)
prefixes_step g input i zero p q h = absurd (omega arith)
prefixes_step g input i (suc m) p q h = let e : suc m - 1 ≡ m = omega arith in sym (ap (λ z. flat_map (prefixes_from g input i z p q) (places (p + z) q)) e)

-- at the end of the loop over starts
pub starts_end : (i p q r n : ℕ) → (p + n ≤ r) ⊎ (r ≡ q) → r ≤ p + n → r ≤ q → places r q ≡ places (p + n) q
starts_end i p q r n (inl a) b c = let e : r ≡ p + n = omega arith in ap (λ z. places z q) e
starts_end i p q r n (inr e) b c = places_none r q (omega arith) ∙ sym (places_none (p + n) q (omega arith))

-- ---- the whole

pub trees_told : (cells : List Cell) (places : List ℕ) (ts : List Tree) → map (at cells) places ≡ map as_tree ts → map (tree_at cells) places ≡ ts
trees_told cells places ts e =
    sym (map-map (λ (m : Meant). m.tree) (at cells) places) ∙ ap (map (λ (m : Meant). m.tree)) e ∙ map-map (λ (m : Meant). m.tree) as_tree ts ∙ same ts
  where
    same : (l : List Tree) → map (λ t. t) l ≡ l
    same [] = refl
    same (t ∷ l) = ap (λ z. t ∷ z) (same l)

pub none_over_nothing : (g : Grammar) (input : List ℕ) (slot : Slot) → length input ≡ 0 → listed g input slot 0 (length input) ≡ []
none_over_nothing g input slot e = ap (λ n. cond (nat_lt 0 n) (cond (is_terminal g slot.symbol) (simple_leaves (is_quoted g input) slot 0 n) (simple_nodes g (simple_trees g (is_quoted g input) (length input)) slot 0 n)) []) e
