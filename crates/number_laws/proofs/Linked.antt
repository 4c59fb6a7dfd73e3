-- The links of a reading and its Leo pairs have lists, where each place has a list of its items.
use Rattle.std.proofs.Common.{arith, ◌≡◌, inl, inr, ℕ, zero, suc, ◌≤◌, List, ◌∷◌, ◌++◌, map, flat_map, length, Option, Some, None, slice_get, refl, sym, ◌∙◌, ap, subst}
use Rattle.grammar_model.specs.Derives.{Edges}
use Rattle.recognizer_model.specs.declared.Item.{Item}
use Rattle.recognizer_model.specs.declared.Pair.{Pair}
use Rattle.recognizer_model.specs.Flat.{FlatGrammar, IsRule, lhs_of, rhs_of, IsNullable}
use Rattle.recognizer_model.specs.Items.{after, InSet}
use Rattle.recognizer_model.specs.Contexts.{IsTop}
use Rattle.recognizer_model.specs.Leo.{IsLeo, InReduced, GoesForward}
use Rattle.recognizer_model.specs.Links.{Link, Predicts, Skips, Scans, Completes, Leaps, IsCompleted, IsLink, PlacedLink, IsPlacedLink, IsLeoPair}
use Rattle.recognizer_model.specs.Counts.{IsListOf}
use Rattle.recognizer_model.proofs.Leo.{reduced_inside}
use Rattle.finite_sets.specs.Decided.{IsDecided}
use Rattle.finite_sets.proofs.Deciding.{both, moved, equal, less, at_most}
use Rattle.finite_sets.proofs.Members.{Among, among_left, among_right, among_map, among_flat_map, values, among_values}
use Rattle.grammar_laws.proofs.Options.{some_held, same_option, some_true}
use Rattle.number_laws.proofs.Lists.{list_of}
use Rattle.number_laws.proofs.Kept.{known, in_set, none_decided, leads_on, kept_decided}
use Rattle.grammar_laws.proofs.ItemSets.{same_item}

-- ---- links are told apart by their kind, their items and their number

record Parts : Type 0 where
  kind : ℕ
  first : Item
  second : Item
  number : ℕ

parts_of : Link → Parts
parts_of (Predicts item r) = record { kind = 0; first = item; second = item; number = r }
parts_of (Skips item) = record { kind = 1; first = item; second = item; number = 0 }
parts_of (Scans item from) = record { kind = 2; first = item; second = item; number = from }
parts_of (Completes whole item) = record { kind = 3; first = whole; second = item; number = 0 }
parts_of (Leaps whole) = record { kind = 4; first = whole; second = whole; number = 0 }

link_by : ℕ → (first second : Item) → ℕ → Link
link_by zero first second n = Predicts first n
link_by (suc zero) first second n = Skips first
link_by (suc (suc zero)) first second n = Scans first n
link_by (suc (suc (suc zero))) first second n = Completes first second
link_by (suc (suc (suc (suc k)))) first second n = Leaps first

abbrev link_of : Parts → Link
link_of p = link_by p.kind p.first p.second p.number

link_back : (l : Link) → link_of (parts_of l) ≡ l
unfolding parts_of link_by
link_back (Predicts item r) = refl
link_back (Skips item) = refl
link_back (Scans item from) = refl
link_back (Completes whole item) = refl
link_back (Leaps whole) = refl

same_parts : (x y : Parts) → IsDecided (x ≡ y)
same_parts x y =
    moved (λ (a, (b, (c, d))) i. record { kind = a i; first = b i; second = c i; number = d i }) (λ e. (ap (λ (u : Parts). u.kind) e, (ap (λ (u : Parts). u.first) e, (ap (λ (u : Parts). u.second) e, ap (λ (u : Parts). u.number) e))))
    (both (equal x.kind y.kind) (both (same_item x.first y.first) (both (same_item x.second y.second) (equal x.number y.number))))

same_link : (x y : Link) → IsDecided (x ≡ y)
same_link x y = moved (λ e. sym (link_back x) ∙ ap link_of e ∙ link_back y) (ap parts_of) (same_parts (parts_of x) (parts_of y))

same_placed_link : (x y : PlacedLink) → IsDecided (x ≡ y)
same_placed_link x y =
    moved (λ (a, b) i. record { place = a i; link = b i }) (λ e. (ap (λ (u : PlacedLink). u.place) e, ap (λ (u : PlacedLink). u.link) e))
    (both (equal x.place y.place) (same_link x.link y.link))

same_pair : (x y : Pair) → IsDecided (x ≡ y)
same_pair x y =
    moved (λ (a, b) i. record { set = a i; symbol = b i }) (λ e. (ap (λ (u : Pair). u.set) e, ap (λ (u : Pair). u.symbol) e))
    (both (equal x.set y.set) (equal x.symbol y.symbol))

-- the symbol that an option holds
held : Option ℕ → ℕ
held (Some x) = x
held None = 0

held_is : (o : Option ℕ) (x : ℕ) → o ≡ Some x → held o ≡ x
unfolding held
held_is o x e = ap held e

three : {A B C : Type 0} → IsDecided A → IsDecided B → IsDecided C → IsDecided (A × B × C)
three a b c = moved (λ (x, (y, z)). (x, y, z)) (λ (x, y, z). (x, (y, z))) (both a (both b c))

module _ (g : FlatGrammar) (E : Edges) (top : ℕ) (is_top : IsTop g top) (forward : GoesForward E) (edge : (x p q : ℕ) → IsDecided (E x p q))
    (sets : (j : ℕ) → (items : List Item) × IsListOf (InSet g E top j) items) where
  kept : (j : ℕ) (item : Item) → IsDecided (InReduced g E top j item)
  kept j item = kept_decided g E top is_top forward edge sets j item

  completed_decided : (j : ℕ) (whole : Item) → IsDecided (IsCompleted g E top j whole)
  completed_decided j whole = three (kept j whole) (equal whole.dot (length (rhs_of g whole.rule))) (less whole.origin j)

  link_decided : (j : ℕ) (l : Link) → IsDecided (IsLink g E top j l)
  link_decided j (Predicts item r) = moved (λ (k, (x, e, (rule, l))). (x, k, e, rule, l)) (λ (x, k, e, rule, l). (k, (x, e, (rule, l))))
      (both (kept j item) (some_held (after g item) (λ x. IsRule g r × (lhs_of g r ≡ x)) (λ x. both (less r (length g.rules)) (equal (lhs_of g r) x))))
  link_decided j (Skips item) = moved (λ (k, (x, e, n)). (x, k, e, n)) (λ (x, k, e, n). (k, (x, e, n)))
      (both (kept j item) (some_held (after g item) (IsNullable g) (λ x. some_true (slice_get g.nullable x))))
  link_decided j (Scans item from) = moved (λ (k, (x, e, t)). (x, k, e, t)) (λ (x, k, e, t). (k, (x, e, t)))
      (both (kept from item) (some_held (after g item) (λ x. E x from j) (λ x. edge x from j)))
  link_decided j (Completes whole item) =
      moved (λ (c, (none, (k, e))). (c, none, k, e)) (λ (c, none, k, e). (c, (none, (k, e))))
      (both (completed_decided j whole) (both (none_decided g E top is_top forward edge sets whole.origin (lhs_of g whole.rule)) (both (kept whole.origin item) (same_option (after g item) (lhs_of g whole.rule)))))
  link_decided j (Leaps whole) = both (completed_decided j whole) (leads_on g E top is_top forward edge sets whole.origin (lhs_of g whole.rule))

  leo_decided : (j x : ℕ) → IsDecided ((item : Item) × IsLeo g E top j x item)
  leo_decided j x = elim (known g E top is_top forward edge sets (suc j) j x (omega arith)) [ inl leo ↦ inl leo | inr none ↦ inr (λ (item, is). none item is) ]

  module _ (place : ℕ) where
    -- the items of these places
    items : List Item
    items = flat_map (λ j. (sets j).0) (values (λ j. j) (suc place))

    in_items : (j : ℕ) (item : Item) → j ≤ place → InReduced g E top j item → Among item items
    unfolding items
    in_items j item le k =
        among_flat_map (λ j. (sets j).0) j item (values (λ j. j) (suc place)) (among_values (λ j. j) (suc place) j (omega (arith, le)))
        (in_set g E top is_top forward edge sets j item (reduced_inside g E top is_top forward k))

    -- what may be a link, by its first item
    by_item : Item → List Link
    by_item item = Skips item ∷ Leaps item ∷ (values (Predicts item) (length g.rules) ++ (values (Scans item) place ++ map (Completes item) items))

    links : List Link
    links = flat_map by_item items

    in_links : (j : ℕ) (l : Link) → j ≤ place → IsLink g E top j l → Among l links
    unfolding links by_item
    in_links j (Predicts item r) le (x, k, e, rule, l) =
        among_flat_map by_item item (Predicts item r) items (in_items j item le k)
        (inr (inr (among_left (Predicts item r) (values (Predicts item) (length g.rules)) (values (Scans item) place ++ map (Completes item) items) (among_values (Predicts item) (length g.rules) r rule))))
    in_links j (Skips item) le (x, k, e, n) = among_flat_map by_item item (Skips item) items (in_items j item le k) (inl refl)
    in_links j (Scans item from) le (x, k, e, t) =
        let lt = forward x from j t in
        among_flat_map by_item item (Scans item from) items (in_items from item (omega (arith, le, lt)) k)
        (inr (inr (among_right (Scans item from) (values (Predicts item) (length g.rules)) (values (Scans item) place ++ map (Completes item) items)
        (among_left (Scans item from) (values (Scans item) place) (map (Completes item) items) (among_values (Scans item) place from (omega (arith, le, lt)))))))
    in_links j (Completes whole item) le ((c, w, lt), none, k, e) =
        among_flat_map by_item whole (Completes whole item) items (in_items j whole le c)
        (inr (inr (among_right (Completes whole item) (values (Predicts whole) (length g.rules)) (values (Scans whole) place ++ map (Completes whole) items)
        (among_right (Completes whole item) (values (Scans whole) place) (map (Completes whole) items) (among_map (Completes whole) item items (in_items whole.origin item (omega (arith, le, lt)) k))))))
    in_links j (Leaps whole) le ((c, w, lt), leads) = among_flat_map by_item whole (Leaps whole) items (in_items j whole le c) (inr (inl refl))

    links_at : ℕ → List PlacedLink
    links_at j = map (λ l. record { place = j; link = l }) links

    pub link_list : (xs : List PlacedLink) × IsListOf (IsPlacedLink g E top place) xs
    unfolding links_at
    link_list =
        list_of (IsPlacedLink g E top place) same_placed_link (λ p. three (less 0 p.place) (at_most p.place place) (link_decided p.place p.link)) (flat_map links_at (values (λ j. j) (suc place)))
        (λ p (some, le, is). among_flat_map links_at p.place p (values (λ j. j) (suc place)) (among_values (λ j. j) (suc place) p.place (omega (arith, le)))
        (among_map (λ l. record { place = p.place; link = l }) p.link links (in_links p.place p.link le is)))

    symbols_at : ℕ → List Pair
    symbols_at j = map (λ item. record { set = j; symbol = held (after g item) }) (sets j).0

    pub pair_list : (xs : List Pair) × IsListOf (IsLeoPair g E top place) xs
    unfolding symbols_at
    pair_list =
        list_of (IsLeoPair g E top place) same_pair (λ p. both (at_most p.set place) (leo_decided p.set p.symbol)) (flat_map symbols_at (values (λ j. j) (suc place)))
        (λ p (le, (item, leo)). among_flat_map symbols_at p.set p (values (λ j. j) (suc place)) (among_values (λ j. j) (suc place) p.set (omega (arith, le)))
        (subst (λ x. Among (record { set = p.set; symbol = x }) (symbols_at p.set)) (held_is (after g item) p.symbol leo.waits)
        (among_map (λ item. record { set = p.set; symbol = held (after g item) }) item (sets p.set).0 (in_set g E top is_top forward edge sets p.set item leo.inside))))
