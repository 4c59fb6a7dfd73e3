-- Each place has a list of its items, over edges that are decided and go forward.
use Rattle.std.proofs.Common.{arith, ◌≡◌, ◌⊎◌, inl, inr, ℕ, zero, suc, ◌<◌, ◌≤◌, List, ◌∷◌, length, flat_map, Option, Some, None, slice_get, refl, sym, ◌∙◌, ap, subst}
use Rattle.std.proofs.lemmas.Option.{slice_get_within}
use Rattle.grammar_model.specs.Derives.{Edges, Held}
use Rattle.grammar_model.specs.declared.Edge.{Edge}
use Rattle.recognizer_model.specs.declared.Item.{Item}
use Rattle.recognizer_model.specs.declared.flat.FlatSymbol.{FlatSymbol}
use Rattle.recognizer_model.specs.declared.flat.FlatSymbol.TheVariants.{Terminal, Slot, Sequence, Top}
use Rattle.recognizer_model.specs.Flat.{FlatGrammar, IsRule, lhs_of, rhs_of, IsNullable}
use Rattle.recognizer_model.specs.FlatForm.{FlatEdges}
use Rattle.recognizer_model.specs.Items.{after, IsWhole, first_item, advanced, InSet, Start, Predict, Skip, Scan, Complete}
use Rattle.recognizer_model.specs.Counts.{IsListOf}
use Rattle.finite_sets.specs.Decided.{IsDecided}
use Rattle.finite_sets.proofs.Deciding.{both, both_then, one_of, moved, equal, less, some_below}
use Rattle.finite_sets.proofs.Members.{Among, among_from, contains_from, among_flat_map, values, among_values, some_among, member, once_pairs, listed}
use Rattle.finite_sets.proofs.Rounds.{AreRounds, decided}
use Rattle.grammar_laws.specs.Laws.{GoForward, ItemSetsExist}
use Rattle.grammar_laws.proofs.Options.{some_held, same_option, some_true}

pub same_item : (x y : Item) → IsDecided (x ≡ y)
same_item x y =
    moved (λ (a, (b, c)) i. record { rule = a i; dot = b i; origin = c i }) (λ e. (ap (λ (u : Item). u.rule) e, (ap (λ (u : Item). u.dot) e, ap (λ (u : Item). u.origin) e)))
    (both (equal x.rule y.rule) (both (equal x.dot y.dot) (equal x.origin y.origin)))

abbrev pub AreEdgesDecided : Edges → Type 0
AreEdgesDecided E = (x p q : ℕ) → IsDecided (E x p q)

module _ (g : FlatGrammar) (E : Edges) (top : ℕ) (forward : (x p q : ℕ) → E x p q → p < q) (edge : AreEdgesDecided E) where
  -- ---- the items that a place may have

  items_of : (j r : ℕ) → List Item
  items_of j r = flat_map (λ d. values (λ i. record { rule = r; dot = d; origin = i }) (suc j)) (values (λ d. d) (suc (length (rhs_of g r))))

  abbrev rules : List ℕ
  rules = top ∷ values (λ r. r) (length g.rules)

  items : ℕ → List Item
  items j = flat_map (items_of j) rules

  record MayBe (j : ℕ) (item : Item) : Type 0 where
    rule : IsRule g item.rule ⊎ (item.rule ≡ top)
    dot : item.dot ≤ length (rhs_of g item.rule)
    origin : item.origin ≤ j

  item_among : (j : ℕ) (item : Item) → MayBe j item → Among item (items j)
  unfolding items items_of
  item_among j item m =
      among_flat_map (items_of j) item.rule item rules (at m.rule)
      (among_flat_map (λ d. values (λ i. record { rule = item.rule; dot = d; origin = i }) (suc j)) item.dot item (values (λ d. d) (suc (length (rhs_of g item.rule))))
      (among_values (λ d. d) (suc (length (rhs_of g item.rule))) item.dot (let d = m.dot in omega (arith, d)))
      (among_values (λ i. record { rule = item.rule; dot = item.dot; origin = i }) (suc j) item.origin (let o = m.origin in omega (arith, o))))
    where
      at : IsRule g item.rule ⊎ (item.rule ≡ top) → Among item.rule rules
      at (inl lt) = inr (among_values (λ r. r) (length g.rules) item.rule lt)
      at (inr e) = inl (sym e)

  more : (j k x : ℕ) (item : Item) → MayBe j item → j ≤ k → after g item ≡ Some x → MayBe k (advanced item)
  more j k x item m le e = record {
    rule = m.rule;
    dot = (let lt = slice_get_within (rhs_of g item.rule) item.dot x e in omega (arith, lt));
    origin = (let o = m.origin in omega (arith, o, le));
  }

  may_be : {j : ℕ} {item : Item} → InSet g E top j item → MayBe j item
  may_be Start = record { rule = inr refl; dot = omega arith; origin = omega arith }
  may_be (Predict i e rule l) = record { rule = inl rule; dot = omega arith; origin = omega arith }
  may_be (Skip {j = j} {x = x} {item = item} i e n) = more j j x item (may_be i) (omega arith) e
  may_be (Scan {i = i} {j = j} {x = x} {item = item} s e t) = more i j x item (may_be s) (let lt = forward x i j t in omega (arith, lt)) e
  may_be (Complete {j = j} {whole = whole} {item = item} c w lt i e) = more whole.origin j (lhs_of g whole.rule) item (may_be i) (omega (arith, lt)) e

  in_items : (j : ℕ) (item : Item) → InSet g E top j item → Among item (items j)
  in_items j item s = item_among j item (may_be s)

  -- ---- the rounds of one place

  abbrev Scanned : ℕ → Item → Type 0
  Scanned j item = (i : ℕ) × (i < j) × ((prev : Item) × InSet g E top i prev × ((item ≡ advanced prev) × ((x : ℕ) × (after g prev ≡ Some x) × E x i j)))

  abbrev Begun : ℕ → Item → Type 0
  Begun j item = ((j ≡ 0) × (item ≡ first_item top 0)) ⊎ Scanned j item

  abbrev Predicted : ℕ → Item → Item → Type 0
  Predicted j prev item = (r : ℕ) × IsRule g r × ((after g prev ≡ Some (lhs_of g r)) × (item ≡ first_item r j))

  abbrev Skipped : Item → Item → Type 0
  Skipped prev item = (item ≡ advanced prev) × ((x : ℕ) × (after g prev ≡ Some x) × IsNullable g x)

  abbrev Completed : ℕ → Item → Item → Type 0
  Completed j whole item = (IsWhole g whole × (whole.origin < j)) × ((prev : Item) × InSet g E top whole.origin prev × ((after g prev ≡ Some (lhs_of g whole.rule)) × (item ≡ advanced prev)))

  abbrev Follows : ℕ → Item → Item → Type 0
  Follows j prev item = Predicted j prev item ⊎ (Skipped prev item ⊎ Completed j prev item)

  abbrev In : ℕ → ℕ → Item → Type 0
  In j zero item = Begun j item
  In j (suc k) item = Begun j item ⊎ ((prev : Item) × In j k prev × Follows j prev item)

  begun_in : (j : ℕ) (item : Item) → Begun j item → InSet g E top j item
  begun_in j item (inl (z, e)) = subst (λ p. InSet g E top p item) (sym z) (subst (InSet g E top 0) (sym e) Start)
  begun_in j item (inr (i, lt, (prev, s, (e, (x, a, t))))) = subst (InSet g E top j) (sym e) (Scan s a t)

  follows_in : (j : ℕ) (prev item : Item) → InSet g E top j prev → Follows j prev item → InSet g E top j item
  follows_in j prev item s (inl (r, rule, (a, e))) = subst (InSet g E top j) (sym e) (Predict s a rule refl)
  follows_in j prev item s (inr (inl (e, (x, a, n)))) = subst (InSet g E top j) (sym e) (Skip s a n)
  follows_in j prev item s (inr (inr ((w, lt), (waiting, i, (a, e))))) = subst (InSet g E top j) (sym e) (Complete s w lt i a)

  to_set : (j k : ℕ) (item : Item) → In j k item → InSet g E top j item
  to_set j zero item b = begun_in j item b
  to_set j (suc k) item (inl b) = begun_in j item b
  to_set j (suc k) item (inr (prev, s, f)) = follows_in j prev item (to_set j k prev s) f

  from_set : {j : ℕ} {item : Item} → InSet g E top j item → (k : ℕ) × In j k item
  from_set Start = (0, inl (refl, refl))
  from_set (Predict {j = j} {x = x} {r = r} {item = item} i e rule l) = let (k, a) = from_set i in (suc k, inr (item, a, inl (r, rule, (e ∙ ap Some (sym l), refl))))
  from_set (Skip {j = j} {x = x} {item = item} i e n) = let (k, a) = from_set i in (suc k, inr (item, a, inr (inl (refl, (x, e, n)))))
  from_set (Scan {i = i} {j = j} {x = x} {item = item} s e t) = (0, inr (i, forward x i j t, (item, s, (refl, (x, e, t)))))
  from_set (Complete {j = j} {whole = whole} {item = item} c w lt i e) = let (k, a) = from_set c in (suc k, inr (whole, a, inr (inr ((w, lt), (item, i, (e, refl))))))

  -- ---- decisions

  module _ (j : ℕ) (before : (i : ℕ) → i < j → (item : Item) → IsDecided (InSet g E top i item)) where
    some_before : (i : ℕ) → i < j → (P : Item → Type 0) → ((prev : Item) → IsDecided (P prev)) → IsDecided ((prev : Item) × InSet g E top i prev × P prev)
    some_before i lt P d =
        moved (λ (prev, m, (s, p)). (prev, s, p)) (λ (prev, s, p). (prev, in_items i prev s, (s, p)))
        (some_among (λ prev. InSet g E top i prev × P prev) (items i) (λ prev m. both (before i lt prev) (d prev)))

    begun_decided : (item : Item) → IsDecided (Begun j item)
    begun_decided item =
        one_of (both (equal j 0) (same_item item (first_item top 0)))
        (some_below (λ i. (prev : Item) × InSet g E top i prev × ((item ≡ advanced prev) × ((x : ℕ) × (after g prev ≡ Some x) × E x i j))) j
        (λ i lt. some_before i lt (λ prev. (item ≡ advanced prev) × ((x : ℕ) × (after g prev ≡ Some x) × E x i j))
        (λ prev. both (same_item item (advanced prev)) (some_held (after g prev) (λ x. E x i j) (λ x. edge x i j)))))

    follows_decided : (prev item : Item) → IsDecided (Follows j prev item)
    follows_decided prev item =
        one_of (some_below (λ r. (after g prev ≡ Some (lhs_of g r)) × (item ≡ first_item r j)) (length g.rules) (λ r lt. both (same_option (after g prev) (lhs_of g r)) (same_item item (first_item r j))))
        (one_of (both (same_item item (advanced prev)) (some_held (after g prev) (IsNullable g) (λ x. some_true (slice_get g.nullable x))))
        (both_then (both (equal prev.dot (length (rhs_of g prev.rule))) (less prev.origin j))
        (λ (w, lt). some_before prev.origin lt (λ waiting. (after g waiting ≡ Some (lhs_of g prev.rule)) × (item ≡ advanced waiting))
        (λ waiting. both (same_option (after g waiting) (lhs_of g prev.rule)) (same_item item (advanced waiting))))))

    grows : (k : ℕ) (item : Item) → In j k item → In j (suc k) item
    grows zero item b = inl b
    grows (suc k) item (inl b) = inl b
    grows (suc k) item (inr (prev, a, f)) = inr (prev, grows k prev a, f)

    member_of : (k : ℕ) (item : Item) → In j k item → Among item (items j)
    member_of k item a = in_items j item (to_set j k item a)

    rounds : AreRounds (items j) (λ item. Unit {0}) (In j)
    rounds = record {
      members = λ item m. tt;
      grows = λ k item u a. grows k item a;
      next = λ n k f item u a. elim a [ inl b ↦ inl b | inr (prev, h, l) ↦ inr (prev, f prev (member_of n prev h) h, l) ];
      first_decided = λ item u. begun_decided item;
      next_decided = λ k d item u.
          one_of (begun_decided item)
          (moved (λ (prev, m, (a, f)). (prev, a, f)) (λ (prev, a, f). (prev, member_of k prev a, (a, f)))
          (some_among (λ prev. In j k prev × Follows j prev item) (items j) (λ prev m. both (d prev m) (follows_decided prev item))));
    }

    at_place : (item : Item) → IsDecided (InSet g E top j item)
    at_place item = moved (λ (k, a). to_set j k item a) (λ s. from_set s) (decided (items j) (λ item. Unit {0}) (In j) rounds item tt)

  below_place : (j i : ℕ) → i < j → (item : Item) → IsDecided (InSet g E top i item)
  below_place zero i lt item = absurd (omega (arith, lt))
  below_place (suc j) i lt item = at_place i (λ k kl. below_place j k (omega (arith, kl, lt))) item

  pub item_decided : (j : ℕ) (item : Item) → IsDecided (InSet g E top j item)
  item_decided j item = below_place (suc j) j (omega arith) item

  pub item_set : (j : ℕ) → (xs : List Item) × IsListOf (InSet g E top j) xs
  item_set j =
      let (xs, (once, is, all)) = listed (InSet g E top j) same_item (items j) (λ item m. item_decided j item) in (
        xs,
        record {
          once = once_pairs xs once;
          exact = λ item. ((λ c. (is item (among_from xs item c)).1), (λ s. contains_from xs item (all item (in_items j item s) s)));
        },
      )

-- ---- edges of a list

same_edge : (x y : Edge) → IsDecided (x ≡ y)
same_edge x y =
    moved (λ (a, (b, c)) i. record { symbol = a i; from = b i; to = c i }) (λ e. (ap (λ (u : Edge). u.symbol) e, (ap (λ (u : Edge). u.from) e, ap (λ (u : Edge). u.to) e)))
    (both (equal x.symbol y.symbol) (both (equal x.from y.from) (equal x.to y.to)))

pub held_decided : (edges : List Edge) → AreEdgesDecided (Held edges)
held_decided edges s p q =
    let e : Edge = record { symbol = s; from = p; to = q } in
    moved (contains_from edges e) (among_from edges e) (member same_edge e edges)

terminal_is : (s t : ℕ) → Some (Terminal s) ≡ Some (Terminal t) → s ≡ t
terminal_is s t e = cc

pub flat_decided : (f : FlatGrammar) (E : Edges) → AreEdgesDecided E → AreEdgesDecided (FlatEdges f E)
flat_decided f E edge x p q = go (slice_get f.symbols x) refl
  where
    go : (o : Option FlatSymbol) → slice_get f.symbols x ≡ o → IsDecided (FlatEdges f E x p q)
    go (Some (Terminal t)) e = moved (λ h. (t, e, h)) (λ (u, a, h). subst (λ s. E s p q) (terminal_is u t (sym a ∙ e)) h) (edge t p q)
    go (Some (Slot s k)) e = inr (λ (u, a, h). absurd (let b = sym e ∙ a in cc b))
    go (Some (Sequence i)) e = inr (λ (u, a, h). absurd (let b = sym e ∙ a in cc b))
    go (Some (Top k)) e = inr (λ (u, a, h). absurd (let b = sym e ∙ a in cc b))
    go None e = inr (λ (u, a, h). absurd (let b = sym e ∙ a in cc b))

pub flat_forward : (f : FlatGrammar) (E : Edges) → GoForward E → GoForward (FlatEdges f E)
flat_forward f E forward x p q (t, is, h) = forward t p q h

pub item_sets_exist : ItemSetsExist
item_sets_exist f edges top j forward = item_set f (FlatEdges f (Held edges)) top (flat_forward f (Held edges) forward) (flat_decided f (Held edges) (held_decided edges)) j
