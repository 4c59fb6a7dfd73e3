-- Items that no node asks for: how a set of them grows.
use Rattle.std.proofs.Common.{◌≡◌, ◌⊎◌, inl, inr, ℕ, zero, suc, ◌+◌, ◌<◌, ◌≤◌, ◌++◌, List, [], ◌∷◌, Option, Some, None, length, take, Contains, slice_get, Bool, true, false, not, true≢false, refl, sym, ◌∙◌, ap, subst, arith, append-nil, append_assoc, length-append}
use Rattle.std.proofs.lemmas.Bool.{cases_lt}
use Rattle.std.proofs.lemmas.List.Elements.{Contains-append_left}
use Rattle.finite_sets.proofs.Lists.{Contains-none, got_item, got_at}
use Rattle.grammar_model.specs.declared.Ranking.{Ranking}
use Rattle.grammar_model.specs.Grammar.{Grammar}
use Rattle.recognizer_model.specs.declared.Item.{Item}
use Rattle.recognizer_model.specs.declared.NodeKey.{NodeKey}
use Rattle.recognizer_model.specs.Below.{node_of}
use Rattle.leo_items.specs.Closed.{Adds}
use Rattle.leo_items.proofs.Growing.{Adds-begins, Adds-has}
use Rattle.earley_sets.specs.Recognizer.{Recognizer}
use Rattle.earley_sets.proofs.Membership.{found_at}
use Rattle.forest_parts.specs.Unasked.{IsAbove, IsPlaced, AreUnasked, IsAskedFor, Met, Over, AreParted, IsTold, Tells, Takes}
use Rattle.forest_parts.proofs.Gathering.{ByFirst}

get_below : {X : Type 0} (xs ys : List X) (n : ℕ) (x : X) → slice_get (xs ++ ys) n ≡ Some x → n < length xs → slice_get xs n ≡ Some x
get_below [] ys n x e lt = absurd (omega arith)
get_below (z ∷ zs) ys zero x e lt = e
get_below (z ∷ zs) ys (suc n) x e lt = get_below zs ys n x e (omega arith)

pub take_left : {X : Type 0} (xs ys : List X) → take (length xs) (xs ++ ys) ≡ xs
take_left [] [] = refl
take_left [] (y ∷ ys) = refl
take_left (x ∷ xs) ys = ap (λ l. x ∷ l) (take_left xs ys)

pub none_differs : (x : ℕ) (o : Option ℕ) → o ≡ Some x → o ≡ None → ⊥
none_differs x o e none = let one : Some x ≡ None = sym e ∙ none in cc

pub not_both : (b : Bool) → not b ≡ true → b ≡ true → ⊥
not_both true t e = true≢false (sym t)
not_both false t e = true≢false (sym e)

pub not_from : (b : Bool) → (b ≡ true → ⊥) → not b ≡ true
not_from true f = absurd (f refl)
not_from false f = refl

module _ (r : Recognizer) where
  pub takes_none : (P : Item → Type 0) (old : List Item) → ((x : Item) → P x → ⊥) → Takes r P old old
  takes_none P old never = record { begins = ([], sym (append-nil old)); all = λ x p. absurd (never x p); only = λ x h. inl h; placed = λ x h. inl h }

  pub takes_one : (P : Item → Type 0) (old new : List Item) (v : Item) → Adds old new v → P v → ((x : Item) → P x → x ≡ v) → IsPlaced r v → Takes r P old new
  takes_one P old new v adds has only is = record {
    begins = Adds-begins old new v adds;
    all = λ x p. (Adds-has old new v x adds).1 (inr (sym (only x p)));
    only = λ x h. elim ((Adds-has old new v x adds).0 h) [ inl o ↦ inl o | inr e ↦ inr (subst P e has) ];
    placed = λ x h. elim ((Adds-has old new v x adds).0 h) [ inl o ↦ inl o | inr e ↦ inr (subst (IsPlaced r) e is) ];
  }

  pub takes_of : (P Q : Item → Type 0) (old new : List Item) → ((x : Item) → Q x → P x) → ((x : Item) → P x → Q x) → Takes r P old new → Takes r Q old new
  takes_of P Q old new f back t = record { begins = t.begins; all = λ x q. t.all x (f x q); only = λ x h. elim (t.only x h) [ inl o ↦ inl o | inr p ↦ inr (back x p) ]; placed = t.placed }

  pub kept : (old new : List Item) → ((more : List Item) × (new ≡ old ++ more)) → (x : Item) → Contains old x → Contains new x
  kept old new (more, e) x h = subst (λ l. Contains l x) (sym e) (Contains-append_left old more x h)

  -- what one more of some items brings
  pub takes_more : (R : Item → Item → Type 0) (ys : List Item) (k : ℕ) (old mid new : List Item) (y v : Item) → Takes r (ByFirst R ys k) old mid → slice_get ys k ≡ Some y → Adds mid new v → R y v → ((x : Item) → R y x → x ≡ v) → IsPlaced r v →
      Takes r (ByFirst R ys (k + 1)) old new
  takes_more R ys k old mid new y v t at adds has only is =
      let (more, e) = t.begins in
      let (more', e') = Adds-begins mid new v adds in
      record {
        begins = (more ++ more', e' ∙ (ap (λ l. l ++ more') e ∙ append_assoc old more more'));
        all = λ x (i, z, lt, got, rel). elim (cases_lt i k) [
          | inl l ↦ kept mid new (more', e') x (t.all x (i, z, l, got, rel))
          | inr ge ↦
              let same : i ≡ k = omega arith in
              let one : Some z ≡ Some y = sym got ∙ ap (slice_get ys) same ∙ at in
              let q : z ≡ y = cc in
              (Adds-has mid new v x adds).1 (inr (sym (only x (subst (λ w. R w x) q rel))))
        ];
        only = λ x h. elim ((Adds-has mid new v x adds).0 h) [
          | inl m ↦ elim (t.only x m) [ inl o ↦ inl o | inr (i, z, lt, got, rel) ↦ inr (i, z, omega arith, got, rel) ]
          | inr q ↦ inr (k, y, omega arith, at, subst (λ w. R y w) q has)
        ];
        placed = λ x h. elim ((Adds-has mid new v x adds).0 h) [ inl o ↦ t.placed x o | inr q ↦ inr (subst (IsPlaced r) q is) ];
      }

-- of these items the first k are unmet, and what stands above them is there
pub record AreUnaskedTo (w : Grammar) (ranking : Ranking) (r : Recognizer) (keys : List NodeKey) (end : ℕ) (items : List Item) (k : ℕ) : Type 0 where
  pub within : k ≤ length items
  pub placed : (item : Item) → Contains items item → IsPlaced r item
  pub unmet : (i : ℕ) (item : Item) → i < k → slice_get items i ≡ Some item → ¬ Contains keys (node_of item end)
  pub closed : (i : ℕ) (item other : Item) → i < k → slice_get items i ≡ Some item → IsAbove w ranking r end item other → Contains items other

module _ (w : Grammar) (ranking : Ranking) (r : Recognizer) (keys : List NodeKey) (end : ℕ) where
  pub unasked_none : (items : List Item) → items ≡ [] → AreUnasked w ranking r keys end items
  unasked_none items e = record {
    placed = λ x h. absurd (Contains-none x (subst (λ l. Contains l x) e h));
    unmet = λ x h. absurd (Contains-none x (subst (λ l. Contains l x) e h));
    closed = λ x y h. absurd (Contains-none x (subst (λ l. Contains l x) e h));
  }

  pub unasked_begun : (old new : List Item) (item : Item) → AreUnasked w ranking r keys end old → Adds old new item → IsPlaced r item → AreUnaskedTo w ranking r keys end new (length old)
  unasked_begun old new item are adds is =
      let (more, e) = Adds-begins old new item adds in
      let back : (i : ℕ) (x : Item) → i < length old → slice_get new i ≡ Some x → Contains old x = λ i x lt at. got_item old i x (sym (get_below old more i x (subst (λ l. slice_get l i ≡ Some x) e at) lt)) in
      record {
        within = let l : length new ≡ length old + length more = ap length e ∙ length-append old more in omega arith;
        placed = λ x h. elim ((Adds-has old new item x adds).0 h) [ inl o ↦ are.placed x o | inr q ↦ subst (IsPlaced r) q is ];
        unmet = λ i x lt at. are.unmet x (back i x lt at);
        closed = λ i x y lt at above. kept r old new (more, e) y (are.closed x y (back i x lt at) above);
      }

  pub unasked_more : (items new : List Item) (k : ℕ) (item : Item) → AreUnaskedTo w ranking r keys end items k → slice_get items k ≡ Some item → (¬ Contains keys (node_of item end)) → Takes r (IsAbove w ranking r end item) items new → AreUnaskedTo w ranking r keys end new (k + 1)
  unasked_more items new k item are at unmet t =
      let (more, e) = t.begins in
      let there = got_item items k item (sym at) in
      let (below, same) = got_at items k item item (sym at) in
      let back : (i : ℕ) (x : Item) → i ≤ k → slice_get new i ≡ Some x → slice_get items i ≡ Some x = λ i x le here. get_below items more i x (subst (λ l. slice_get l i ≡ Some x) e here) (omega arith) in
      let last : (i : ℕ) (x : Item) → i ≡ k → slice_get items i ≡ Some x → item ≡ x = λ i x q here. (let one : Some item ≡ Some x = sym at ∙ ap (slice_get items) (sym q) ∙ here in cc) in
      record {
        within = let l : length new ≡ length items + length more = ap length e ∙ length-append items more in omega arith;
        placed = λ x h. elim (t.placed x h) [ inl o ↦ are.placed x o | inr p ↦ p ];
        unmet = λ i x lt here. elim (cases_lt i k) [
          | inl less ↦ are.unmet i x less (back i x (omega arith) here)
          | inr ge ↦ (let q : i ≡ k = omega arith in subst (λ z. ¬ Contains keys (node_of z end)) (last i x q (back i x (omega arith) here)) unmet)
        ];
        closed = λ i x y lt here above. elim (cases_lt i k) [
          | inl less ↦ kept r items new (more, e) y (are.closed i x y less (back i x (omega arith) here) above)
          | inr ge ↦ (let q : i ≡ k = omega arith in t.all y (subst (λ z. IsAbove w ranking r end z y) (sym (last i x q (back i x (omega arith) here))) above))
        ];
      }

  pub unasked_done : (items : List Item) (k : ℕ) → AreUnaskedTo w ranking r keys end items k → length items ≤ k → AreUnasked w ranking r keys end items
  unasked_done items k are le = record {
    placed = are.placed;
    unmet = λ x h. (let (i, at) = found_at items x h in let (below, same) = got_at items i x x (sym at) in are.unmet i x (omega arith) at);
    closed = λ x y h above. (let (i, at) = found_at items x h in let (below, same) = got_at items i x x (sym at) in are.closed i x y (omega arith) at above);
  }

-- ITEMS THAT ARE ASKED FOR

-- no item without a node is
pub unasked_never : (w : Grammar) (ranking : Ranking) (r : Recognizer) (keys : List NodeKey) (end : ℕ) (items : List Item) → AreUnasked w ranking r keys end items → {item : Item} → Contains items item → IsAskedFor w ranking r keys end item → ⊥
unasked_never w ranking r keys end items un c (Met {item = item} h) = un.unmet item c h
unasked_never w ranking r keys end items un c (Over {item = item} {other = other} above a) = unasked_never w ranking r keys end items un (un.closed item other c above) a

module _ (w : Grammar) (ranking : Ranking) (r : Recognizer) (keys : List NodeKey) (end : ℕ) where
  -- where one of them is asked for, the first of those that were put is
  abbrev pub LeadBack : (old items : List Item) → Item → Type 0
  LeadBack old items item = (x : Item) → Contains items x → Contains old x ⊎ (IsAskedFor w ranking r keys end x → IsAskedFor w ranking r keys end item)

  pub back_begun : (old new : List Item) (item : Item) → Adds old new item → LeadBack old new item
  back_begun old new item adds x h = elim ((Adds-has old new item x adds).0 h) [ inl o ↦ inl o | inr e ↦ inr (λ a. subst (IsAskedFor w ranking r keys end) (sym e) a) ]

  pub back_more : (old items new : List Item) (item next : Item) → AreUnasked w ranking r keys end old → LeadBack old items item → Contains items next → Takes r (IsAbove w ranking r end next) items new → LeadBack old new item
  back_more old items new item next un back there t x h = elim (t.only x h) [
    | inl o ↦ back x o
    | inr above ↦ elim (back next there) [ inl o ↦ inl (un.closed next x o above) | inr f ↦ inr (λ a. f (Over above a)) ]
  ]

  pub back_asked : (old items : List Item) (item next : Item) → AreUnasked w ranking r keys end old → LeadBack old items item → Contains items next → IsAskedFor w ranking r keys end next → IsAskedFor w ranking r keys end item
  back_asked old items item next un back there a = elim (back next there) [ inl o ↦ absurd (unasked_never w ranking r keys end old un o a) | inr f ↦ f a ]

  -- what is told of one item more
  pub tells_unasked : (unasked unasked' asked : List Item) (item : Item) → AreParted w ranking r keys end unasked asked → ((x : Item) → Contains unasked x → Contains unasked' x) → AreUnasked w ranking r keys end unasked' → Contains unasked' item →
      Tells w ranking r keys end (λ x. x ≡ item) unasked asked unasked' asked
  tells_unasked unasked unasked' asked item are kept un there = record {
    parted = record { are_unasked = un; are_asked = are.are_asked };
    keeps = λ x h. elim h [ inl u ↦ inl (kept x u) | inr a ↦ inr a ];
    tells = λ x e. inl (subst (Contains unasked') (sym e) there);
  }

  pub tells_asked : (unasked asked asked' : List Item) (item : Item) → AreParted w ranking r keys end unasked asked → Adds asked asked' item → IsAskedFor w ranking r keys end item → Tells w ranking r keys end (λ x. x ≡ item) unasked asked unasked asked'
  tells_asked unasked asked asked' item are adds is = record {
    parted = record { are_unasked = are.are_unasked; are_asked = λ x h. elim ((Adds-has asked asked' item x adds).0 h) [ inl o ↦ are.are_asked x o | inr e ↦ subst (IsAskedFor w ranking r keys end) e is ] };
    keeps = λ x h. elim h [ inl u ↦ inl u | inr a ↦ inr ((Adds-has asked asked' item x adds).1 (inl a)) ];
    tells = λ x e. inr ((Adds-has asked asked' item x adds).1 (inr (sym e)));
  }

  -- what was told already
  pub tells_none : (P : Item → Type 0) (unasked asked : List Item) → AreParted w ranking r keys end unasked asked → ((x : Item) → P x → IsTold unasked asked x) → Tells w ranking r keys end P unasked asked unasked asked
  tells_none P unasked asked are told = record { parted = are; keeps = λ x h. h; tells = told }

  pub tells_of : (P Q : Item → Type 0) (unasked asked unasked' asked' : List Item) → ((x : Item) → Q x → P x) → Tells w ranking r keys end P unasked asked unasked' asked' → Tells w ranking r keys end Q unasked asked unasked' asked'
  tells_of P Q unasked asked unasked' asked' f t = record { parted = t.parted; keeps = t.keeps; tells = λ x q. t.tells x (f x q) }

  -- one item more of a list
  pub tells_more : (R : Item → Item → Type 0) (ys : List Item) (k : ℕ) (u a u' a' u'' a'' : List Item) (y : Item) → Tells w ranking r keys end (ByFirst R ys k) u a u' a' → slice_get ys k ≡ Some y → Tells w ranking r keys end (R y) u' a' u'' a'' →
      Tells w ranking r keys end (ByFirst R ys (k + 1)) u a u'' a''
  tells_more R ys k u a u' a' u'' a'' y first at t = record {
    parted = t.parted;
    keeps = λ x h. t.keeps x (first.keeps x h);
    tells = λ x (i, z, lt, got, rel). elim (cases_lt i k) [
      | inl l ↦ t.keeps x (first.tells x (i, z, l, got, rel))
      | inr ge ↦
          let same : i ≡ k = omega arith in
          let one : Some z ≡ Some y = sym got ∙ ap (slice_get ys) same ∙ at in
          let q : z ≡ y = cc in
          t.tells x (subst (λ w. R w x) q rel)
    ];
  }
