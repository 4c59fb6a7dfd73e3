-- The items of a set that are not kept: what single steps lead to from whole items.
use Rattle.std.proofs.Common.{◌≡◌, ◌≢◌, ◌↔◌, inl, inr, ℕ, ◌+◌, ◌<◌, ◌≤◌, ◌++◌, List, [], ◌∷◌, length, take, get_or, Some, Contains, slice_get, sym, ◌∙◌, ap, subst, arith, length-append, append-nil}
use Rattle.std.specs.List.{AllPairs}
use Rattle.std.proofs.lemmas.List.{take_more, get_or_append_left, get_or-append-add}
use Rattle.std.proofs.lemmas.List.Elements.{Contains-append_left, Contains-append_right, Contains-append_cases, Contains-push, Contains-push_cases}
use Rattle.finite_sets.proofs.Lists.{Contains-none, get_index}
use Rattle.recognizer_model.specs.declared.Item.{Item}
use Rattle.recognizer_model.specs.Flat.{FlatGrammar}
use Rattle.recognizer_model.specs.Items.{IsWhole, advanced}
use Rattle.recognizer_model.specs.Counts.{IsListOf}
use Rattle.item_rows.specs.Rows.{row_at}
use Rattle.item_rows.specs.Kept.{IsItem, AreRows}
use Rattle.leo_items.proofs.Chains.{leo_inside}
use Rattle.leo_items.specs.Closed.{Adds, IsReached, Seed}
use Rattle.leo_items.specs.Closed as closing
use Rattle.leo_items.specs.Closed.{IsClosedTo}
use Rattle.leo_items.specs.Hidden.{IsWholeFrom, IsFrom, IsSingleStep, NoneLeadsOn, IsStepped, Kept, Step, IsHiddenIn}
use Rattle.leo_items.proofs.Growing.{Adds-begins, Adds-has}
use Rattle.leo_items.proofs.Loops.{closed_more}

-- the items that begin at a place or after it
module _ (from : ℕ) where
  abbrev pub AreFrom : List Item → List Item → Type 0
  AreFrom items keys = (item : Item) → Contains keys item ↔ IsFrom items from item

  pub from_none : (keys : List Item) → keys ≡ [] → AreFrom [] keys
  from_none keys none item = (λ h. absurd (Contains-none item (subst (λ l. Contains l item) none h)), λ (c, le). absurd (Contains-none item c))

  add_got : (items old new : List Item) (k : ℕ) (d : Item) → k < length items → AreFrom (take k items) old → from ≤ (get_or items k d).origin → Adds old new (get_or items k d) → AreFrom (take (k + 1) items) new
  add_got items old new k d lt are is adds item = subst (λ l. Contains new item ↔ IsFrom l from item) (sym (take_more items k d lt)) (
    λ h. elim ((Adds-has old new (get_or items k d) item adds).0 h) [
      | inl o ↦ let (c, le) = (are item).0 o in (Contains-append_left (take k items) (get_or items k d ∷ []) item c, le)
      | inr e ↦ subst (λ z. Contains (take k items ++ get_or items k d ∷ []) z × (from ≤ z.origin)) e (Contains-push (take k items) (get_or items k d), is)
    ],
    λ (c, le). (Adds-has old new (get_or items k d) item adds).1 (elim (Contains-push_cases (take k items) (get_or items k d) item c) [
      | inl o ↦ inl ((are item).1 (o, le))
      | inr e ↦ inr e
    ]),
  )

  skip_got : (items old : List Item) (k : ℕ) (d : Item) → k < length items → AreFrom (take k items) old → ¬ (from ≤ (get_or items k d).origin) → AreFrom (take (k + 1) items) old
  skip_got items old k d lt are none item = subst (λ l. Contains old item ↔ IsFrom l from item) (sym (take_more items k d lt)) (
    λ h. (let (c, le) = (are item).0 h in (Contains-append_left (take k items) (get_or items k d ∷ []) item c, le)),
    λ (c, le). elim (Contains-push_cases (take k items) (get_or items k d) item c) [
      | inl o ↦ (are item).1 (o, le)
      | inr e ↦ absurd (none (subst (λ z. from ≤ z.origin) (sym e) le))
    ],
  )

  module _ (items : List Item) (k : ℕ) (x : Item) (e : slice_get items k ≡ Some x) where
    pub from_add : (old new : List Item) → AreFrom (take k items) old → from ≤ x.origin → Adds old new x → AreFrom (take (k + 1) items) new
    from_add old new are is adds =
        let (lt, same) = get_index items k x x e in
        add_got items old new k x lt are (subst (λ z. from ≤ z.origin) (sym same) is) (subst (Adds old new) (sym same) adds)

    pub from_skip : (old : List Item) → AreFrom (take k items) old → ¬ (from ≤ x.origin) → AreFrom (take (k + 1) items) old
    from_skip old are none = let (lt, same) = get_index items k x x e in skip_got items old k x lt are (λ is. none (subst (λ z. from ≤ z.origin) same is))

-- of the whole items of a row
module _ (g : FlatGrammar) (from : ℕ) where
  abbrev pub AreWhole : List Item → List Item → Type 0
  AreWhole row keys = (item : Item) → Contains keys item ↔ IsWholeFrom g row from item

  pub whole_from : (row items keys : List Item) → IsListOf (λ item. Contains row item × IsWhole g item) items → AreFrom from items keys → AreWhole row keys
  whole_from row items keys lists are item = (
    λ h. (let (c, le) = (are item).0 h in let (r, w) = (lists.exact item).0 c in (r, w, le)),
    λ (r, w, le). (are item).1 ((lists.exact item).1 (r, w), le),
  )

-- what was added to a list with no item twice is none of the first ones, and nothing twice
module _ (kept more : List Item) (once : AllPairs (λ x y. x ≢ y) (kept ++ more)) where
  pub apart : (item : Item) → Contains kept item → Contains more item → ⊥
  apart item (i, il, ie) (j, jl, je) =
      let l = length-append kept more in
      once i (length kept + j) item (omega arith) (omega arith) (get_or_append_left kept more item i il ∙ (ie ∙ (sym je ∙ sym (get_or-append-add kept more j item))))

  pub more_once : AllPairs (λ x y. x ≢ y) more
  more_once i j d lt below e =
      let l = length-append kept more in
      once (length kept + i) (length kept + j) d (omega arith) (omega arith) (get_or-append-add kept more i d ∙ (e ∙ sym (get_or-append-add kept more j d)))

-- single steps
module _ (g : FlatGrammar) (rows : List (List Item)) (are : AreRows g rows) (earleme from : ℕ) where
  step_item : (item other : Item) → IsSingleStep g rows earleme from item other → IsItem g other
  step_item item other (lt, (leo, l, same), le) =
      subst (IsItem g) (sym same) (record { is_rule = (leo_inside g rows are l).0; within = let w = l.last in omega arith })

  step_one : (item a b : Item) → IsSingleStep g rows earleme from item a → IsSingleStep g rows earleme from item b → a ≡ b
  step_one item a b (lt, (x, l, e), le) (lt', (y, l', e'), le') = e ∙ (ap advanced (l'.only x l.there l.waits) ∙ sym e')

  module _ (seeds keys : List Item) (k : ℕ) (inv : IsClosedTo g (IsSingleStep g rows earleme from) seeds keys k) (item : Item) (at : Some item ≡ slice_get keys k) where
    pub step_added : (step : Item) (new : List Item) → IsSingleStep g rows earleme from item step → Adds keys new step → IsClosedTo g (IsSingleStep g rows earleme from) seeds new (k + 1)
    step_added step new is adds =
        closed_more g (IsSingleStep g rows earleme from) seeds keys k inv item (step ∷ []) new at (step_item item)
        (λ other h. elim (Contains-push_cases [] step other h) [ inl none ↦ absurd (Contains-none other none) | inr e ↦ subst (IsSingleStep g rows earleme from item) e is ])
        (λ other f. inr (subst (Contains (step ∷ [])) (step_one item step other is f) (Contains-push [] step)))
        (record {
          begins = Adds-begins keys new step adds;
          has = λ other. (
            λ h. elim ((Adds-has keys new step other adds).0 h) [ inl o ↦ inl o | inr e ↦ inr (subst (Contains (step ∷ [])) e (Contains-push [] step)) ],
            λ h. (Adds-has keys new step other adds).1 (elim h [
              | inl o ↦ inl o
              | inr n ↦ elim (Contains-push_cases [] step other n) [ inl none ↦ absurd (Contains-none other none) | inr e ↦ inr e ]
            ]),
          );
        })

    pub none_added : ((step : Item) → ¬ IsSingleStep g rows earleme from item step) → IsClosedTo g (IsSingleStep g rows earleme from) seeds keys (k + 1)
    none_added none =
        closed_more g (IsSingleStep g rows earleme from) seeds keys k inv item [] keys at (step_item item) (λ other h. absurd (Contains-none other h)) (λ other f. absurd (none other f))
        (record { begins = ([], sym (append-nil keys)); has = λ other. (λ h. inl h, λ h. elim h [ inl o ↦ o | inr n ↦ absurd (Contains-none other n) ]) })

  pub stepped_whole : {item : Item} → IsStepped g rows earleme from item → IsWhole g item × (from ≤ item.origin)
  stepped_whole (Kept (c, w, le)) = (w, le)
  stepped_whole (Step {item = item} {other = other} s (lt, (leo, l, same), le)) = (subst (IsWhole g) (sym same) l.last, le)

  -- a list of what is reached, of which the first are those of the row
  module _ (kept more : List Item) (whole : AreWhole g from (row_at rows earleme) kept) (reached : (item : Item) → Contains (kept ++ more) item ↔ IsReached (IsSingleStep g rows earleme from) kept item)
      (once : AllPairs (λ x y. x ≢ y) (kept ++ more)) where
    to_stepped : (item : Item) → IsReached (IsSingleStep g rows earleme from) kept item → IsStepped g rows earleme from item
    to_stepped item (Seed h) = Kept ((whole item).0 h)
    to_stepped item (closing.Step {item = before} r f) = Step (to_stepped before r) f

    from_stepped : {item : Item} → IsStepped g rows earleme from item → IsReached (IsSingleStep g rows earleme from) kept item
    from_stepped {item} (Kept w) = Seed ((whole item).1 w)
    from_stepped (Step s f) = closing.Step (from_stepped s) f

    pub hidden_listed : IsListOf (IsHiddenIn g rows earleme from) more
    hidden_listed = record {
      once = more_once kept more once;
      exact = λ item. (
        λ h. (
            let s = to_stepped item ((reached item).0 (Contains-append_right kept more item h)) in
            (s, λ c. apart kept more once item ((whole item).1 (c, (stepped_whole s).0, (stepped_whole s).1)) h)
            ),
        λ (s, none). elim (Contains-append_cases kept more item ((reached item).1 (from_stepped s))) [ inl k ↦ absurd (none ((whole item).0 k).0) | inr m ↦ m ],
      );
    }

-- where no single step leads on from a whole item of the row, nothing is hidden
module _ (g : FlatGrammar) (rows : List (List Item)) (earleme from : ℕ) where
  pub none_more : (items : List Item) (k : ℕ) (x : Item) → slice_get items k ≡ Some x → NoneLeadsOn g rows earleme from (take k items) → (from ≤ x.origin → (step : Item) → ¬ IsSingleStep g rows earleme from x step) →
      NoneLeadsOn g rows earleme from (take (k + 1) items)
  none_more items k x e none here item step (h, le) s =
      let (lt, same) = get_index items k x x e in
      elim (Contains-push_cases (take k items) (get_or items k x) item (subst (λ l. Contains l item) (take_more items k x lt) h)) [
        | inl o ↦ none item step (o, le) s
        | inr is ↦ subst (λ z. from ≤ z.origin → (step : Item) → ¬ IsSingleStep g rows earleme from z step) (sym same ∙ is) here le step s
      ]

  pub none_hidden : (items : List Item) → IsListOf (λ item. Contains (row_at rows earleme) item × IsWhole g item) items → NoneLeadsOn g rows earleme from items → IsListOf (IsHiddenIn g rows earleme from) []
  none_hidden items lists none = record {
    once = λ i j d lt below e. absurd (omega arith);
    exact = λ item. (λ h. absurd (Contains-none item h), λ (s, out). absurd (out (kept s).0));
  }
    where
      kept : {item : Item} → IsStepped g rows earleme from item → IsWholeFrom g (row_at rows earleme) from item
      kept (Kept w) = w
      kept (Step {item = before} {other = other} s f) = let (r, w, le) = kept s in absurd (none before other ((lists.exact before).1 (r, w), le) f)
