-- Marks of terminals that items wait for.
use Rattle.std.proofs.Common.{◌≡◌, ◌≢◌, ◌⊎◌, inl, inr, ◌↔◌, ℕ, zero, suc, ◌+◌, ◌<◌, ◌≤◌, ◌++◌, List, [], ◌∷◌, length, map, Option, Some, None, slice_get, slice_set, Contains, refl, sym, ◌∙◌, ap, subst, arith, length-append}
use Rattle.std.specs.Prelude.{slice_index_or}
use Rattle.std.specs.List.{AllPairs}
use Rattle.std.proofs.lemmas.List.{length-map}
use Rattle.std.proofs.lemmas.Bool.{cases_lt}
use Rattle.std.proofs.lemmas.List.Quantifiers.{all_pairs_push}
use Rattle.std.proofs.lemmas.List.Elements.{Contains-get_or, Contains-append_left, Contains-push, Contains-push_cases}
use Rattle.finite_sets.proofs.Members.{among_from, contains_from, among_map, pairs_once, once_most}
use Rattle.std.proofs.lemmas.Option.{slice_get-get_or}
use Rattle.finite_sets.proofs.Lists.{get_index}
use Rattle.recognizer_model.specs.declared.Item.{Item}
use Rattle.recognizer_model.specs.declared.flat.FlatSymbol.{FlatSymbol}
use Rattle.recognizer_model.specs.declared.flat.FlatSymbol.TheVariants.{Terminal, Slot, Sequence, Top}
use Rattle.recognizer_model.specs.Flat.{FlatGrammar}
use Rattle.recognizer_model.specs.Items.{after}
use Rattle.recognizer_model.specs.Invariant.{IsFlat}
use Rattle.recognizer_model.specs.Counts.{IsListOf}
use Rattle.item_rows.specs.Kept.{WaitsForTerminal}
use Rattle.expected_terminals.specs.Marks.{WaitsFor, IsAwaitedTerminal, AreMarked}
use Rattle.item_rows.proofs.Listed.{within}

-- what the items wait for that wait for terminals, the row waits for
pub awaited_of : (g : FlatGrammar) (row items : List Item) → IsListOf (λ item. Contains row item × WaitsForTerminal g item) items → (t : ℕ) →
    IsAwaitedTerminal g items t ↔ IsAwaitedTerminal g row t
awaited_of g row items is t = (
  λ (item, h, w). (item, ((is.exact item).0 h).0, w),
  λ (item, h, (x, w, s)). (item, (is.exact item).1 (h, (x, w, (t, s))), (x, w, s)),
)

-- what is got of a list with one element set
pub got_set : {A : Type 0} (xs : List A) (k : ℕ) (x : A) (j : ℕ) (y : A) → slice_get (slice_set xs k x) j ≡ Some y → ((j ≢ k) × (slice_get xs j ≡ Some y)) ⊎ ((j ≡ k) × (y ≡ x))
got_set [] k x j y e = absurd (cc)
got_set (z ∷ zs) zero x zero y e = inr (refl, cc)
got_set (z ∷ zs) zero x (suc j) y e = inl ((λ n. absurd (omega (arith, n))), e)
got_set (z ∷ zs) (suc k) x zero y e = inl ((λ n. absurd (omega (arith, n))), e)
got_set (z ∷ zs) (suc k) x (suc j) y e = elim (got_set zs k x j y e) [ inl (n, o) ↦ inl ((λ m. n (omega (arith, m))), o) | inr (n, o) ↦ inr (ap suc n, o) ]

terminal_or : FlatSymbol → ℕ
terminal_or (Terminal t) = t
terminal_or (Slot s k) = 0
terminal_or (Sequence i) = 0
terminal_or (Top k) = 0

same_terminal : (s t : ℕ) → Some (Terminal s) ≡ Some (Terminal t) → s ≡ t
same_terminal s t e = cc

pub got_contains : {A : Type 0} (xs : List A) (k : ℕ) (x : A) → slice_get xs k ≡ Some x → Contains xs x
got_contains xs k x e = let (lt, at) = get_index xs k x x e in (k, lt, at)

pub listed_more : (old new : List ℕ) (t : ℕ) → new ≡ old ++ t ∷ [] → (s : ℕ) → Contains new s ↔ (Contains old s ⊎ (t ≡ s))
listed_more old new t e s = (
  λ h. Contains-push_cases old t s (subst (λ l. Contains l s) e h),
  λ h. subst (λ l. Contains l s) (sym e) (elim h [ inl o ↦ Contains-append_left old (t ∷ []) s o | inr same ↦ subst (Contains (old ++ t ∷ [])) same (Contains-push old t) ]),
)

-- no more terminals are listed than there are symbols
few_listed : (g : FlatGrammar) (listed : List ℕ) → AllPairs (λ s t. s ≢ t) listed → ((t : ℕ) → Contains listed t → (x : ℕ) × (slice_get g.symbols x ≡ Some (Terminal t))) → length listed ≤ length g.symbols
unfolding terminal_or
few_listed g listed once known =
    let most = once_most listed (map terminal_or g.symbols) (pairs_once listed once) (λ t m. let (x, is) = known t (contains_from listed t m) in
    among_map terminal_or (Terminal t) g.symbols (among_from g.symbols (Terminal t) (got_contains g.symbols x (Terminal t) is))) in
    omega (arith, most, length-map g.symbols terminal_or)

module _ (g : FlatGrammar) (flat : IsFlat g) (x t mark : ℕ) (is : slice_get g.symbols x ≡ Some (Terminal t)) (marks listed : List ℕ) (are : AreMarked g mark marks listed)
    (all : length marks ≡ length g.symbols) where
  here : x < length marks
  here = let w = within g.symbols x (Terminal t) is in omega arith

  -- a terminal whose symbol has the mark is listed
  pub listed_is : (m d : ℕ) → m ≡ slice_index_or marks x d → (m ≡ mark) ↔ Contains listed t
  listed_is m d at = are.exact x m t (subst (λ z. slice_get marks x ≡ Some z) (sym at) (slice_get-get_or marks x d here)) is

  known_more : (s : ℕ) → Contains (listed ++ t ∷ []) s → (y : ℕ) × (slice_get g.symbols y ≡ Some (Terminal s))
  known_more s h = elim (Contains-push_cases listed t s h) [ inl o ↦ are.known s o | inr e ↦ (x, is ∙ ap (λ z. Some (Terminal z)) e) ]

  once_more : ¬ Contains listed t → AllPairs (λ s t. s ≢ t) (listed ++ t ∷ [])
  once_more n = all_pairs_push (λ s t. s ≢ t) listed t are.once (λ k d lt e. n (subst (Contains listed) e (Contains-get_or listed k d lt)))

  pub room_for : ¬ Contains listed t → length listed < length g.symbols
  room_for n = let few = few_listed g (listed ++ t ∷ []) (once_more n) known_more in omega (arith, few, length-append listed (t ∷ []))

  pub marked_more : ¬ Contains listed t → AreMarked g mark (slice_set marks x mark) (listed ++ t ∷ [])
  marked_more n = record {
    most = λ y m e. (elim (got_set marks x mark y m e) [ inl (_, old) ↦ are.most y m old | inr (_, new) ↦ omega arith ]);
    exact = λ y m s e f. (elim (got_set marks x mark y m e) [
      | inl (other, old) ↦ (
        λ same. Contains-append_left listed (t ∷ []) s ((are.exact y m s old f).0 same),
        λ h. elim (Contains-push_cases listed t s h) [
          | inl o ↦ (are.exact y m s old f).1 o
          | inr e' ↦ absurd (other (flat.differ y x (Terminal t) (f ∙ ap (λ z. Some (Terminal z)) (sym e')) is))
        ],
      )
      | inr (there, new) ↦ (
        λ same. subst (Contains (listed ++ t ∷ [])) (same_terminal t s (sym is ∙ (ap (slice_get g.symbols) (sym there) ∙ f))) (Contains-push listed t),
        λ h. new,
      )
    ]);
    known = known_more;
    once = once_more n;
  }

-- an item waits for the terminal of the symbol after its dot alone
waits_for : (g : FlatGrammar) (item : Item) (x t : ℕ) → after g item ≡ Some x → slice_get g.symbols x ≡ Some (Terminal t) → (s : ℕ) → (t ≡ s) ↔ WaitsFor g item s
waits_for g item x t w is s = (
  λ e. (x, w, is ∙ ap (λ z. Some (Terminal z)) e),
  λ (y, w', is'). (let same : x ≡ y = same_symbol x y (sym w ∙ w') in same_terminal t s (sym is ∙ (ap (slice_get g.symbols) same ∙ is'))),
)
  where
    same_symbol : (a b : ℕ) → Some a ≡ Some b → a ≡ b
    same_symbol a b e = cc

pub listed_waiting : (g : FlatGrammar) (item : Item) (x t : ℕ) → after g item ≡ Some x → slice_get g.symbols x ≡ Some (Terminal t) → (old new : List ℕ) →
    ((s : ℕ) → Contains new s ↔ (Contains old s ⊎ (t ≡ s))) → (s : ℕ) → Contains new s ↔ (Contains old s ⊎ WaitsFor g item s)
listed_waiting g item x t w is old new more s = (
  λ h. elim ((more s).0 h) [ inl o ↦ inl o | inr e ↦ inr ((waits_for g item x t w is s).0 e) ],
  λ h. (more s).1 (elim h [ inl o ↦ inl o | inr w' ↦ inr ((waits_for g item x t w is s).1 w') ]),
)

-- what one more item waits for is listed, too
pub item_listed : (g : FlatGrammar) (items : List Item) (k : ℕ) (item : Item) (old new : List ℕ) → slice_get items k ≡ Some item →
    ((t : ℕ) → Contains old t ↔ ((i : ℕ) × (other : Item) × (i < k) × (slice_get items i ≡ Some other) × WaitsFor g other t)) →
    ((t : ℕ) → Contains new t ↔ (Contains old t ⊎ WaitsFor g item t)) →
    (t : ℕ) → Contains new t ↔ ((i : ℕ) × (other : Item) × (i < k + 1) × (slice_get items i ≡ Some other) × WaitsFor g other t)
item_listed g items k item old new at are more t = (
  λ h. elim ((more t).0 h) [ inl o ↦ (let (i, other, lt, is, w) = (are t).0 o in (i, other, omega arith, is, w)) | inr w ↦ (k, item, omega arith, at, w) ],
  λ (i, other, lt, is, w). (more t).1 (elim (cases_lt i k) [
    | inl l ↦ inl ((are t).1 (i, other, l, is, w))
    | inr le ↦ let here : i ≡ k = omega arith in inr (subst (λ z. WaitsFor g z t) (same_item other item (sym is ∙ (ap (slice_get items) here ∙ at))) w)
  ]),
)
  where
    same_item : (a b : Item) → Some a ≡ Some b → a ≡ b
    same_item a b e = cc

pub all_listed : (g : FlatGrammar) (items : List Item) (k : ℕ) (listed : List ℕ) → length items ≤ k →
    ((t : ℕ) → Contains listed t ↔ ((i : ℕ) × (item : Item) × (i < k) × (slice_get items i ≡ Some item) × WaitsFor g item t)) →
    (t : ℕ) → Contains listed t ↔ ((item : Item) × Contains items item × WaitsFor g item t)
all_listed g items k listed le are t = (
  λ h. (let (i, item, lt, is, w) = (are t).0 h in (item, got_contains items i item is, w)),
  λ (item, (i, lt, is), w). (are t).1 (i, item, omega arith, slice_get-get_or items i item lt ∙ ap Some is, w),
)
