-- Dotted rules listed rule by rule.
use Rattle.std.proofs.Common.{◌≡◌, ◌≢◌, ◌⊎◌, inl, inr, ℕ, zero, suc, ◌+◌, ◌-◌, ◌<◌, ◌≤◌, ◌++◌, List, [], ◌∷◌, length, Option, Some, None, slice_get, Contains, refl, sym, ◌∙◌, ap, subst, arith, length-append}
use Rattle.std.specs.Prelude.{slice_index_or}
use Rattle.std.specs.List.{AllPairs}
use Rattle.std.proofs.lemmas.Bool.{cases_lt}
use Rattle.std.proofs.lemmas.Option.{slice_get_past, slice_get-get_or}
use Rattle.finite_sets.proofs.Lists.{get_none, get_index}
use Rattle.recognizer_model.specs.declared.Item.{Item}
use Rattle.recognizer_model.specs.Flat.{FlatGrammar, IsRule, rhs_of}
use Rattle.recognizer_model.specs.Items.{after}
use Rattle.recognizer_model.specs.Invariant.{IsFlat}
use Rattle.item_rows.specs.declared.dotted.Span.{Span}
use Rattle.item_rows.specs.Kept.{IsItem}
use Rattle.item_rows.specs.Order.{or_end, symbol_or_end}
use Rattle.item_rows.specs.Dotted.{no_item, dotted_at, DifferInDots, AddsDots, IsListedAt, AreListed, AreNumbers, IsNumbered, IsSpan, IsWholeSpan, AreSpans}
use Rattle.recognizer_model.proofs.Sources.{rule_there}
use Rattle.kernels.proofs.Numbers.{index_any}

module _ {A : Type 0} where
  pub get_more : (xs ys : List A) (k : ℕ) (x : A) → slice_get xs k ≡ Some x → slice_get (xs ++ ys) k ≡ Some x
  get_more [] ys k x e = absurd (cc)
  get_more (y ∷ xs) ys zero x e = e
  get_more (y ∷ xs) ys (suc k) x e = get_more xs ys k x e

  pub get_left : (xs ys : List A) (k : ℕ) → k < length xs → slice_get (xs ++ ys) k ≡ slice_get xs k
  get_left [] ys k lt = absurd (omega arith)
  get_left (y ∷ xs) ys zero lt = refl
  get_left (y ∷ xs) ys (suc k) lt = get_left xs ys k (omega arith)

  pub get_last : (xs : List A) (x : A) → slice_get (xs ++ x ∷ []) (length xs) ≡ Some x
  get_last [] x = refl
  get_last (y ∷ xs) x = get_last xs x

  some_same : (a b : A) → Some a ≡ Some b → a ≡ b
  some_same a b e = cc

  pub within : (xs : List A) (k : ℕ) (x : A) → slice_get xs k ≡ Some x → k < length xs
  within xs k x e = (get_index xs k x x e).0

-- the dotted rules of one rule
pub no_dots : (r : ℕ) (xs : List Item) → AddsDots r 0 xs xs
no_dots r xs = record { size = omega arith; before = λ k lt. refl; dots = λ d lt. absurd (omega arith) }

pub more_dots : (r n : ℕ) (old mid new : List Item) → AddsDots r n old mid → new ≡ mid ++ record { rule = r; dot = n; origin = 0 } ∷ [] → AddsDots r (suc n) old new
more_dots r n old mid new adds is = subst (AddsDots r (suc n) old) (sym is) (record {
  size = (let l = length-append mid (record { rule = r; dot = n; origin = 0 } ∷ []) in let s = adds.size in omega arith);
  before = λ k lt. (let s = adds.size in get_left mid (record { rule = r; dot = n; origin = 0 } ∷ []) k (omega arith) ∙ adds.before k lt);
  dots = λ d lt. dot d (cases_lt d n) lt;
})
  where
    dot : (d : ℕ) → (d < n) ⊎ (n ≤ d) → d < suc n → slice_get (mid ++ record { rule = r; dot = n; origin = 0 } ∷ []) (length old + d) ≡ Some (record { rule = r; dot = d; origin = 0 })
    dot d (inl lt) _ = get_more mid (record { rule = r; dot = n; origin = 0 } ∷ []) (length old + d) _ (adds.dots d lt)
    dot d (inr le) lt =
        let same : d ≡ n = omega arith in
        let s = adds.size in
        let here : length mid ≡ length old + d = omega arith in
        subst (λ k. slice_get (mid ++ record { rule = r; dot = n; origin = 0 } ∷ []) k ≡ Some (record { rule = r; dot = d; origin = 0 })) here
        (get_last mid (record { rule = r; dot = n; origin = 0 }) ∙ ap (λ z. Some (record { rule = r; dot = z; origin = 0 })) (sym same))

-- those of the first rules
pub none_listed : (g : FlatGrammar) → AreListed g [] [] 0
none_listed g = record { told = λ k item e. absurd (cc); there = λ item lt le. absurd (omega arith) }

module _ (g : FlatGrammar) (listed : List Item) (firsts : List ℕ) (n : ℕ) (are : AreListed g listed firsts n) (size : length firsts ≡ n)
    (new : List Item) (adds : AddsDots n (suc (length (rhs_of g n))) listed new) (first : ℕ) (first_is : first ≡ length listed) where
  lifted : (item : Item) (k : ℕ) → IsListedAt listed firsts item k → IsListedAt new (firsts ++ first ∷ []) item k
  lifted item k at = record {
    first = at.first;
    begins = get_more firsts (first ∷ []) item.rule at.first at.begins;
    at = at.at;
    is = adds.before k (within listed k _ at.is) ∙ at.is;
  }

  begun : slice_get (firsts ++ first ∷ []) n ≡ Some first
  begun = subst (λ k. slice_get (firsts ++ first ∷ []) k ≡ Some first) size (get_last firsts first)

  abbrev dotted : (d : ℕ) → Item
  dotted d = record { rule = n; dot = d; origin = 0 }

  newest : (item : Item) (d : ℕ) → d < suc (length (rhs_of g n)) → item.rule ≡ n → item.dot ≡ d → IsListedAt new (firsts ++ first ∷ []) item (length listed + d)
  newest item d lt r e = record {
    first = first;
    begins = subst (λ z. slice_get (firsts ++ first ∷ []) z ≡ Some first) (sym r) begun;
    at = omega arith;
    is = adds.dots d lt ∙ ap Some (λ i. record { rule = sym r i; dot = sym e i; origin = 0 });
  }

  told : (k : ℕ) (item : Item) → slice_get new k ≡ Some item → (k < length listed) ⊎ (length listed ≤ k) → IsListedAt new (firsts ++ first ∷ []) item k × (item.origin ≡ 0) × (item.dot ≤ length (rhs_of g item.rule))
  told k item e (inl lt) = let (at, o, w) = are.told k item (sym (adds.before k lt) ∙ e) in (lifted item k at, o, w)
  told k item e (inr le) =
      let s = adds.size in
      let w = within new k item e in
      let d : ℕ = k - length listed in
      let lt : d < suc (length (rhs_of g n)) = omega arith in
      let place : length listed + d ≡ k = omega arith in
      let is : dotted d ≡ item = some_same _ _ (sym (adds.dots d lt) ∙ (ap (slice_get new) place ∙ e)) in (
        subst (IsListedAt new (firsts ++ first ∷ []) item) place (newest item d lt (sym (ap (λ (z : Item). z.rule) is)) (sym (ap (λ (z : Item). z.dot) is))),
        sym (ap (λ (z : Item). z.origin) is),
        subst (λ (z : Item). z.dot ≤ length (rhs_of g z.rule)) is (let short : d ≤ length (rhs_of g n) = omega arith in short),
      )

  there : (item : Item) → (item.rule < n) ⊎ (n ≤ item.rule) → item.rule < n + 1 → item.dot ≤ length (rhs_of g item.rule) → (k : ℕ) × IsListedAt new (firsts ++ first ∷ []) item k
  there item (inl lt) _ le = let (k, at) = are.there item lt le in (k, lifted item k at)
  there item (inr ge) lt le =
      let same : item.rule ≡ n = omega arith in
      let short : item.dot ≤ length (rhs_of g n) = subst (λ r. item.dot ≤ length (rhs_of g r)) same le in
      (length listed + item.dot, newest item item.dot (omega arith) same refl)

  pub listed_more : (firsts' : List ℕ) → firsts' ≡ firsts ++ first ∷ [] → AreListed g new firsts' (n + 1)
  listed_more firsts' is = subst (λ l. AreListed g new l (n + 1)) (sym is) (record {
    told = λ k item e. told k item e (cases_lt k (length listed));
    there = λ item lt le. there item (cases_lt item.rule n) lt le;
  })

module _ (g : FlatGrammar) (listed : List Item) (firsts : List ℕ) (n : ℕ) (are : AreListed g listed firsts n) where
  pub listed_once : AllPairs (λ x y. x ≢ y) listed
  listed_once i j d lt below e =
      let x = slice_index_or listed i d in
      let (a, _, _) = are.told i x (slice_get-get_or listed i d (omega arith)) in
      let (b, _, _) = are.told j x (slice_get-get_or listed j d below ∙ ap Some (sym e)) in
      let same : a.first ≡ b.first = some_same _ _ (sym a.begins ∙ b.begins) in
      let p = a.at in
      let q = b.at in
      omega arith

  module _ (rules : List Item) (same : (item : Item) → Contains rules item → Contains listed item) (once : AllPairs (λ x y. x ≢ y) listed → AllPairs (λ x y. x ≢ y) rules) where
    begins_at_first : (k : ℕ) → k < length rules → (dotted_at rules k).origin ≡ 0
    begins_at_first k lt =
        let (j, below, e) = same (dotted_at rules k) (k, lt, index_any rules k (dotted_at rules k) no_item lt) in
        (are.told j (dotted_at rules k) (slice_get-get_or listed j (dotted_at rules k) below ∙ ap Some e)).1

    pub dots_within : (k : ℕ) → k < length rules → (dotted_at rules k).dot ≤ length (rhs_of g (dotted_at rules k).rule)
    dots_within k lt =
        let (j, below, e) = same (dotted_at rules k) (k, lt, index_any rules k (dotted_at rules k) no_item lt) in
        (are.told j (dotted_at rules k) (slice_get-get_or listed j (dotted_at rules k) below ∙ ap Some e)).2

    pub rules_differ : DifferInDots rules
    rules_differ j k a b r d =
        let o = begins_at_first j a ∙ sym (begins_at_first k b) in
        let e : dotted_at rules j ≡ dotted_at rules k = λ i. record { rule = r i; dot = d i; origin = o i } in
        go e (cases_lt j k)
      where
        later : (dotted_at rules j ≡ dotted_at rules k) → (k < j) ⊎ (j ≤ k) → k ≤ j → j ≡ k
        later e (inl lt) _ = absurd (once listed_once k j no_item lt a (sym e))
        later e (inr le) ge = omega arith

        go : (dotted_at rules j ≡ dotted_at rules k) → (j < k) ⊎ (k ≤ j) → j ≡ k
        go e (inl lt) = absurd (once listed_once j k no_item lt b e)
        go e (inr le) = later e (cases_lt k j) le

    module _ (numbers : List ℕ) (of : AreNumbers listed rules numbers) where
      numbered : (item : Item) (k : ℕ) → IsListedAt listed firsts item k → IsNumbered rules firsts numbers item
      numbered item k at =
          let (number, has, is) = of k _ at.is in
          record { first = at.first; begins = at.begins; number = number; has_number = subst (λ z. slice_get numbers z ≡ Some number) at.at has; is = is }

      pub all_numbered : n ≡ length g.rules → (item : Item) → IsItem g item → IsNumbered rules firsts numbers item
      all_numbered all item is = let rule = is.is_rule in let (k, at) = are.there item (omega arith) is.within in numbered item k at

      pub each_numbered : (k : ℕ) → k < length rules → IsNumbered rules firsts numbers (dotted_at rules k)
      each_numbered k lt =
          let (j, below, e) = same (dotted_at rules k) (k, lt, index_any rules k (dotted_at rules k) no_item lt) in
          numbered (dotted_at rules k) j (are.told j (dotted_at rules k) (slice_get-get_or listed j (dotted_at rules k) below ∙ ap Some e)).0

-- one number more
pub numbers_more : (listed rules : List Item) (numbers : List ℕ) (k : ℕ) (item : Item) (n : ℕ) (new : List ℕ) → length numbers ≡ k →
    ((j : ℕ) (x : Item) → j < k → slice_get listed j ≡ Some x → (m : ℕ) × (slice_get numbers j ≡ Some m) × (slice_get rules m ≡ Some x)) →
    slice_get listed k ≡ Some item → slice_get rules n ≡ Some item → new ≡ numbers ++ n ∷ [] →
    (j : ℕ) (x : Item) → j < k + 1 → slice_get listed j ≡ Some x → (m : ℕ) × (slice_get new j ≡ Some m) × (slice_get rules m ≡ Some x)
numbers_more listed rules numbers k item n new size are at found is j x lt e = elim (cases_lt j k) [
  | inl l ↦ let (m, a, b) = are j x l e in (m, subst (λ z. slice_get z j ≡ Some m) (sym is) (get_more numbers (n ∷ []) j m a), b)
  | inr ge ↦
      let same : j ≡ k = omega arith in
      let one : Some item ≡ Some x = sym at ∙ (ap (slice_get listed) (sym same) ∙ e) in
      (n, subst (λ z. slice_get z j ≡ Some n) (sym is) (ap (slice_get (numbers ++ n ∷ [])) (same ∙ sym size) ∙ get_last numbers n), found ∙ one)
]

-- a rule with a part is one of the grammar
pub part_of_rule : (g : FlatGrammar) (item : Item) (x : ℕ) → after g item ≡ Some x → IsRule g item.rule
part_of_rule g item x e = rule_there g.rules item.rule item.dot x e

pub no_span : (g : FlatGrammar) (rules : List Item) (spans : List Span) (x : ℕ) → IsFlat g → AreSpans g rules spans (length g.symbols) → slice_get spans x ≡ None → IsSpan g rules x (record { start = 0; end = 0 })
no_span g rules spans x flat are none = record {
  order = omega arith;
  exact = λ k lt. (
    (λ (a, b). absurd (omega arith)),
    λ w. (
        let past = get_none spans x none in
        let all = are.all in
        let inside = flat.in_range.parts (dotted_at rules k).rule (dotted_at rules k).dot x (part_of_rule g (dotted_at rules k) x w) w in
        absurd (omega arith)),
  );
}

-- the dotted rules that wait for nothing have the dot at the end
module _ (g : FlatGrammar) (flat : IsFlat g) where
  past_parts : (item : Item) → 4294967296 ≤ symbol_or_end g item → length (rhs_of g item.rule) ≤ item.dot
  past_parts item le = go (after g item) refl le
    where
      go : (o : Option ℕ) → after g item ≡ o → 4294967296 ≤ or_end o → length (rhs_of g item.rule) ≤ item.dot
      go None e le = get_none (rhs_of g item.rule) item.dot e
      go (Some x) e le = let inside = flat.in_range.parts item.rule item.dot x (part_of_rule g item x e) e in let few = flat.in_range.symbols in absurd (omega arith)

  pub whole_span : (rules : List Item) → ((k : ℕ) → k < length rules → (dotted_at rules k).dot ≤ length (rhs_of g (dotted_at rules k).rule)) → (start : ℕ) → start ≤ length rules →
      ((k : ℕ) (d : Item) → k < start → symbol_or_end g (slice_index_or rules k d) < 4294967296) → ((k : ℕ) (d : Item) → start ≤ k → k < length rules → 4294967296 ≤ symbol_or_end g (slice_index_or rules k d)) →
      IsWholeSpan g rules (record { start = start; end = length rules })
  whole_span rules dots start le below above = record {
    order = le;
    exact = λ k lt. (
      λ (from, to). (let past = past_parts (dotted_at rules k) (above k no_item from lt) in let w = dots k lt in omega arith),
      λ e. (first k lt e (cases_lt k start), lt),
    );
  }
    where
      first : (k : ℕ) → k < length rules → (dotted_at rules k).dot ≡ length (rhs_of g (dotted_at rules k).rule) → (k < start) ⊎ (start ≤ k) → start ≤ k
      first k lt e (inr from) = from
      first k lt e (inl to) =
          let b = below k no_item to in
          let none : after g (dotted_at rules k) ≡ None = slice_get_past (rhs_of g (dotted_at rules k).rule) (dotted_at rules k).dot (omega arith) in
          let s : symbol_or_end g (dotted_at rules k) ≡ 4294967296 = ap or_end none in
          absurd (omega arith)
