-- Chains of pairs, by rows: where they lead is one item, and stays as rows are added.
use Rattle.std.proofs.Common.{rules, ◌≡◌, ◌≢◌, ◌⊎◌, inl, inr, ℕ, ◌<◌, ◌≤◌, ◌==◌, ◌++◌, Bool, true, false, length, List, [], ◌∷◌, Option, Some, None, Contains, refl, sym, ◌∙◌, ap, subst, arith, length-append, append_assoc, append-nil}
use Rattle.std.specs.Prelude.{cond, AllPairs}
use Rattle.std.proofs.lemmas.List.Quantifiers.{all_pairs_push}
use Rattle.std.specs.Cmp.{IsEquivalence}
use Rattle.std.specs.Cmp.Rules.{comparing}
use Rattle.std.specs.Option.{IsSome}
use Rattle.std.proofs.lemmas.Option.{none-some}
use Rattle.std.proofs.lemmas.Map.Views.{IsSome-lookup_from_Contains}
use Rattle.std.proofs.lemmas.Bool.{and_parts, eqb-true}
use Rattle.std.proofs.lemmas.List.{get_or_append_left, get_or_default}
use Rattle.recognizer_model.specs.declared.Item.{Item}
use Rattle.recognizer_model.specs.Flat.{FlatGrammar, IsRule, lhs_of}
use Rattle.recognizer_model.specs.Items.{after, advanced}
use Rattle.recognizer_model.specs.Counts.{IsListOf}
use Rattle.item_rows.specs.Rows.{row_at}
use Rattle.item_rows.specs.Kept.{IsItem, AreRows}
use Rattle.recognizer_model.specs.declared.Pair.{Pair}
use Rattle.leo_items.specs.Memo.{Note, same_pair, noted, pairs_of}
use Rattle.leo_items.specs.Steps.{IsStep}
use Rattle.leo_items.specs.ByRows.{IsLeoIn, IsNotLeoIn, LeadsIn, IsStepIn, IsMemo, NotesMore, pair_of}
use Rattle.leo_items.proofs.Single.{step_some, step_none}

module _ (g : FlatGrammar) (rows : List (List Item)) where
  -- the step of those that wait is that of the row
  pub step_by_row : (i x : ℕ) (waiting : List Item) (step : Option Item) → IsListOf (λ item. Contains (row_at rows i) item × (after g item ≡ Some x)) waiting → IsStep g waiting step → IsStepIn g rows i x step
  step_by_row i x waiting (Some step) lists is =
      let (item, o, same) = step_some g (Contains (row_at rows i)) x waiting lists step is in
      (item, record { there = o.inside; waits = o.waits; last = o.last; only = o.only }, same)
  step_by_row i x waiting None lists is =
      λ item leo. step_none g (Contains (row_at rows i)) x waiting lists is item (record { inside = leo.there; waits = leo.waits; last = leo.last; only = leo.only })

  pub has_leo : {i x : ℕ} {t : Item} → LeadsIn g rows i x t → (item : Item) × IsLeoIn g rows i x item
  has_leo (LeadsIn.Last {item = item} leo none) = (item, leo)
  has_leo (LeadsIn.On {item = item} leo more) = (item, leo)

  pub leads_one : {i x : ℕ} {s t : Item} → LeadsIn g rows i x s → LeadsIn g rows i x t → s ≡ t
  leads_one (LeadsIn.Last {item = a} leo none) (LeadsIn.Last {item = b} leo' none') = ap advanced (leo'.only a leo.there leo.waits)
  leads_one (LeadsIn.Last {item = a} leo none) (LeadsIn.On {item = b} leo' more) =
      let (c, up) = has_leo more in absurd (none c (subst (λ o. IsLeoIn g rows o.origin (lhs_of g o.rule) c) (sym (leo'.only a leo.there leo.waits)) up))
  leads_one (LeadsIn.On {item = a} leo more) (LeadsIn.Last {item = b} leo' none') =
      let (c, up) = has_leo more in absurd (none' c (subst (λ o. IsLeoIn g rows o.origin (lhs_of g o.rule) c) (leo'.only a leo.there leo.waits) up))
  leads_one {t = t} (LeadsIn.On {item = a} leo more) (LeadsIn.On {item = b} leo' more') =
      leads_one more (subst (λ o. LeadsIn g rows o.origin (lhs_of g o.rule) t) (sym (leo'.only a leo.there leo.waits)) more')

  -- one step on, the chain leads to the same item
  pub step_on : {i x : ℕ} {item above t : Item} → IsLeoIn g rows i x item → LeadsIn g rows i x t → IsLeoIn g rows item.origin (lhs_of g item.rule) above → LeadsIn g rows item.origin (lhs_of g item.rule) t
  step_on {item = item} {above = above} leo (LeadsIn.Last {item = b} leo' none) up =
      absurd (none above (subst (λ o. IsLeoIn g rows o.origin (lhs_of g o.rule) above) (leo'.only item leo.there leo.waits) up))
  step_on {item = item} {t = t} leo (LeadsIn.On {item = b} leo' more) up =
      subst (λ o. LeadsIn g rows o.origin (lhs_of g o.rule) t) (sym (leo'.only item leo.there leo.waits)) more

  module _ (are : AreRows g rows) where
    pub leo_inside : {i x : ℕ} {item : Item} → IsLeoIn g rows i x item → IsRule g item.rule × (item.origin ≤ i)
    leo_inside {i = i} {item = item} leo = (((are i).items item leo.there).is_rule, (are i).begun item leo.there)

    pub leads_item : {i x : ℕ} {t : Item} → LeadsIn g rows i x t → IsItem g t
    leads_item (LeadsIn.Last {item = item} leo none) = record { is_rule = (leo_inside leo).0; within = let w = leo.last in omega arith }
    leads_item (LeadsIn.On leo more) = leads_item more

    -- from the pair up to an item that its chain passes
    pub record IsPassed (i x : ℕ) (top : Item) : Type 0 where
      pub inside : top.origin < length rows
      pub rule : IsRule g top.rule
      pub on : (t : Item) → LeadsIn g rows top.origin (lhs_of g top.rule) t → LeadsIn g rows i x t
      pub here : IsNotLeoIn g rows top.origin (lhs_of g top.rule) → LeadsIn g rows i x top

    pub passed_first : (i x : ℕ) (step : Item) → i < length rows → IsStepIn g rows i x (Some step) → IsPassed i x step
    passed_first i x step lt (item, leo, same) = subst (IsPassed i x) (sym same) (record {
      inside = let (r, le) = leo_inside leo in omega arith;
      rule = (leo_inside leo).0;
      on = λ t more. LeadsIn.On leo more;
      here = λ none. LeadsIn.Last leo none;
    })

    pub passed_on : (i x : ℕ) (top next : Item) → IsPassed i x top → IsStepIn g rows top.origin (lhs_of g top.rule) (Some next) → IsPassed i x next
    passed_on i x top next p (item, leo, same) = subst (IsPassed i x) (sym same) (record {
      inside = let (r, le) = leo_inside leo in let lt = p.inside in omega arith;
      rule = (leo_inside leo).0;
      on = λ t more. p.on t (LeadsIn.On leo more);
      here = λ none. p.on (advanced item) (LeadsIn.Last leo none);
    })

    -- a pair leads to the item, if it is one
    pub record IsNotable (pair : Pair) (top : Item) : Type 0 where
      pub inside : pair.set < length rows
      pub leads : (item : Item) → IsLeoIn g rows pair.set pair.symbol item → LeadsIn g rows pair.set pair.symbol top

    pub notable_above : (pair above : Pair) (top step : Item) → IsNotable pair top → IsStepIn g rows pair.set pair.symbol (Some step) → above ≡ pair_of g step → IsNotable above top
    notable_above pair above top step n (item, leo, same) e =
        let up : IsNotable (pair_of g (advanced item)) top = record {
          inside = let (r, le) = leo_inside leo in let lt = n.inside in omega arith;
          leads = λ other more. step_on leo (n.leads item leo) more;
        } in
        subst (λ p. IsNotable p top) (sym (e ∙ ap (pair_of g) same)) up

pub same_pair-true : (x y : Pair) → same_pair x y ≡ true → x ≡ y
same_pair-true x y h =
    let (a, b) = and_parts (x.set == y.set) (x.symbol == y.symbol) h in
    let ea = eqb-true x.set y.set a in
    let eb = eqb-true x.symbol y.symbol b in
    λ i. record { set = ea i; symbol = eb i }

noted_more : (notes : List Note) (p q : Pair) (t u : Item) → noted (notes ++ (p, t) ∷ []) q ≡ Some u → (noted notes q ≡ Some u) ⊎ ((q ≡ p) × (t ≡ u))
noted_more [] p q t u e = by (same_pair q p) refl e
  where
    by : (b : Bool) → same_pair q p ≡ b → cond b (Some t) None ≡ Some u → (noted [] q ≡ Some u) ⊎ ((q ≡ p) × (t ≡ u))
    by true h e' = inr (same_pair-true q p h, cc)
    by false h e' = absurd (cc)
noted_more (n ∷ ns) p q t u e = by (same_pair q n.0) refl e (noted_more ns p q t u)
  where
    by : (b : Bool) → same_pair q n.0 ≡ b → cond b (Some n.1) (noted (ns ++ (p, t) ∷ []) q) ≡ Some u → (noted (ns ++ (p, t) ∷ []) q ≡ Some u → (noted ns q ≡ Some u) ⊎ ((q ≡ p) × (t ≡ u))) →
        (noted (n ∷ ns) q ≡ Some u) ⊎ ((q ≡ p) × (t ≡ u))
    by true h e' rest = inl (ap (λ b. cond b (Some n.1) (noted ns q)) h ∙ e')
    by false h e' rest = elim (rest e') [ inl o ↦ inl (ap (λ b. cond b (Some n.1) (noted ns q)) h ∙ o) | inr m ↦ inr m ]

pub same_pair-laws : IsEquivalence same_pair
same_pair-laws = search (comparing, rules)

-- a pair of which nothing is noted is none of them
not_among : (notes : List Note) (pair : Pair) → noted notes pair ≡ None → ¬ Contains (pairs_of notes) pair
not_among notes pair none there = some (noted notes pair) none (IsSome-lookup_from_Contains same_pair-laws pair notes there)
  where
    some : (o : Option Item) → o ≡ None → ¬ IsSome o
    some None e is = absurd (cc)
    some (Some t) e is = none-some t (sym e)

pairs_more : (notes : List Note) (p : Pair) (t : Item) → pairs_of (notes ++ (p, t) ∷ []) ≡ pairs_of notes ++ p ∷ []
pairs_more [] p t = refl
pairs_more (n ∷ ns) p t = ap (λ l. n.0 ∷ l) (pairs_more ns p t)

-- one note more
module _ (g : FlatGrammar) (rows : List (List Item)) (notes new : List Note) (pair : Pair) (top : Item) (is : new ≡ notes ++ (pair, top) ∷ []) where
  pub memo_more : IsMemo g rows notes → noted notes pair ≡ None → pair.set < length rows → LeadsIn g rows pair.set pair.symbol top → IsMemo g rows new
  memo_more memo none lt leads = record {
    once = subst (λ l. AllPairs (λ x y. x ≢ y) (pairs_of l)) (sym is) (subst (AllPairs (λ x y. x ≢ y)) (sym (pairs_more notes pair top))
        (all_pairs_push (λ x y. x ≢ y) (pairs_of notes) pair memo.once (λ k d below same. not_among notes pair none (k, below, get_or_default (pairs_of notes) k pair d below ∙ same))));
    leads = λ q u e. elim (noted_more notes pair q top u (ap (λ l. noted l q) (sym is) ∙ e)) [
      | inl o ↦ memo.leads q u o
      | inr (p, t) ↦ subst (λ z. (z.set < length rows) × LeadsIn g rows z.set z.symbol u) (sym p) (lt, subst (LeadsIn g rows pair.set pair.symbol) t leads)
    ];
  }

  pub notes_more : (first : List Note) → NotesMore g rows first notes → noted notes pair ≡ None → pair.set < length rows → LeadsIn g rows pair.set pair.symbol top → NotesMore g rows first new
  notes_more first n none lt leads = record { is = memo_more n.is none lt leads; more = n.more ++ (pair, top) ∷ []; begins = is ∙ (ap (λ l. l ++ (pair, top) ∷ []) n.begins ∙ append_assoc first n.more ((pair, top) ∷ [])) }

pub no_more : (g : FlatGrammar) (rows : List (List Item)) (notes : List Note) → IsMemo g rows notes → NotesMore g rows notes notes
no_more g rows notes memo = record { is = memo; more = []; begins = sym (append-nil notes) }

pub more_on : (g : FlatGrammar) (rows : List (List Item)) (old mid new : List Note) → NotesMore g rows old mid → NotesMore g rows mid new → NotesMore g rows old new
more_on g rows old mid new a b = record { is = b.is; more = a.more ++ b.more; begins = b.begins ∙ (ap (λ l. l ++ b.more) a.begins ∙ append_assoc old a.more b.more) }

pub memo_none : (g : FlatGrammar) (rows : List (List Item)) (notes : List Note) → notes ≡ [] → IsMemo g rows notes
memo_none g rows notes none = subst (IsMemo g rows) (sym none) (record { once = λ i j d lt below e. absurd (omega arith); leads = λ pair top e. absurd (cc) })

noted_some : (notes : List Note) (pair : Pair) → Contains (pairs_of notes) pair → (t : Item) × (noted notes pair ≡ Some t)
noted_some notes pair there = by (noted notes pair) refl
  where
    by : (o : Option Item) → noted notes pair ≡ o → (t : Item) × (noted notes pair ≡ Some t)
    by None e = absurd (not_among notes pair e there)
    by (Some t) e = (t, e)

-- the pairs of which something was noted have Leo items
pub memo_pairs : (g : FlatGrammar) (rows : List (List Item)) (notes : List Note) → IsMemo g rows notes → (pair : Pair) → Contains (pairs_of notes) pair → (pair.set < length rows) × ((item : Item) × IsLeoIn g rows pair.set pair.symbol item)
memo_pairs g rows notes memo pair there = let (t, e) = noted_some notes pair there in let (lt, leads) = memo.leads pair t e in (lt, has_leo g rows leads)

-- with no rows nothing is noted
pub memo_empty : (g : FlatGrammar) (notes : List Note) → IsMemo g [] notes → notes ≡ []
memo_empty g [] memo = refl
memo_empty g (n ∷ ns) memo = let (lt, leo) = memo_pairs g [] (n ∷ ns) memo n.0 (0, omega arith, refl) in absurd (omega (arith, lt))

-- one row more
module _ (g : FlatGrammar) (rows : List (List Item)) (row : List Item) (are : AreRows g rows) where
  same_row : (i : ℕ) → i < length rows → row_at (rows ++ row ∷ []) i ≡ row_at rows i
  same_row i lt = get_or_append_left rows (row ∷ []) [] i lt

  leo_more : {i x : ℕ} {item : Item} → i < length rows → IsLeoIn g rows i x item → IsLeoIn g (rows ++ row ∷ []) i x item
  leo_more {i = i} {x = x} {item = item} lt leo = record {
    there = subst (λ l. Contains l item) (sym (same_row i lt)) leo.there;
    waits = leo.waits;
    last = leo.last;
    only = λ o c e. leo.only o (subst (λ l. Contains l o) (same_row i lt) c) e;
  }

  leo_less : {i x : ℕ} {item : Item} → i < length rows → IsLeoIn g (rows ++ row ∷ []) i x item → IsLeoIn g rows i x item
  leo_less {i = i} {x = x} {item = item} lt leo = record {
    there = subst (λ l. Contains l item) (same_row i lt) leo.there;
    waits = leo.waits;
    last = leo.last;
    only = λ o c e. leo.only o (subst (λ l. Contains l o) (sym (same_row i lt)) c) e;
  }

  leads_more : {i x : ℕ} {t : Item} → i < length rows → LeadsIn g rows i x t → LeadsIn g (rows ++ row ∷ []) i x t
  leads_more lt (LeadsIn.Last leo none) = let (r, le) = leo_inside g rows are leo in LeadsIn.Last (leo_more lt leo) (λ o up. none o (leo_less (omega arith) up))
  leads_more lt (LeadsIn.On leo more) = let (r, le) = leo_inside g rows are leo in LeadsIn.On (leo_more lt leo) (leads_more (omega arith) more)

  pub memo_stays : (notes : List Note) → IsMemo g rows notes → IsMemo g (rows ++ row ∷ []) notes
  memo_stays notes memo = record {
    once = memo.once;
    leads = λ pair top e. (
        let (lt, leads) = memo.leads pair top e in
        let l : length rows ≤ length (rows ++ row ∷ []) = grind (arith, length-append) in
        (omega arith, leads_more lt leads));
  }
