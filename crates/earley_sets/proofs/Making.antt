-- The tries that it takes to make a list, as links of the set that the list is made for.
use Rattle.std.proofs.Common.{◌≡◌, ◌⊎◌, inl, inr, ℕ, ◌+◌, List, Some, Contains, refl, sym, ◌∙◌, ap, subst, arith}
use Rattle.recognizer_model.specs.declared.Item.{Item}
use Rattle.recognizer_model.specs.Flat.{FlatGrammar, IsRule, lhs_of, IsNullable}
use Rattle.recognizer_model.specs.Items.{after}
use Rattle.recognizer_model.specs.Links.{Link, Predicts, Skips, Scans, Completes, Leaps}
use Rattle.item_rows.specs.Kept.{IsAwaited}
use Rattle.begun_lists.specs.Begun.{AreAwaited, Begins, AreBegun, IsBegun}
use Rattle.begun_lists.specs.Tried.{RisesWithin, MakesOneLater, IsRuleOf, TriesBegun, TriesList}
use Rattle.begun_lists.proofs.Begins.{begins_item}
use Rattle.begun_lists.proofs.Rising.{rises_none, rises_over, rises_on, rises_moved, rises_chosen}

-- a link with its items at a place
moved : ℕ → Link → Link
moved earleme (Predicts item r) = Predicts (record item { origin = earleme }) r
moved earleme (Skips item) = Skips (record item { origin = earleme })
moved earleme (Scans item from) = Scans item from
moved earleme (Completes whole item) = Completes whole item
moved earleme (Leaps whole) = Leaps whole

module _ (g : FlatGrammar) (earleme : ℕ) (items : List Item) where
  -- the links of what begins at the place
  abbrev pub MakesBegun : Link → Type 0
  MakesBegun (Predicts before r) = (Contains items before ⊎ IsBegun g earleme items before) × ((x : ℕ) × (after g before ≡ Some x) × IsRule g r × (lhs_of g r ≡ x))
  MakesBegun (Skips before) = IsBegun g earleme items before × ((x : ℕ) × (after g before ≡ Some x) × IsNullable g x)
  MakesBegun (Scans before from) = ⊥
  MakesBegun (Completes whole waiting) = ⊥
  MakesBegun (Leaps whole) = ⊥

  -- the link of an item that waits with the first item of a rule
  abbrev IsStart : ℕ → Link → Type 0
  IsStart r link = (w : Item) × Contains items w × (after g w ≡ Some (lhs_of g r)) × (link ≡ Predicts w r)

  start_apart : (r s : ℕ) (link : Link) → IsStart r link → IsStart s link → r ≡ s
  start_apart r s link (w, there, waits, e) (v, there', waits', e') = let same : Predicts w r ≡ Predicts v s = sym e ∙ e' in cc

  module _ (symbols : List ℕ) (list : List Item) (awaited : AreAwaited g items symbols) (begun : AreBegun g (IsAwaited g items) list) where
    start : (r : ℕ) → IsRuleOf g symbols r → (link : Link) × IsStart r link
    start r (rule, s) = let ((w, there, waits), has) = (awaited (lhs_of g r)).0 s in (Predicts w r, (w, there, waits, refl))

    abbrev IsStarted : Link → Type 0
    IsStarted link = (r : ℕ) × IsRuleOf g symbols r × IsStart r link

    starts : {a b : ℕ} → RisesWithin (IsRuleOf g symbols) a b → RisesWithin IsStarted a b
    starts r = rises_chosen (IsRuleOf g symbols) IsStart start start_apart r

    here : (item : Item) → Contains list item → IsBegun g earleme items (record item { origin = earleme })
    here item c =
        let b = (begun item).0 c in
        let zero = (begins_item b).1 in
        (refl, subst (λ o. Begins g (IsAwaited g items) (record item { origin = o })) zero b)

    -- a link of what begins, at the place
    abbrev IsMoved : Link → Type 0
    IsMoved link = (before : Link) × MakesOneLater g list before × (link ≡ moved earleme before)

    zero_of : (item : Item) → Contains list item → item.origin ≡ 0
    zero_of item c = (begins_item ((begun item).0 c)).1

    back_moved : (link : Link) → MakesOneLater g list link → moved 0 (moved earleme link) ≡ link
    unfolding moved
    back_moved (Predicts before r) (item, c, (e, more)) = let zero = zero_of before (subst (Contains list) (sym e) c) in λ i. Predicts (record before { origin = sym zero i }) r
    back_moved (Skips before) (item, c, (e, more)) = let zero = zero_of before (subst (Contains list) (sym e) c) in λ i. Skips (record before { origin = sym zero i })
    back_moved (Scans before from) (item, c, m) = absurd m
    back_moved (Completes whole waiting) (item, c, m) = absurd m
    back_moved (Leaps whole) (item, c, m) = absurd m

    laters : {a b : ℕ} → RisesWithin (MakesOneLater g list) a b → RisesWithin IsMoved a b
    laters r = rises_over IsMoved (moved earleme) (λ link m. (link, m, refl)) (λ l k m n e. sym (back_moved l m) ∙ (ap (moved 0) e ∙ back_moved k n)) r

    started_makes : (link : Link) → IsStarted link → MakesBegun link
    started_makes link (r, (rule, s), (w, there, waits, e)) = subst MakesBegun (sym e) (inl there, (lhs_of g r, waits, rule, refl))

    moved_makes : (before : Link) → MakesOneLater g list before → MakesBegun (moved earleme before)
    unfolding moved
    moved_makes (Predicts before r) (item, c, (e, more)) = (inr (here before (subst (Contains list) (sym e) c)), subst (λ (b : Item). (x : ℕ) × (after g b ≡ Some x) × IsRule g r × (lhs_of g r ≡ x)) (sym e) more)
    moved_makes (Skips before) (item, c, (e, more)) = (here before (subst (Contains list) (sym e) c), subst (λ (b : Item). (x : ℕ) × (after g b ≡ Some x) × IsNullable g x) (sym e) more)
    moved_makes (Scans before from) (item, c, m) = absurd m
    moved_makes (Completes whole waiting) (item, c, m) = absurd m
    moved_makes (Leaps whole) (item, c, m) = absurd m

    never_moved : ((item : Item) → Contains items item → ¬ IsBegun g earleme items item) → (w : Item) (r : ℕ) (before : Link) → Contains items w → MakesOneLater g list before → Predicts w r ≡ moved earleme before → ⊥
    unfolding moved
    never_moved apart w r (Predicts before q) there (item, c, (e, more)) same =
        let is : w ≡ record before { origin = earleme } = cc in
        apart w there (subst (IsBegun g earleme items) (sym is) (here before (subst (Contains list) (sym e) c)))
    never_moved apart w r (Skips before) there m same = absurd (cc)
    never_moved apart w r (Scans before from) there (item, c, m) same = absurd m
    never_moved apart w r (Completes whole waiting) there (item, c, m) same = absurd m
    never_moved apart w r (Leaps whole) there (item, c, m) same = absurd m

    pub begun_tried : ((item : Item) → Contains items item → ¬ IsBegun g earleme items item) → (a b : ℕ) → TriesBegun g symbols list a b → RisesWithin MakesBegun a b
    begun_tried apart a b (mid, firsts, later) =
        rises_on MakesBegun started_makes (λ link (before, m, e). subst MakesBegun (sym e) (moved_makes before m))
        (λ link (r, rule, (w, there, waits, e)) (before, m, e'). never_moved apart w r before there m (sym e ∙ e')) (starts firsts) (laters later)

  pub list_tried : (list : List Item) → AreBegun g (IsAwaited g items) list → ((item : Item) → Contains items item → ¬ IsBegun g earleme items item) → (a b : ℕ) → TriesList g items list a b → RisesWithin MakesBegun a b
  list_tried list begun apart a b (inl e) = rises_none MakesBegun a b e
  list_tried list begun apart a b (inr (symbols, awaited, tries)) = begun_tried symbols list awaited begun apart a b tries

-- the same tries, counted from another number
pub list_moved : (g : FlatGrammar) (items list : List Item) (a b n : ℕ) → TriesList g items list a b → TriesList g items list (a + n) (b + n)
list_moved g items list a b n (inl e) = inl (omega (arith, e))
list_moved g items list a b n (inr (symbols, awaited, (mid, firsts, later))) = inr (symbols, awaited, (mid + n, rises_moved (a + n) (mid + n) (omega arith) firsts, rises_moved (mid + n) (b + n) (omega arith) later))
