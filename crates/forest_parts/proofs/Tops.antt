-- Topmost items that may be those of nodes, and the hidden items below them.
use Rattle.std.proofs.Common.{◌≡◌, ◌⊎◌, inl, inr, ◌↔◌, ℕ, ◌+◌, ◌≤◌, List, [], length, Contains, refl, sym, subst, arith, Vec, Global, Result, Ok, Err}
use Rattle.std.specs.Prelude.{IfOk, OnErr}
use Rattle.grammar_model.specs.declared.Ranking.{Ranking}
use Rattle.grammar_model.specs.Grammar.{Grammar}
use Rattle.recognizer_model.specs.declared.Item.{Item}
use Rattle.recognizer_model.specs.Items.{advanced}
use Rattle.recognizer_model.specs.Leo.{LeadsTo, IsHidden}
use Rattle.recognizer_model.specs.Counts.{IsListOf}
use Rattle.finite_sets.proofs.Lists.{Contains-none}
use Rattle.recognizer_model.proofs.Once.{leads_one}
use Rattle.recognizer_model.proofs.Below.{leads_back}
use Rattle.earley_sets.specs.Recognizer.{Recognizer, IsRecognizer, earleme_of, edges_of, top_of}
use Rattle.earley_sets.specs.Kept.{IsItem}
use Rattle.earley_sets.specs.Below.{StepsTo, LeadsUp, IsBottom, IsBottomOf, StandsBelow, StandsBelowOf}
use Rattle.forest_parts.specs.Hidden.{IsHiddenFrom, RisesWithin}
use Rattle.recognizer_model.specs.declared.NodeKey.{NodeKey}
use Rattle.forest_parts.specs.Unasked.{AreUnasked, IsAskedFor, IsTopmostFrom}
use Rattle.forest_parts.specs.Needed.{AreTops, IsBelowAsked}
use Rattle.forest_parts.proofs.Sets.{at_top, goes, found_item}
use Rattle.forest_parts.proofs.Listed.{kept_exact, bottom_of}
use Rattle.forest_parts.proofs.Counting.{none_at_least}
use Rattle.forest_parts.proofs.Taking.{unasked_never}

-- below topmost items that may be those of nodes all is listed
module _ (r : Recognizer) (is : IsRecognizer r) (unasked : List Item) (end least : ℕ) (le : end ≤ earleme_of r) (tops bottoms : List Item) (are : AreTops r unasked end least tops bottoms) where
  pub top_bottom : (t : Item) → Contains tops t → (item : Item) × IsBottom r end t item
  top_bottom t h = let (item, (c, full), ((lt, leads), may)) = (are.tops t).0 h in (item, (c, full, lt, leads))

  pub bottoms_are : (item : Item) → Contains bottoms item ↔ IsBottomOf r end tops item
  bottoms_are item = (
    λ h. (let (other, (c, full), (e, (t, ((lt, leads), may)))) = (are.bottoms item).0 h in
        (t, (are.tops t).1 (other, (c, full), ((lt, leads), may)), subst (λ z. IsBottom r end t z) (sym e) (c, full, lt, leads))),
    λ (t, th, (c, full, lt, leads)). (let (other, kept, (up, may)) = (are.tops t).0 th in (are.bottoms item).1 (item, (c, full), (refl, (t, ((lt, leads), may))))),
  )

  -- where it is told which of them are asked for, exactly the hidden ones below those are listed
  module _ (w : Grammar) (ranking : Ranking) (keys : List NodeKey) (un : AreUnasked w ranking r keys end unasked) (told : (t : Item) → IsTopmostFrom r end least t → Contains unasked t ⊎ IsAskedFor w ranking r keys end t) where
    top_asked : (t : Item) → Contains tops t → (least ≤ t.origin) × IsAskedFor w ranking r keys end t
    top_asked t h = let (item, kept, (up, (late, free))) = (are.tops t).0 h in (late, elim (told t ((item, (kept.0, kept.1, up.0, up.1)), late)) [ inl c ↦ absurd (free c) | inr a ↦ a ])

    asked_top : (t item : Item) → StandsBelow r end t item → least ≤ t.origin → IsAskedFor w ranking r keys end t → Contains tops t
    asked_top t item stands late asked =
        let (b, (c, full, lt, leads)) = bottom_of r is end le {j = end} {item = item} {t = t} refl (stands.0).0 (λ c. (stands.0).1 ((kept_exact r is end le item).0 c)) stands.1 in
        (are.tops t).1 (b, (c, full), ((lt, leads), (late, λ c. unasked_never w ranking r keys end unasked un c asked)))

    pub below_exact : (items : List Item) → IsListOf (StandsBelowOf r end tops) items → IsListOf (IsBelowAsked w ranking r keys end least) items
    below_exact items lists = record {
      once = lists.once;
      exact = λ item. (
        λ h. (let (t, th, stands) = (lists.exact item).0 h in (t, stands, top_asked t th)),
        λ (t, stands, (late, asked)). (lists.exact item).1 (t, asked_top t item stands late asked, stands),
      );
    }

    -- so as many are counted as there are, whether there was memory for them or not
    pub below_counted : {F : Type 0} (old new : ℕ) (o : Result (Vec Item Global) F) → IfOk o (λ items. IsListOf (StandsBelowOf r end tops) items.items) → IfOk o (λ items. new ≡ old + length items.items) → OnErr o (new ≡ old) →
        RisesWithin (IsBelowAsked w ranking r keys end least) old new
    below_counted old new (Ok items) lists more err = let all = below_exact items.items lists in (length items.items, (items.items, all.once, (λ item h. (all.exact item).0 h), refl), more)
    below_counted old new (Err e) lists more err = (0, none_at_least (IsBelowAsked w ranking r keys end least), (let same : new ≡ old = err in omega arith))

-- what is below one that is asked for is hidden, and begins no earlier
pub below_hidden : (w : Grammar) (ranking : Ranking) (r : Recognizer) (is : IsRecognizer r) (keys : List NodeKey) (end least : ℕ) (item : Item) → IsBelowAsked w ranking r keys end least item → IsHiddenFrom r end least item
below_hidden w ranking r is keys end least item (t, (hidden, leads), (late, asked)) = (
  hidden,
  (let low = leads_back r.flat (edges_of r) (λ a b c. ⊥) (top_of r) (at_top r is) (goes r is) 0 leads in omega arith),
)

-- where nothing is hidden from there on, nothing is below one that is asked for
pub none_below : (w : Grammar) (ranking : Ranking) (r : Recognizer) (is : IsRecognizer r) (keys : List NodeKey) (end least : ℕ) → ((item : Item) → least ≤ item.origin → ¬ IsHidden r.flat (edges_of r) (top_of r) end item) → (items : List Item) → items ≡ [] →
    IsListOf (IsBelowAsked w ranking r keys end least) items
none_below w ranking r is keys end least none items empty = subst (IsListOf (IsBelowAsked w ranking r keys end least)) (sym empty) (record {
  once = λ i j d lt below e. absurd (omega arith);
  exact = λ item. (λ h. absurd (Contains-none item h), λ below. (let (hidden, late) = below_hidden w ranking r is keys end least item below in absurd (none item late hidden)));
})

-- and nothing is below none
pub none_of : (r : Recognizer) (end : ℕ) (tops items : List Item) → tops ≡ [] → items ≡ [] → IsListOf (StandsBelowOf r end tops) items
none_of r end tops items e e' =
    subst (λ t. IsListOf (StandsBelowOf r end t) items) (sym e) (subst (λ l. IsListOf (StandsBelowOf r end []) l) (sym e') (record {
      once = λ i j d lt below q. absurd (omega arith);
      exact = λ item. (λ h. absurd (Contains-none item h), λ (t, h, stands). absurd (Contains-none t h));
    }))

-- THE TOPMOST ITEM OF ONE

module _ (r : Recognizer) (is : IsRecognizer r) (end : ℕ) where
  -- it is an item, and begins before the end
  pub top_rule : end ≤ earleme_of r → (item top : Item) → LeadsUp r end item top → IsItem r.flat top × (top.origin ≤ earleme_of r)
  top_rule le item top (lt, leads) = (
    leads_rule leads,
    (let low = leads_back r.flat (edges_of r) (λ a b c. ⊥) (top_of r) (at_top r is) (goes r is) 0 leads in omega arith),
  )
    where
      leads_rule : {i x : ℕ} {t : Item} → LeadsTo r.flat (edges_of r) (top_of r) i x t → IsItem r.flat t
      leads_rule {i = i} (LeadsTo.Last {item = item} leo none) = record { is_rule = (found_item r is i item leo.inside).is_rule; within = (let e = leo.last in omega arith) }
      leads_rule (LeadsTo.On leo more) = leads_rule more

  pub leads_same : (item s t : Item) → LeadsUp r end item s → LeadsUp r end item t → s ≡ t
  leads_same item s t (lt, a) (lt', b) = leads_one r.flat (edges_of r) (top_of r) (at_top r is) (goes r is) a b

pub leads_none : (r : Recognizer) (end : ℕ) (item t : Item) → LeadsUp r end item t → ((other : Item) → ¬ StepsTo r end item other) → ⊥
leads_none r end item t (lt, LeadsTo.Last {item = leo} l none) no_step = no_step (advanced leo) (lt, (leo, l, refl))
leads_none r end item t (lt, LeadsTo.On {item = leo} l more) no_step = no_step (advanced leo) (lt, (leo, l, refl))
