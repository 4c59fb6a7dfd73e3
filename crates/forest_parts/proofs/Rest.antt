-- Items that are needed where some were brought back before: those topmost items are left out whose hidden items are there.
use Rattle.std.proofs.Common.{◌≡◌, ◌⊎◌, inl, inr, ◌↔◌, ℕ, ◌+◌, ◌≤◌, List, length, Contains, refl, sym, subst, arith, Vec, Global, Result, Ok, Err}
use Rattle.std.specs.Prelude.{IfOk, OnErr}
use Rattle.grammar_model.specs.declared.Ranking.{Ranking}
use Rattle.grammar_model.specs.Grammar.{Grammar}
use Rattle.recognizer_model.specs.declared.Item.{Item}
use Rattle.recognizer_model.specs.declared.NodeKey.{NodeKey}
use Rattle.recognizer_model.specs.Counts.{IsListOf}
use Rattle.recognizer_model.proofs.Once.{leads_one}
use Rattle.leo_items.specs.Closed.{Adds}
use Rattle.leo_items.proofs.Growing.{Adds-has}
use Rattle.leo_items.proofs.Adding.{decide}
use Rattle.earley_sets.specs.Recognizer.{Recognizer, IsRecognizer, earleme_of, edges_of, top_of}
use Rattle.earley_sets.specs.Below.{StandsBelow, StandsBelowOf}
use Rattle.forest_parts.specs.Hidden.{IsHiddenFrom, RisesWithin}
use Rattle.forest_parts.specs.Unasked.{AreUnasked, IsAskedFor, IsTopmostFrom}
use Rattle.forest_parts.specs.Given.{GivenAt}
use Rattle.forest_parts.specs.Needed.{AreTops, IsBelowAsked, IsAskedAnew, IsAskedBeside}
use Rattle.forest_parts.proofs.Gathering.{Gains}
use Rattle.forest_parts.proofs.Sets.{at_top, goes}
use Rattle.forest_parts.proofs.Listed.{kept_exact, bottom_of}
use Rattle.forest_parts.proofs.Counting.{none_at_least, rises_of}
use Rattle.forest_parts.proofs.Taking.{unasked_never}
use Rattle.forest_parts.proofs.Tops.{below_hidden}

pub gains_added : (old new : List Item) (v : Item) → Adds old new v → Gains (λ x. x ≡ v) old new
gains_added old new v adds x = (
  λ h. elim ((Adds-has old new v x adds).0 h) [ inl o ↦ inl o | inr e ↦ inr (sym e) ],
  λ h. (Adds-has old new v x adds).1 (elim h [ inl o ↦ inl o | inr e ↦ inr (sym e) ]),
)

module _ (r : Recognizer) (is : IsRecognizer r) (end least : ℕ) (le : end ≤ earleme_of r) where
  -- a hidden item stands below one topmost item only
  below_one : (s t item : Item) → StandsBelow r end s item → StandsBelow r end t item → s ≡ t
  below_one s t item a b = leads_one r.flat (edges_of r) (top_of r) (at_top r is) (goes r is) a.1 b.1

  module _ (left_out tops bottoms : List Item) (are : AreTops r left_out end least tops bottoms) (w : Grammar) (ranking : Ranking) (keys : List NodeKey) (unasked : List Item) (un : AreUnasked w ranking r keys end unasked)
      (told : (t : Item) → IsTopmostFrom r end least t → Contains unasked t ⊎ IsAskedFor w ranking r keys end t)
      (before given : List Item) (both : (x : Item) → Contains left_out x ↔ (Contains unasked x ⊎ Contains before x)) (was : IsListOf (StandsBelowOf r end before) given) where
    top_anew : (t : Item) → Contains tops t → ((least ≤ t.origin) × IsAskedFor w ranking r keys end t) × (¬ Contains before t)
    top_anew t h =
        let (item, kept, (up, (late, free))) = (are.tops t).0 h in
        ((late, elim (told t ((item, (kept.0, kept.1, up.0, up.1)), late)) [ inl c ↦ absurd (free ((both t).1 (inl c))) | inr a ↦ a ]), λ c. free ((both t).1 (inr c)))

    anew_top : (t item : Item) → StandsBelow r end t item → least ≤ t.origin → IsAskedFor w ranking r keys end t → (¬ Contains before t) → Contains tops t
    anew_top t item stands late asked fresh =
        let (b, (c, full, lt, leads)) = bottom_of r is end le {j = end} {item = item} {t = t} refl (stands.0).0 (λ c. (stands.0).1 ((kept_exact r is end le item).0 c)) stands.1 in
        (are.tops t).1 (b, (c, full), ((lt, leads), (late, λ c. elim ((both t).0 c) [ inl u ↦ unasked_never w ranking r keys end unasked un u asked | inr d ↦ fresh d ])))

    module _ (items : List Item) (lists : IsListOf (StandsBelowOf r end tops) items) where
      below_anew : (item : Item) → Contains items item → IsAskedBeside w ranking r keys given end least item
      below_anew item h =
          let (t, th, stands) = (lists.exact item).0 h in
          let (asked, fresh) = top_anew t th in
          ((t, stands, asked), λ c. (let (s, sh, stands') = (was.exact item).0 c in fresh (subst (Contains before) (below_one s t item stands' stands) sh)))

      module _ (all : List Item) (joined : (x : Item) → Contains all x ↔ (Contains items x ⊎ (Contains given x × (least ≤ x.origin)))) where
        pub rest_hidden : (item : Item) → Contains all item → IsHiddenFrom r end least item
        rest_hidden item h = elim ((joined item).0 h) [
          | inl new ↦ below_hidden w ranking r is keys end least item (below_anew item new).0
          | inr (old, late) ↦ (let (t, th, stands) = (was.exact item).0 old in (stands.0, late))
        ]

        pub rest_all : (item : Item) → IsBelowAsked w ranking r keys end least item → Contains all item
        rest_all item (t, stands, (late, asked)) =
            let (hidden, begins) = below_hidden w ranking r is keys end least item (t, stands, (late, asked)) in
            (joined item).1 (elim (decide before t) [
              | inl old ↦ inr ((was.exact item).1 (t, old, stands), begins)
              | inr fresh ↦ inl ((lists.exact item).1 (t, anew_top t item stands late asked fresh, stands))
            ])

    pub rest_counted : {F : Type 0} (old new : ℕ) (o : Result (Vec Item Global) F) → IfOk o (λ items. IsListOf (StandsBelowOf r end tops) items.items) → IfOk o (λ items. new ≡ old + length items.items) → OnErr o (new ≡ old) →
        RisesWithin (IsAskedBeside w ranking r keys given end least) old new
    rest_counted old new (Ok items) lists more err = (length items.items, (items.items, lists.once, (λ item h. below_anew items.items lists item h), refl), more)
    rest_counted old new (Err e) lists more err = (0, none_at_least (IsAskedBeside w ranking r keys given end least), (let same : new ≡ old = err in omega arith))

-- WHAT WAS BROUGHT BACK FOR A PLACE

module _ (w : Grammar) (ranking : Ranking) (r : Recognizer) (keys : List NodeKey) (given : List GivenAt) (end least : ℕ) where
  -- nothing was
  pub none_before : (old new : ℕ) → ((e : GivenAt) → Contains given e → ¬ (e.place ≡ end)) → RisesWithin (IsBelowAsked w ranking r keys end least) old new → RisesWithin (IsAskedAnew w ranking r keys given end least) old new
  none_before old new none rises =
      rises_of (IsBelowAsked w ranking r keys end least) (IsAskedAnew w ranking r keys given end least) old new (λ item asked. (asked, λ (e, there, same, c). none e there same)) rises

  -- or all this
  pub some_before : (old new : ℕ) (tops items : List Item) → ((e : GivenAt) → (Contains given e × (e.place ≡ end)) ↔ (e ≡ record { place = end; tops = tops; items = items })) → RisesWithin (IsAskedBeside w ranking r keys items end least) old new → RisesWithin (IsAskedAnew w ranking r keys given end least) old new
  some_before old new tops items some rises =
      rises_of (IsAskedBeside w ranking r keys items end least) (IsAskedAnew w ranking r keys given end least) old new
      (λ item (asked, fresh). (asked, λ (e, there, same, c). fresh (subst (λ (z : GivenAt). Contains z.items item) ((some e).0 (there, same)) c))) rises
