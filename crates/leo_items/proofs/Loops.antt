use Rattle.std.proofs.Common.{◌≡◌, ℕ, zero, suc, ◌+◌, ◌≤◌, ◌↔◌, ◌⊎◌, inl, inr, List, [], ◌∷◌, length, get_or, slice_get, Option, Some, None, Contains, sym, ◌∙◌, ap, subst, arith, length-append}
use Rattle.std.proofs.lemmas.List.{get_or_append_left}
use Rattle.std.proofs.lemmas.Bool.{cases_lt}
use Rattle.finite_sets.proofs.Lists.{got_item, got_at}
use Rattle.recognizer_model.specs.declared.Item.{Item}
use Rattle.recognizer_model.specs.Flat.{FlatGrammar}
use Rattle.item_rows.specs.Kept.{IsItem, AreItems}
use Rattle.leo_items.specs.Closed.{IsReached, Seed, Step, Grows}
use Rattle.leo_items.specs.Closed.{IsClosedTo}

pub got_none : (xs : List Item) (k : ℕ) → Path (Option Item) None (slice_get xs k) → length xs ≤ k
got_none [] k e = omega arith
got_none (y ∷ ys) zero e = absurd (cc)
got_none (y ∷ ys) (suc k) e = let h = got_none ys k e in omega arith

module _ (g : FlatGrammar) (F : Item → Item → Type 0) where
  pub closed_init : (keys : List Item) → AreItems g keys → IsClosedTo g F keys keys 0
  closed_init keys items = record { begun = λ item h. h; reached = λ item h. Seed h; followed = λ i d lt other f. absurd (omega arith); within = omega arith; items = items }

  module _ (seeds keys : List Item) (k : ℕ) (inv : IsClosedTo g F seeds keys k) where
    closed_has : length keys ≤ k → (item : Item) → IsReached F seeds item → Contains keys item
    closed_has le item (Seed h) = inv.begun item h
    closed_has le item (Step {item = before} r f) =
        let (i, lt, e) = closed_has le before r in
        inv.followed i before (omega arith) item (subst (λ b. F b item) (sym e) f)

    pub closed_done : length keys ≤ k → (item : Item) → Contains keys item ↔ IsReached F seeds item
    closed_done le item = (inv.reached item, closed_has le item)

    pub closed_more : (item : Item) (next new : List Item) → Some item ≡ slice_get keys k →
        ((other : Item) → F item other → IsItem g other) →
        ((other : Item) → Contains next other → F item other) → ((other : Item) → F item other → Contains keys other ⊎ Contains next other) → Grows keys new next → IsClosedTo g F seeds new (k + 1)
    closed_more item next new at are only all grows =
        let there = got_item keys k item at in
        let (lt, same) = got_at keys k item item at in
        let (more, e) = grows.begins in
        let kept : (other : Item) → Contains keys other → Contains new other = λ other h. (grows.has other).1 (inl h) in
        record {
          begun = λ other h. kept other (inv.begun other h);
          reached = λ other h. elim ((grows.has other).0 h) [
            | inl old ↦ inv.reached other old
            | inr n ↦ Step (inv.reached item there) (only other n)
          ];
          followed = λ i d below other f. elim (cases_lt i k) [
            | inl before ↦
                let old : get_or new i d ≡ get_or keys i d = ap (λ l. get_or l i d) e ∙ get_or_append_left keys more d i (let w = inv.within in omega arith) in
                kept other (inv.followed i d before other (subst (λ b. F b other) old f))
            | inr now ↦
                let here : i ≡ k = omega arith in
                let it : get_or new i d ≡ item = ap (λ n. get_or new n d) here ∙ (ap (λ l. get_or l k d) e ∙ (get_or_append_left keys more d k lt ∙ (got_at keys k item d at).1)) in
                (grows.has other).1 (all other (subst (λ b. F b other) it f))
          ];
          within = let l : length new ≡ length keys + length more = ap length e ∙ length-append keys more in omega arith;
          items = λ other h. elim ((grows.has other).0 h) [
            | inl old ↦ inv.items other old
            | inr n ↦ are other (only other n)
          ];
        }
