-- A used node, by the symbol of its last part: the first part that matches is known, or one is the only part of the symbol.
use Rattle.std.proofs.Common.{◌≡◌, inl, inr, ◌↔◌, ℕ, suc, ◌<◌, ◌-◌, Bool, true, false, List, Some, None, length, Contains, refl, sym, ◌∙◌, subst, arith}
use Rattle.std.specs.Prelude.{IsTrue, IfSome}
use Rattle.std.proofs.lemmas.Bool.{cases_lt, false≢true}
use Rattle.grammar_model.specs.declared.Ranking.{Ranking}
use Rattle.grammar_model.specs.Grammar.{Grammar}
use Rattle.recognizer_model.specs.declared.Item.{Item}
use Rattle.recognizer_model.specs.declared.NodeKey.{NodeKey}
use Rattle.recognizer_model.specs.Flat.{part_of, IsNullable}
use Rattle.earley_sets.specs.Recognizer.{Recognizer, set_at}
use Rattle.forest_parts.specs.declared.parts.Part.{Part}
use Rattle.forest_parts.specs.Parts.{part_at, IsPart}
use Rattle.forest_parts.proofs.Sets.{in_full}
use Rattle.bocage.specs.Walk.{IsRead, IsUsedIn, HasRule}
use Rattle.first_walk.specs.declared.place.Chosen.{Chosen}
use Rattle.first_walk.specs.Place.{HaveLast, IsFrom, IsOnly, IsFirstMatch, HasNoMatch, IsMatch, IsFirstOf, IsChosen, IsAlone, Fits, null_high}
use Rattle.first_walk.proofs.Choosing.{some_split, early, none_chosen, some_chosen}
use Rattle.first_walk.proofs.Choices.{first_part}
use Rattle.first_walk.proofs.Parts

module _ (w : Grammar) (ranking : Ranking) (r : Recognizer) (read : IsRead w r) (key : NodeKey) (used : IsUsedIn w ranking r key)
    (d symbol : ℕ) (dot_is : key.dot ≡ suc d) (part : part_of r.flat key.rule d ≡ Some symbol) (parts : List Part) (listed : HaveLast w ranking r key parts) where
  abbrev own : Item
  own = record { rule = key.rule; dot = d; origin = key.origin }

  pub none_found : HasNoMatch r parts symbol own → IsChosen w ranking r key (record { part = None; alone = true })
  none_found none nodes root alternatives are = none_chosen w ranking r read key used d symbol dot_is part nodes root alternatives are parts listed none

  module _ (k : ℕ) (match : IsFirstMatch r parts symbol own k) where
    pub some_found : (nothing : Bool) → (IsTrue nothing ↔ (IsNullable r.flat symbol × Contains (set_at r key.end) own)) → (chosen : Chosen) →
        IsFirstOf r (null_high w ranking r key.rule) ranking parts own k nothing chosen → IsChosen w ranking r key chosen
    some_found nothing is chosen h nodes root alternatives are =
        some_chosen w ranking r read key used d symbol dot_is part nodes root alternatives are parts listed k match (null_high w ranking r key.rule) nothing refl is chosen h

    fits : Fits r.flat key (part_at parts k)
    fits =
        let below = match.below in
        let (is, end, bound) = listed.are (part_at parts k) (Parts.there w ranking r read key used d symbol dot_is part parts listed k below) in
        let sum = Parts.start_sum w ranking r read key used d symbol dot_is part parts listed k match in
        let (s, lt) = Parts.start_split w ranking r read key used d symbol dot_is part parts listed k match in
        let late = Parts.starts_late w ranking r read key used d symbol dot_is part (key.end - (part_at parts k).length) s in
        (omega arith, has is)
      where
        has : IsPart w ranking r (part_at parts k) → HasRule r.flat (part_at parts k).whole
        has (inl (e, i, edge)) = subst (λ o. HasRule r.flat o) (sym edge.whole) tt
        has (inr (earleme, item, le, i, over)) = subst (λ o. HasRule r.flat o) (sym over.whole) ((in_full r read.is earleme item).0 i).is_rule

    pub found_fits : (high nothing : Bool) (chosen : Chosen) → IsFirstOf r high ranking parts own k nothing chosen → IfSome chosen.part (λ p. Fits r.flat key p)
    found_fits true true chosen (none, alone) = subst (λ o. IfSome o (λ p. Fits r.flat key p)) (sym none) tt
    found_fits true false chosen (some, alone) = subst (λ o. IfSome o (λ p. Fits r.flat key p)) (sym some) fits
    found_fits false true chosen (some, alone) = subst (λ o. IfSome o (λ p. Fits r.flat key p)) (sym some) fits
    found_fits false false chosen (some, alone) = subst (λ o. IfSome o (λ p. Fits r.flat key p)) (sym some) fits

module _ (w : Grammar) (ranking : Ranking) (r : Recognizer) (read : IsRead w r) (key : NodeKey) (used : IsUsedIn w ranking r key)
    (d symbol : ℕ) (dot_is : key.dot ≡ suc d) (part : part_of r.flat key.rule d ≡ Some symbol)
    (parts : List Part) (listed : HaveLast w ranking r key parts) (k : ℕ) (from : IsFrom parts symbol k) (only : IsOnly r.flat parts symbol k) where
  -- no part behind it is of the symbol
  none_behind : (j : ℕ) → k < j → j < length parts → (part_at parts j).symbol ≡ symbol → ⊥
  none_behind j after below same =
      let (null, inside, is, next) = only in
      elim (cases_lt (suc k) j) [
        | inl more ↦
            let up = Parts.rising w ranking r read key used d symbol dot_is part parts listed k (suc k) (omega arith) (omega arith) in
            let up' = Parts.rising w ranking r read key used d symbol dot_is part parts listed (suc k) j more below in
            next (omega arith) (omega arith)
        | inr le ↦ let e : j ≡ suc k = omega arith in next (omega arith) (subst (λ i. (part_at parts i).symbol ≡ symbol) e same)
      ]

  only_first : IsFirstMatch r parts symbol (Parts.item w ranking r read key used d symbol dot_is part) k
  only_first =
      let (null, inside, is, next) = only in
      let (m, s) = some_split w ranking r read key used d symbol dot_is part in
      let le = early w ranking r read key used d symbol dot_is part m s in
      elim (cases_lt m key.end) [
        | inl lt ↦
            let (j, below, match, sum) = Parts.split_match w ranking r read key used d symbol dot_is part parts listed m s lt in
            record {
              below = inside;
              is = subst (λ i. IsMatch r symbol (Parts.item w ranking r read key used d symbol dot_is part) (part_at parts i)) (here j below match.0) match;
              first = λ i before (same, kept). (let up = from.0 i before in omega arith);
            }
        | inr ge ↦
            let e : m ≡ key.end = omega arith in
            absurd (null (Parts.split_nothing w ranking r read key used d symbol dot_is part m s e).0)
      ]
    where
      here : (j : ℕ) → j < length parts → (part_at parts j).symbol ≡ symbol → j ≡ k
      here j below same = elim (cases_lt j k) [
        | inl lt ↦ let up = from.0 j lt in absurd (omega arith)
        | inr ge ↦ elim (cases_lt k j) [ inl lt ↦ absurd (none_behind j lt below same) | inr le ↦ omega arith ]
      ]

  only_alone : IsAlone r ranking parts (Parts.item w ranking r read key used d symbol dot_is part) k false
  only_alone =
      let (null, inside, is, next) = only in (
        refl,
        λ (below, (same, long), kept). next below (same ∙ is),
        λ (j, after, below, differs, (same, kept)). none_behind j after below (same ∙ is),
      )

  only_is : (high : Bool) → IsFirstOf r high ranking parts (Parts.item w ranking r read key used d symbol dot_is part) k false (record { part = Some (part_at parts k); alone = true })
  only_is high =
      first_part r high false ranking parts (Parts.item w ranking r read key used d symbol dot_is part) k (record { part = Some (part_at parts k); alone = true })
      (λ _ t. false≢true t) refl (λ _. only_alone, λ _. refl)

  not_nothing : IsTrue false ↔ (IsNullable r.flat symbol × Contains (set_at r key.end) (Parts.item w ranking r read key used d symbol dot_is part))
  not_nothing = (λ t. absurd (false≢true t), λ (null, kept). absurd (only.0 null))

  -- so it is the first that matches, and chosen
  pub only_chosen : IsChosen w ranking r key (record { part = Some (part_at parts k); alone = true })
  only_chosen =
      some_found w ranking r read key used d symbol dot_is part parts listed k only_first false not_nothing (record { part = Some (part_at parts k); alone = true }) (only_is (null_high w ranking r key.rule))

  pub only_fits : Fits r.flat key (part_at parts k)
  only_fits = fits w ranking r read key used d symbol dot_is part parts listed k only_first
