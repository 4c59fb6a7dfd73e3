-- What is chosen of the parts of a place is the cause of a node's first alternative.
use Rattle.std.proofs.Common.{◌≡◌, ◌↔◌, inl, inr, ℕ, suc, ◌-◌, ◌<◌, Bool, true, false, List, Some, None, length, Contains, refl, sym, ◌∙◌, ap, subst, arith}
use Rattle.std.specs.Prelude.{IsTrue, IfSome, slice_index_or}
use Rattle.std.proofs.lemmas.Option.{slice_get-get_or}
use Rattle.grammar_model.specs.declared.Ranking.{Ranking}
use Rattle.grammar_model.specs.Grammar.{Grammar}
use Rattle.recognizer_model.specs.declared.Item.{Item}
use Rattle.recognizer_model.specs.declared.NodeKey.{NodeKey}
use Rattle.recognizer_model.specs.Flat.{IsRule, rhs_of, part_of, IsNullable}
use Rattle.earley_sets.specs.Recognizer.{Recognizer, set_at}
use Rattle.forest_parts.specs.declared.parts.Part.{Part}
use Rattle.forest_parts.specs.Parts.{part_at, IsPart}
use Rattle.forest_parts.proofs.Sets.{in_full}
use Rattle.bocage.specs.Walk.{IsRead, IsUsedIn, HasRule}
use Rattle.bocage.proofs.Splits.{used_within}
use Rattle.first_walk.specs.declared.place.Chosen.{Chosen}
use Rattle.first_walk.specs.Place.{HaveLast, EndTogether, HavePlaces, IsFirstMatch, HasNoMatch, IsAlone, IsFirstOf, IsChosen, Fits, null_high}
use Rattle.first_walk.proofs.Choosing.{none_chosen, nothing_alone, some_chosen}
use Rattle.first_walk.proofs.Parts

-- ---- which of both is chosen

pub first_nothing : (r : Recognizer) (high nothing : Bool) (ranking : Ranking) (parts : List Part) (item : Item) (k : ℕ) → high ≡ true → nothing ≡ true →
    IsFirstOf r high ranking parts item k nothing (record { part = None; alone = false })
first_nothing r true true ranking parts item k e e' = (refl, refl)
first_nothing r true false ranking parts item k e e' = let no : false ≡ true = e' in absurd (cc)
first_nothing r false nothing ranking parts item k e e' = let no : false ≡ true = e in absurd (cc)

pub first_part : (r : Recognizer) (high nothing : Bool) (ranking : Ranking) (parts : List Part) (item : Item) (k : ℕ) (chosen : Chosen) → (high ≡ true → nothing ≡ true → ⊥) → chosen.part ≡ Some (part_at parts k) →
    (IsTrue chosen.alone ↔ IsAlone r ranking parts item k nothing) → IsFirstOf r high ranking parts item k nothing chosen
first_part r true true ranking parts item k chosen none a b = absurd (none refl refl)
first_part r true false ranking parts item k chosen none a b = (a, b)
first_part r false true ranking parts item k chosen none a b = (a, b)
first_part r false false ranking parts item k chosen none a b = (a, b)

-- ---- a used node

module _ (w : Grammar) (ranking : Ranking) (r : Recognizer) (read : IsRead w r) (key : NodeKey) (used : IsUsedIn w ranking r key) (rhs : List ℕ) (rhs_is : rhs ≡ rhs_of r.flat key.rule) where
  pub dot_more : key.dot ≡ suc (key.dot - 1)
  dot_more = let s = (used_within w ranking r read key used).some in omega arith

  pub rule_is : IsRule r.flat key.rule
  rule_is = (used_within w ranking r read key used).is_rule

  pub dot_in : key.dot - 1 < length rhs
  dot_in =
      let wi = used_within w ranking r read key used in
      let s = wi.some in
      let p = wi.parts in
      let e = ap (λ (l : List ℕ). length l) rhs_is in
      omega arith

  abbrev symbol : ℕ
  symbol = slice_index_or rhs (key.dot - 1) 0

  pub part_is : part_of r.flat key.rule (key.dot - 1) ≡ Some (slice_index_or rhs (key.dot - 1) 0)
  part_is = subst (λ l. part_of r.flat key.rule (key.dot - 1) ≡ Some (slice_index_or l (key.dot - 1) 0)) (sym rhs_is)
      (slice_get-get_or (rhs_of r.flat key.rule) (key.dot - 1) 0 (subst (λ l. key.dot - 1 < length l) rhs_is dot_in))

  pub symbol_in : slice_index_or rhs (key.dot - 1) 0 < length r.flat.symbols
  symbol_in = read.is.flat.in_range.parts key.rule (key.dot - 1) symbol rule_is part_is

  -- one that spans nothing
  pub empty_chosen : key.origin ≡ key.end → IsChosen w ranking r key (record { part = None; alone = true })
  empty_chosen e nodes root alternatives are =
      nothing_alone w ranking r read key used (key.dot - 1) symbol dot_more part_is nodes root alternatives are
      (λ n s. (let a = Parts.starts_late w ranking r read key used (key.dot - 1) symbol dot_more part_is n s in let b = Parts.starts_early w ranking r read key used (key.dot - 1) symbol dot_more part_is n s in omega arith))

  module _ (parts : List Part) (listed : HaveLast w ranking r key parts) where
    pub end_together : EndTogether parts
    end_together p q h i = (Parts.ends w ranking r read key used (key.dot - 1) symbol dot_more part_is parts listed p h).0
        ∙ sym (Parts.ends w ranking r read key used (key.dot - 1) symbol dot_more part_is parts listed q i).0

    pub have_places : HavePlaces r parts
    have_places p h =
        let (e, l) = Parts.ends w ranking r read key used (key.dot - 1) symbol dot_more part_is parts listed p h in
        let wi = listed.within in
        (omega arith, omega arith)

    pub none_is : HasNoMatch r parts (slice_index_or rhs (key.dot - 1) 0) (record { rule = key.rule; dot = key.dot - 1; origin = key.origin }) → IsChosen w ranking r key (record { part = None; alone = true })
    none_is none nodes root alternatives are = none_chosen w ranking r read key used (key.dot - 1) symbol dot_more part_is nodes root alternatives are parts listed none

    module _ (k : ℕ) (match : IsFirstMatch r parts (slice_index_or rhs (key.dot - 1) 0) (record { rule = key.rule; dot = key.dot - 1; origin = key.origin }) k) where
      pub some_is : (nothing : Bool) → (IsTrue nothing ↔ (IsNullable r.flat (slice_index_or rhs (key.dot - 1) 0) × Contains (set_at r key.end) (record { rule = key.rule; dot = key.dot - 1; origin = key.origin }))) → (chosen : Chosen) →
          IsFirstOf r (null_high w ranking r key.rule) ranking parts (record { rule = key.rule; dot = key.dot - 1; origin = key.origin }) k nothing chosen → IsChosen w ranking r key chosen
      some_is nothing is chosen h nodes root alternatives are =
          some_chosen w ranking r read key used (key.dot - 1) symbol dot_more part_is nodes root alternatives are parts listed k match (null_high w ranking r key.rule) nothing refl is chosen h

      fits : Fits r.flat key (part_at parts k)
      fits =
          let below = match.below in
          let (is, end, bound) = listed.are (part_at parts k) (Parts.there w ranking r read key used (key.dot - 1) symbol dot_more part_is parts listed k below) in
          let sum = Parts.start_sum w ranking r read key used (key.dot - 1) symbol dot_more part_is parts listed k match in
          let (s, lt) = Parts.start_split w ranking r read key used (key.dot - 1) symbol dot_more part_is parts listed k match in
          let late = Parts.starts_late w ranking r read key used (key.dot - 1) symbol dot_more part_is (key.end - (part_at parts k).length) s in
          (omega arith, has is)
        where
          has : IsPart w ranking r (part_at parts k) → HasRule r.flat (part_at parts k).whole
          has (inl (e, i, edge)) = subst (λ o. HasRule r.flat o) (sym edge.whole) tt
          has (inr (earleme, item, le, i, over)) = subst (λ o. HasRule r.flat o) (sym over.whole) ((in_full r read.is earleme item).0 i).is_rule

      pub some_fits : (high nothing : Bool) (chosen : Chosen) → IsFirstOf r high ranking parts (record { rule = key.rule; dot = key.dot - 1; origin = key.origin }) k nothing chosen → IfSome chosen.part (λ p. Fits r.flat key p)
      some_fits true true chosen (none, alone) = subst (λ o. IfSome o (λ p. Fits r.flat key p)) (sym none) tt
      some_fits true false chosen (some, alone) = subst (λ o. IfSome o (λ p. Fits r.flat key p)) (sym some) fits
      some_fits false true chosen (some, alone) = subst (λ o. IfSome o (λ p. Fits r.flat key p)) (sym some) fits
      some_fits false false chosen (some, alone) = subst (λ o. IfSome o (λ p. Fits r.flat key p)) (sym some) fits
