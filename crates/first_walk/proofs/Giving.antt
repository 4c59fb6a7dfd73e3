-- What is brought back for a first node is noted, and counted.
use Rattle.std.proofs.Common.{◌≡◌, inl, inr, ℕ, zero, suc, Bool, true, false, true≢false, ◌+◌, ◌<◌, ◌≤◌, List, [], ◌∷◌, ◌++◌, map, length, Contains, refl, sym, ◌∙◌, ap, subst, arith}
use Rattle.std.specs.Prelude.{sum, ◌==◌}
use Rattle.std.proofs.lemmas.Bool.{eqb-true}
use Rattle.std.proofs.lemmas.List.{map-append}
use Rattle.std.proofs.lemmas.List.Elements.{Contains-append_cases}
use Rattle.std.proofs.lemmas.List.Sums.{sum_by_push}
use Rattle.finite_sets.proofs.Lists.{Contains-none}
use Rattle.grammar_model.specs.declared.Ranking.{Ranking}
use Rattle.grammar_model.specs.Grammar.{Grammar}
use Rattle.recognizer_model.specs.declared.Item.{Item}
use Rattle.recognizer_model.specs.declared.NodeKey.{NodeKey}
use Rattle.recognizer_model.specs.Counts.{IsListOf}
use Rattle.earley_sets.specs.Below.{StandsBelowOf}
use Rattle.earley_sets.specs.Recognizer.{Recognizer, earleme_of}
use Rattle.earley_sets.proofs.Membership.{Contains-cons_cases}
use Rattle.forest_parts.specs.Given.{GivenAt, items_in}
use Rattle.forest_parts.specs.Needed.{IsBelowAsked}
use Rattle.forest_parts.proofs.Tops.{below_hidden}
use Rattle.bocage.specs.Expanded.{IsGivenAt}
use Rattle.bocage.specs.Given.{IsGivenFor, AreGivenFor}
use Rattle.bocage.specs.Walk.{IsRead, IsUsedIn}
use Rattle.bocage.proofs.Allowed.{below_allowed}
use Rattle.bocage.proofs.HiddenNodes.{asked_node}
use Rattle.bocage.proofs.Splits.{used_within}
use Rattle.first_walk.specs.Place.{IsNoted, AreFrom}

-- an entry after others
after_others : (P : GivenAt → Type 0) (old : List GivenAt) (last : GivenAt) → ((e : GivenAt) → Contains old e → P e) → P last → (e : GivenAt) → Contains (old ++ last ∷ []) e → P e
after_others P old last h here e i = elim (Contains-append_cases old (last ∷ []) e i) [
  | inl a ↦ h e a
  | inr b ↦ elim (Contains-cons_cases last [] e b) [ inl same ↦ subst P same here | inr j ↦ absurd (Contains-none e j) ]
]

-- whatever the old entries have, and the new one, all have
noted_have : (P : GivenAt → Type 0) (end : ℕ) (tops items : List Item) (old new : List GivenAt) → IsNoted end tops items old new → ((e : GivenAt) → Contains old e → P e) → P (record { place = end; tops = tops; items = items }) →
    (e : GivenAt) → Contains new e → P e
noted_have P end tops [] old new is h here e i = h e (subst (λ l. Contains l e) is i)
noted_have P end tops (x ∷ items) old new is h here e i =
    after_others P old (record { place = end; tops = tops; items = x ∷ items }) h here e (subst (λ l. Contains l e) is i)

pub noted_from : (end : ℕ) (tops items : List Item) (old new : List GivenAt) → IsNoted end tops items old new → ((e : GivenAt) → Contains old e → end < e.place) → AreFrom end new
noted_from end tops items old new is later =
    noted_have (λ (e : GivenAt). end ≤ e.place) end tops items old new is (λ e i. (let lt = later e i in omega arith)) (omega arith)

pub noted_total : (end : ℕ) (tops items : List Item) (old new : List GivenAt) → IsNoted end tops items old new → items_in new ≡ items_in old + length items
noted_total end tops [] old new is = let same = ap items_in is in omega arith
noted_total end tops (x ∷ items) old new is =
    ap items_in is
    ∙ ap sum (map-append (λ (e : GivenAt). length e.items) old (record { place = end; tops = tops; items = x ∷ items } ∷ []))
    ∙ sum_by_push (λ n. n) (map (λ (e : GivenAt). length e.items) old) (length (x ∷ items))

pub noted_some : (end : ℕ) (tops items : List Item) (old new : List GivenAt) → 0 < length items → new ≡ old ++ record { place = end; tops = tops; items = items } ∷ [] → IsNoted end tops items old new
noted_some end tops [] old new some is = absurd (omega arith)
noted_some end tops (x ∷ items) old new some is = is

pub noted_none : (end : ℕ) (tops items : List Item) (old new : List GivenAt) → length items ≡ 0 → new ≡ old → IsNoted end tops items old new
noted_none end tops [] old new none is = is
noted_none end tops (x ∷ items) old new none is = absurd (omega arith)

-- whether there are any
pub some_by : (b : Bool) (n : ℕ) → b ≡ (n == 0) → b ≡ false → 0 < n
some_by b zero e f = absurd (true≢false (sym e ∙ f))
some_by b (suc n) e f = omega arith

pub none_by : (b : Bool) (n : ℕ) → b ≡ (n == 0) → b ≡ true → n ≡ 0
none_by b n e t = eqb-true n 0 (sym e ∙ t)

module _ (w : Grammar) (ranking : Ranking) (r : Recognizer) (read : IsRead w r) (first : NodeKey) (used : IsUsedIn w ranking r first) where
  le : first.end ≤ earleme_of r
  le = (used_within w ranking r read first used).inside

  one_used : (key : NodeKey) → Contains (first ∷ []) key → IsUsedIn w ranking r key
  one_used key i = elim (Contains-cons_cases first [] key i) [ inl same ↦ subst (λ z. IsUsedIn w ranking r z) same used | inr j ↦ absurd (Contains-none key j) ]

  -- what a used node asks for is counted
  pub asked_given : (item : Item) → IsBelowAsked w ranking r (first ∷ []) first.end first.origin item → IsGivenAt w ranking r first.end item
  asked_given item h =
      let (hidden, late) = below_hidden w ranking r read.is (first ∷ []) first.end first.origin item h in (
        (hidden, (first, used, refl, late)),
        (asked_node w r read first.end le ranking (first ∷ []) one_used first.origin item h, below_allowed w r read first.end le ranking (first ∷ []) one_used first.origin item h),
      )

  pub noted_given : (tops items : List Item) → IsListOf (IsBelowAsked w ranking r (first ∷ []) first.end first.origin) items → IsListOf (StandsBelowOf r first.end tops) items → (old new : List GivenAt) →
      IsNoted first.end tops items old new → AreGivenFor w ranking r old → AreGivenFor w ranking r new
  noted_given tops items exact below old new is given =
      noted_have (λ e. IsGivenFor w ranking r e) first.end tops items old new is given
      (record { below = record { place = le; items = below }; given = λ item h. asked_given item ((exact.exact item).0 h) })
