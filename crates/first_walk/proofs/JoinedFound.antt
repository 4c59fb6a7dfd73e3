-- The parts that an item waits for are those that match, the first of them first.
use Rattle.std.proofs.Common.{◌≡◌, ◌⊎◌, inl, inr, ◌↔◌, ℕ, ◌<◌, ◌-◌, List, length, Some, get_or, Contains, refl, sym, ◌∙◌, ap, subst, arith}
use Rattle.std.specs.List.Sorted.{IsStrictlySortedBy}
use Rattle.std.specs.declared.cmp.Ordering.TheVariants.{Less, Equal, Greater}
use Rattle.std.specs.Ordering.{nat_cmp}
use Rattle.std.specs.Cmp.{nat_cmp_is}
use Rattle.std.proofs.lemmas.Bool.{cases_lt}
use Rattle.std.proofs.lemmas.List.Elements.{Contains-get_or}
use Rattle.finite_sets.proofs.Lists.{got_at}
use Rattle.recognizer_model.specs.declared.Item.{Item}
use Rattle.recognizer_model.specs.Items.{after}
use Rattle.earley_sets.specs.Recognizer.{Recognizer, set_at}
use Rattle.earley_sets.proofs.Membership.{found_at}
use Rattle.forest_parts.specs.declared.parts.Part.{Part}
use Rattle.forest_parts.specs.Parts.{part_at}
use Rattle.forest_parts.proofs.InOrder.{rest_less}
use Rattle.first_walk.specs.declared.joined.Joined.{Joined}
use Rattle.first_walk.specs.Joined.{joined_cmp, item_of_joined, AreJoined, HasOtherLength}
use Rattle.first_walk.specs.Place.{IsMatch, IsFirstMatch, HasNoMatch, HasOtherStart}
use Rattle.first_walk.proofs.JoinedOrder.{no_joined}

nat_less : (a b : ℕ) → nat_cmp a b ≡ Less → a < b
nat_less a b e = elim (cases_lt a b) [
  | inl lt ↦ lt
  | inr ge ↦ elim (cases_lt b a) [
    | inl gt ↦ let g = nat_cmp_is a b Greater gt in let f : Greater ≡ Less = g ∙ e in absurd (cc)
    | inr le ↦ let q : a ≡ b = omega arith in let g = nat_cmp_is a b Equal q in let f : Equal ≡ Less = g ∙ e in absurd (cc)
  ]
]

module _ (r : Recognizer) (parts : List Part) (joined : List Joined) (are : AreJoined r parts joined) (symbol : ℕ) (item : Item) (part : after r.flat item ≡ Some symbol)
    (mine : List Joined) (sorted : IsStrictlySortedBy joined_cmp mine) (exact : (j : Joined) → Contains mine j ↔ (Contains joined j × (item_of_joined j ≡ item))) where
  pub match_of : (j : Joined) → Contains mine j → (j.part < length parts) × IsMatch r symbol item (part_at parts j.part)
  match_of j h =
      let (among, e) = (exact j).0 h in
      let (below, (kept, waits)) = (are.exact j).0 among in
      let both : Some (part_at parts j.part).symbol ≡ Some symbol = sym waits ∙ ap (after r.flat) e ∙ part in
      let same : (part_at parts j.part).symbol ≡ symbol = cc in
      (below, (same, subst (λ z. Contains (set_at r ((part_at parts j.part).end - (part_at parts j.part).length)) z) e kept))

  abbrev joined_to : ℕ → Joined
  joined_to k = record { rule = item.rule; dot = item.dot; origin = item.origin; part = k }

  of_match : (k : ℕ) → k < length parts → IsMatch r symbol item (part_at parts k) → Contains mine (joined_to k)
  of_match k below (same, kept) = (exact (joined_to k)).1 ((are.exact (joined_to k)).1 (below, (kept, part ∙ ap Some (sym same))), refl)

  same_item : (i j : Joined) → Contains mine i → Contains mine j → item_of_joined i ≡ item_of_joined j
  same_item i j a b = ((exact i).0 a).1 ∙ sym ((exact j).0 b).1

  rises : (i j : ℕ) → i < j → j < length mine → (get_or mine i no_joined).part < (get_or mine j no_joined).part
  rises i j lt below = nat_less _ _ (
      rest_less (λ (z : Joined). z.origin) (λ (z : Joined). z.rule) (λ (z : Joined). z.dot) (λ (y z : Joined). nat_cmp y.part z.part) mine sorted
      (λ p q a b. ap (λ (z : Item). z.origin) (same_item p q a b)) (λ p q a b. ap (λ (z : Item). z.rule) (same_item p q a b)) i j no_joined lt below
      (ap (λ (z : Item). z.dot) (same_item (get_or mine i no_joined) (get_or mine j no_joined) (Contains-get_or mine i no_joined (omega arith)) (Contains-get_or mine j no_joined below)))
      )

  pub no_match : length mine ≡ 0 → HasNoMatch r parts symbol item
  no_match none k below match =
      let (i, at) = found_at mine (joined_to k) (of_match k below match) in
      let (lt, e) = got_at mine i (joined_to k) no_joined (sym at) in
      absurd (omega arith)

  module _ (some : 0 < length mine) where
    abbrev first : ℕ
    first = (get_or mine 0 no_joined).part

    pub there : Contains mine (get_or mine 0 no_joined)
    there = Contains-get_or mine 0 no_joined some

    -- one of them stands first or behind
    later : (k : ℕ) → k < length parts → IsMatch r symbol item (part_at parts k) → (k ≡ first) ⊎ (first < k)
    later k below match =
        let (i, at) = found_at mine (joined_to k) (of_match k below match) in
        let (lt, e) = got_at mine i (joined_to k) no_joined (sym at) in
        let is : (get_or mine i no_joined).part ≡ k = ap (λ (z : Joined). z.part) e in
        elim (cases_lt 0 i) [
          | inl after ↦ let up = rises 0 i after lt in inr (omega arith)
          | inr le ↦ let z : i ≡ 0 = omega arith in inl (sym is ∙ ap (λ n. (get_or mine n no_joined).part) z)
        ]

    pub first_match : IsFirstMatch r parts symbol item first
    first_match = record {
      below = (match_of (get_or mine 0 no_joined) there).0;
      is = (match_of (get_or mine 0 no_joined) there).1;
      first = λ j lt match. (
          let b = (match_of (get_or mine 0 no_joined) there).0 in
          elim (later j (omega arith) match) [ inl e ↦ omega arith | inr after ↦ omega arith ]
          );
    }

    pub other_start : HasOtherLength parts mine first ↔ HasOtherStart r parts item first
    other_start = (
      λ (j, h, differs). (
          let (below, (same, kept)) = match_of j h in
          elim (later j.part below (same, kept)) [
            | inl e ↦ absurd (differs (ap (λ n. (part_at parts n).length) e))
            | inr after ↦ (j.part, after, below, differs, (same ∙ sym first_match.is.0, kept))
          ]
          ),
      λ (k, after, below, differs, (same, kept)). (joined_to k, of_match k below (same ∙ first_match.is.0, kept), differs),
    )
