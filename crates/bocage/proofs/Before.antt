-- Hidden items that were brought back before are ones that a forest is given, each once.
use Rattle.std.proofs.Common.{◌≡◌, ℕ, suc, ◌+◌, ◌<◌, List, [], ◌∷◌, length, map, Contains, refl, sym, ap, subst, arith}
use Rattle.std.proofs.lemmas.List.Sums.{sum_by-cons}
use Rattle.grammar_model.specs.declared.Ranking.{Ranking}
use Rattle.grammar_model.specs.Grammar.{Grammar}
use Rattle.recognizer_model.specs.Nodes.{Placed}
use Rattle.earley_sets.specs.Recognizer.{Recognizer}
use Rattle.earley_sets.proofs.Membership.{Contains-first, Contains-rest}
use Rattle.forest_parts.specs.Hidden.{AreAtLeast, RisesWithin}
use Rattle.forest_parts.specs.Given.{GivenAt, AreFalling, IsInGiven, items_in}
use Rattle.forest_parts.proofs.Counting.{none_at_least, at_least_both, at_least_placed}
use Rattle.bocage.specs.Expanded.{IsGivenIn}
use Rattle.bocage.specs.Given.{AreGivenFor, IsGivenAfter}

module _ (w : Grammar) (ranking : Ranking) (r : Recognizer) where
  -- each of them is given
  before_given : (given : List GivenAt) → AreGivenFor w ranking r given → (p : Placed) → IsInGiven given p → IsGivenIn w ranking r p
  before_given given are p (e, h, same, c) = subst (IsGivenIn w ranking r) (λ i. record { place = same i; item = p.item }) ((are e h).given p.item c)

  -- as many as there are at all places
  falls_on : (e : GivenAt) (es : List GivenAt) → AreFalling (e ∷ es) → (x : GivenAt) → Contains es x → x.place < e.place
  falls_on e es falls x (k, lt, q) =
      let f = falls 0 (suc k) x (omega arith) (omega arith) in
      let p = ap (λ (z : GivenAt). z.place) q in
      omega arith

  falls_rest : (e : GivenAt) (es : List GivenAt) → AreFalling (e ∷ es) → AreFalling es
  falls_rest e es falls i j d lt below = falls (suc i) (suc j) d (omega arith) (omega arith)

  abbrev IsHere : GivenAt → Placed → Type 0
  IsHere e p = (p.place ≡ e.place) × Contains e.items p.item

  pub as_many : (given : List GivenAt) → AreFalling given → AreGivenFor w ranking r given → AreAtLeast (IsInGiven given) (items_in given)
  as_many [] falls are = none_at_least (IsInGiven [])
  as_many (e ∷ es) falls are =
      subst (AreAtLeast (IsInGiven (e ∷ es))) (sym (sum_by-cons (λ n. n) (length e.items) (map (λ (x : GivenAt). length x.items) es)))
      (at_least_both (IsHere e) (IsInGiven es) (IsInGiven (e ∷ es))
      (λ p (here, c) (x, h, same, c'). (let lt = falls_on e es falls x h in absurd (omega arith)))
      (λ p (here, c). (e, Contains-first e es, sym here, c))
      (λ p (x, h, same, c). (x, Contains-rest e es x h, same, c))
      (length e.items) (items_in es)
      (at_least_placed e.place (Contains e.items) (IsHere e) (λ item h. (refl, h)) (length e.items) (e.items, (are e (Contains-first e es)).below.items.once, (λ item h. h), refl))
      (as_many es (falls_rest e es falls) (λ x h. are x (Contains-rest e es x h))))

  -- so all that is counted together is given
  pub rises_after : (given : List GivenAt) → AreFalling given → AreGivenFor w ranking r given → (start old new : ℕ) → old ≡ start + items_in given → RisesWithin (IsGivenAfter w ranking r given) old new → RisesWithin (IsGivenIn w ranking r) start new
  rises_after given falls are start old new begun (n, some, more) = (
    items_in given + n,
    at_least_both (IsInGiven given) (IsGivenAfter w ranking r given) (IsGivenIn w ranking r) (λ p h (is, not). not h) (before_given given are) (λ p (is, not). is) (items_in given) n (as_many given falls are) some,
    omega arith,
  )
