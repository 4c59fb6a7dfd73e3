-- What is brought back place by place is counted, each item once.
use Rattle.std.proofs.Common.{◌≡◌, ℕ, ◌+◌, ◌<◌, Option, Some, None, List, Contains, refl, sym, subst, arith}
use Rattle.grammar_model.specs.declared.Ranking.{Ranking}
use Rattle.grammar_model.specs.Grammar.{Grammar}
use Rattle.recognizer_model.specs.declared.NodeKey.{NodeKey}
use Rattle.recognizer_model.specs.Nodes.{Placed}
use Rattle.earley_sets.specs.Recognizer.{Recognizer}
use Rattle.forest_parts.specs.Given.{GivenAt}
use Rattle.forest_parts.specs.Hidden.{RisesWithin}
use Rattle.forest_parts.proofs.Counting.{at_least_both, at_least_placed, rises_of}
use Rattle.bocage.specs.Expanded.{IsGivenIn, IsGivenAt}
use Rattle.finite_sets.proofs.Lists.{Contains-none}
use Rattle.first_walk.specs.Place.{AreFrom}
use Rattle.first_walk.specs.Going.{IsGivenFrom, IsGivenTo, AreTo}

-- the place lies before what was listed
abbrev pub IsEarlier : Option NodeKey → (end : ℕ) → Type 0
IsEarlier o end = (first : NodeKey) → o ≡ Some first → end < first.end

module _ (w : Grammar) (ranking : Ranking) (r : Recognizer) where
  abbrev IsHere : (end : ℕ) → Placed → Type 0
  IsHere end p = IsGivenIn w ranking r p × (p.place ≡ end)

  not_here : (o : Option NodeKey) (end : ℕ) → IsEarlier o end → (p : Placed) → IsGivenTo w ranking r o p → IsHere end p → ⊥
  not_here None end before p h here = h
  not_here (Some first) end before p (h, le) (h', e) = let lt = before first refl in absurd (omega arith)

  to_from_on : (o : Option NodeKey) (end : ℕ) → IsEarlier o end → (p : Placed) → IsGivenTo w ranking r o p → IsGivenFrom w ranking r end p
  to_from_on None end before p h = absurd h
  to_from_on (Some first) end before p (h, le) = let lt = before first refl in (h, omega arith)

  -- at one place more
  pub more_given : (o : Option NodeKey) (end : ℕ) → IsEarlier o end → (start k l : ℕ) → RisesWithin (IsGivenTo w ranking r o) start k → RisesWithin (IsGivenAt w ranking r end) k l → RisesWithin (IsGivenFrom w ranking r end) start l
  more_given o end before start k l (a, some, e) (b, more, e') = (
    a + b,
    at_least_both (IsGivenTo w ranking r o) (IsHere end) (IsGivenFrom w ranking r end) (not_here o end before) (to_from_on o end before) (λ p (h, q). (h, omega arith)) a b some
        (at_least_placed end (IsGivenAt w ranking r end) (IsHere end) (λ item h. (h, refl)) b more),
    omega arith,
  )

  pub from_all : (end start k : ℕ) → RisesWithin (IsGivenFrom w ranking r end) start k → RisesWithin (IsGivenIn w ranking r) start k
  from_all end start k h = rises_of (IsGivenFrom w ranking r end) (IsGivenIn w ranking r) start k (λ p (h, le). h) h

  -- at the same place
  pub to_from : (o : Option NodeKey) (first : NodeKey) (end : ℕ) → o ≡ Some first → end ≡ first.end → (start k : ℕ) → RisesWithin (IsGivenTo w ranking r o) start k → RisesWithin (IsGivenFrom w ranking r end) start k
  to_from o first end e same start k h =
      subst (λ n. RisesWithin (IsGivenFrom w ranking r n) start k) (sym same) (subst (λ z. RisesWithin (IsGivenTo w ranking r z) start k) e h)

  pub from_to : (o : Option NodeKey) (first : NodeKey) (end : ℕ) → o ≡ Some first → end ≡ first.end → (start k : ℕ) → RisesWithin (IsGivenFrom w ranking r end) start k → RisesWithin (IsGivenTo w ranking r o) start k
  from_to o first end e same start k h =
      subst (λ z. RisesWithin (IsGivenTo w ranking r z) start k) (sym e) (subst (λ n. RisesWithin (IsGivenFrom w ranking r n) start k) same h)

  -- at all places
  pub all_given : (o : Option NodeKey) (start k : ℕ) → RisesWithin (IsGivenTo w ranking r o) start k → RisesWithin (IsGivenIn w ranking r) start k
  all_given o start k h = rises_of (IsGivenTo w ranking r o) (IsGivenIn w ranking r) start k (to_all o) h
    where
      to_all : (o : Option NodeKey) (p : Placed) → IsGivenTo w ranking r o p → IsGivenIn w ranking r p
      to_all None p h = absurd h
      to_all (Some first) p (h, le) = h

-- what was given lies after the place
pub to_later : (o : Option NodeKey) (given : List GivenAt) (end : ℕ) → AreTo o given → IsEarlier o end → (e : GivenAt) → Contains given e → end < e.place
to_later None given end to before e h = absurd (Contains-none e (subst (λ l. Contains l e) to h))
to_later (Some first) given end to before e h = let lt = before first refl in let le = to e h in omega arith

-- or at the same one
pub to_same : (o : Option NodeKey) (first : NodeKey) (given : List GivenAt) (end : ℕ) → o ≡ Some first → end ≡ first.end → AreTo o given → AreFrom end given
to_same o first given end e same to =
    subst (λ n. AreFrom n given) (sym same) (subst (λ z. AreTo z given) e to)

pub from_same : (o : Option NodeKey) (first : NodeKey) (given : List GivenAt) (end : ℕ) → o ≡ Some first → end ≡ first.end → AreFrom end given → AreTo o given
from_same o first given end e same from =
    subst (λ z. AreTo z given) (sym e) (subst (λ n. AreFrom n given) same from)
