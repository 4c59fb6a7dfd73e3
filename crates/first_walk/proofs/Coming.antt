-- A walk comes to a node: what ends where that does was listed, or it is the first one there.
use Rattle.std.proofs.Common.{◌≡◌, inl, inr, ◌<◌, List, Option, Some, None, refl, ap, subst, arith}
use Rattle.std.proofs.lemmas.Bool.{cases_lt}
use Rattle.grammar_model.specs.declared.Ranking.{Ranking}
use Rattle.grammar_model.specs.Grammar.{Grammar}
use Rattle.recognizer_model.specs.declared.NodeKey.{NodeKey}
use Rattle.earley_sets.specs.Recognizer.{Recognizer}
use Rattle.forest_parts.specs.declared.parts.Part.{Part}
use Rattle.bocage.specs.Walk.{IsRead, IsUsedIn}
use Rattle.first_walk.specs.Place.{IsListedIn, IsAt, IsUnder, HaveLast}
use Rattle.first_walk.specs.Going.{IsAhead}
use Rattle.first_walk.proofs.Counts.{IsEarlier}
use Rattle.first_walk.proofs.Listing.{have_last}
use Rattle.first_walk.proofs.Under.{waits_under, top_under}

module _ (w : Grammar) (ranking : Ranking) (r : Recognizer) (read : IsRead w r) (key : NodeKey) where
  -- it lies before what was listed, if that was not its place
  pub comes_earlier : (o : Option NodeKey) → IsAhead w ranking r o key → (((first : NodeKey) × (o ≡ Some first) × (key.end ≡ first.end)) → ⊥) → IsEarlier o key.end
  comes_earlier None ahead other first e = (let no : None ≡ Some first = e in absurd (cc))
  comes_earlier (Some f) (le, ends, waits) other first e =
      let one : Some f ≡ Some first = e in
      let same : f ≡ first = cc in
      let end = ap (λ (z : NodeKey). z.end) same in
      elim (cases_lt key.end f.end) [ inl lt ↦ omega arith | inr ge ↦ absurd (other (f, refl, omega arith)) ]

  -- then it is the first one there
  pub first_under : (o : Option NodeKey) → IsAhead w ranking r o key → IsEarlier o key.end → IsUnder w ranking r key key
  first_under None (some, e) before = top_under w ranking r read key e
  first_under (Some f) (le, ends, waits) before = waits_under w ranking r read key (waits (before f refl))

  -- and else it is asked for by the first one
  pub later_under : (o : Option NodeKey) → IsAhead w ranking r o key → key.origin < key.end → ((first : NodeKey) × (o ≡ Some first) × (key.end ≡ first.end)) → IsAt w ranking r o key
  later_under o ahead spans (first, e, same) =
      let (le, ends, waits) = subst (λ z. IsAhead w ranking r z key) e ahead in
      (first, e, ends same spans)

  -- what was listed has all that may be its last part
  pub last_at : IsUsedIn w ranking r key → (o : Option NodeKey) (parts : List Part) → IsListedIn w ranking r o parts → IsAt w ranking r o key → HaveLast w ranking r key parts
  last_at used o parts listed (first, e, under) =
      have_last w ranking r read first key parts (subst (λ z. IsListedIn w ranking r z parts) e listed) under used
