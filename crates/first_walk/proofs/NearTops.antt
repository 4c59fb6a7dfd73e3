-- A topmost item of which the first node of a place asks.
use Rattle.std.proofs.Common.{◌≡◌, ◌⊎◌, inr, ℕ, ◌∷◌, [], List, Contains, subst}
use Rattle.grammar_model.specs.declared.Ranking.{Ranking}
use Rattle.grammar_model.specs.Grammar.{Grammar}
use Rattle.recognizer_model.specs.declared.Item.{Item}
use Rattle.recognizer_model.specs.declared.NodeKey.{NodeKey}
use Rattle.recognizer_model.specs.Below.{node_of}
use Rattle.recognizer_model.specs.Items.{IsWhole}
use Rattle.recognizer_model.specs.Flat.{lhs_of}
use Rattle.recognizer_model.specs.Leo.{LeadsTo, IsLeo}
use Rattle.earley_sets.specs.Recognizer.{Recognizer, edges_of, top_of}
use Rattle.earley_sets.specs.Below.{StepsTo, LeadsUp}
use Rattle.earley_sets.proofs.Membership.{Contains-first}
use Rattle.finite_sets.proofs.Lists.{Contains-none}
use Rattle.forest_parts.specs.Needed.{AreTops}
use Rattle.forest_parts.specs.Unasked.{IsAskedFor, IsTopmostFrom, IsOutranked, IsAwaiting, Met, Over}

-- no single step leads on from it
pub top_last : (r : Recognizer) (end : ℕ) (item top : Item) → LeadsUp r end item top → (step : Item) → ¬ StepsTo r end top step
top_last r end item top (lt, leads) step (before, (leo, is, e)) = go leads leo is
  where
    go : {i x : ℕ} {t : Item} → LeadsTo r.flat (edges_of r) (top_of r) i x t → (leo : Item) → ¬ IsLeo r.flat (edges_of r) (top_of r) t.origin (lhs_of r.flat t.rule) leo
    go (LeadsTo.Last is none) leo h = none leo h
    go (LeadsTo.On is more) leo h = go more leo h

pub met : (first : NodeKey) (item : Item) → first ≡ node_of item first.end → Contains (first ∷ []) (node_of item first.end)
met first item e = subst (Contains (first ∷ [])) e (Contains-first first [])

-- what all of them are told to be
module _ (r : Recognizer) (end least : ℕ) (tops bottoms : List Item) (are : AreTops r [] end least tops bottoms) where
  pub leads_of : (top : Item) → Contains tops top → (item : Item) × LeadsUp r end item top
  leads_of top h = let (item, kept, (up, may)) = (are.tops top).0 h in (item, up)

  pub told_near : (w : Grammar) (ranking : Ranking) (keys : List NodeKey) → ((top : Item) → Contains tops top → IsAskedFor w ranking r keys end top) →
      (top : Item) → IsTopmostFrom r end least top → Contains [] top ⊎ IsAskedFor w ranking r keys end top
  told_near w ranking keys asked top ((item, (kept, full, lt, leads)), late) = inr (asked top ((are.tops top).1 (item, (kept, full), ((lt, leads), (late, Contains-none top)))))

-- one whose parent is the first node
pub asked_over : (w : Grammar) (ranking : Ranking) (r : Recognizer) (first : NodeKey) (top : Item) → ((item : Item) → ¬ IsOutranked w ranking r first.end item) → IsWhole r.flat top → ((step : Item) → ¬ StepsTo r first.end top step) →
    (other : Item) → IsAwaiting r top other → first ≡ node_of other first.end → IsAskedFor w ranking r (first ∷ []) first.end top
asked_over w ranking r first top never full last other waits e = Over (inr (full, (never top, inr (last, waits)))) (Met (met first other e))
