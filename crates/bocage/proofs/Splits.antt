-- What the sets of a recognizer say of derivations.
use Rattle.std.proofs.Common.{◌≡◌, ℕ, ◌<◌, ◌≤◌, ◌↔◌, Contains, Some, length, refl, arith}
use Rattle.grammar_model.specs.Trees.{Tree, Children}
use Rattle.recognizer_model.specs.declared.Item.{Item}
use Rattle.recognizer_model.specs.declared.NodeKey.{NodeKey}
use Rattle.recognizer_model.specs.Flat.{IsRule, lhs_of, rhs_of}
use Rattle.recognizer_model.specs.FlatDerives.{Derives, Token, Null, Rule, Spans, Nothing, More}
use Rattle.recognizer_model.specs.Contexts.{IsFound, MayStand, AtStart, Next}
use Rattle.recognizer_model.specs.Chosen.{Allowed, allowed_by}
use Rattle.recognizer_model.specs.Nodes.{IsMet, Whole, Before, Last}
use Rattle.recognizer_model.proofs.Nodes.{used_are_met}
use Rattle.grammar_model.specs.declared.Ranking.{Ranking}
use Rattle.grammar_model.specs.Grammar.{Grammar}
use Rattle.bocage.specs.declared.walk.Known.{Known}
use Rattle.bocage.specs.Walk.{IsRead, IsUsedIn, Knows}
use Rattle.recognizer_model.proofs.Leaving.{leaves_some}
use Rattle.earley_sets.specs.Recognizer.{Recognizer, IsRecognizer, earleme_of, set_at, edges_of, top_of}
use Rattle.earley_sets.proofs.Recognizing.{only}
use Rattle.forest_parts.proofs.Sets.{at_top, waits_exact, spans_within, in_full}
use Rattle.recognizer_model.specs.Items.{after}

module _ (r : Recognizer) (is : IsRecognizer r) where
  -- an item that waits is kept exactly where it was found
  pub waits_in : (j : ℕ) (item : Item) (x : ℕ) → j ≤ earleme_of r → after r.flat item ≡ Some x → Contains (set_at r j) item ↔ IsFound r.flat (edges_of r) (top_of r) j item
  waits_in j item x le e =
      let a = waits_exact r is j item x le e in
      let b = in_full r is j item in
      ((λ h. b.0 (a.0 h)), (λ f. a.1 (b.1 f)))

  -- what is met may stand where it begins
  pub met_stands : {allowed : Allowed} {rule d p q : ℕ} → IsMet r.flat (edges_of r) allowed (top_of r) (earleme_of r) rule d p q → IsRule r.flat rule × MayStand r.flat (edges_of r) (top_of r) (lhs_of r.flat rule) p
  met_stands (Whole lt s) = ((at_top r is).is_rule, AtStart refl)
  met_stands (Before m s e t) = met_stands m
  met_stands (Last m s e rule lt s' best) = let (rule', stands) = met_stands m in (rule, Next stands rule' refl s e)

  mutual
    pub derives_forward : {x p q : ℕ} {t : Tree} → Derives r.flat (edges_of r) x p q t → p ≤ q
    derives_forward (Token {x = x} {p = p} {q = q} (t, e, h)) = let f = is.forward (record { symbol = t; from = p; to = q }) h in omega arith
    derives_forward (Null n) = omega arith
    derives_forward (Rule rule l lt s) = omega arith

    pub spans_forward : {x d p q : ℕ} {cs : Children} → Spans r.flat (edges_of r) x d p q cs → p ≤ q
    spans_forward Nothing = omega arith
    spans_forward (More s e t) = let a = spans_forward s in let b = derives_forward t in omega arith

  -- what is met lies inside
  pub met_within : {allowed : Allowed} {rule d p q : ℕ} → IsMet r.flat (edges_of r) allowed (top_of r) (earleme_of r) rule d p q → (d ≤ length (rhs_of r.flat rule)) × (p ≤ q) × (q ≤ earleme_of r)
  met_within (Whole lt s) = (spans_within s, spans_forward s, omega arith)
  met_within (Before m s e t) = let w = met_within m in let b = derives_forward t in (spans_within s, spans_forward s, (let x = w.2 in omega arith))
  met_within (Last m s e rule lt s' best) = let w = met_within m in (spans_within s', spans_forward s', w.2)

-- where a used node lies
pub record IsKeyWithin (r : Recognizer) (n : NodeKey) : Type 0 where
  pub some : 0 < n.dot
  pub is_rule : IsRule r.flat n.rule
  pub stands : MayStand r.flat (edges_of r) (top_of r) (lhs_of r.flat n.rule) n.origin
  pub parts : n.dot ≤ length (rhs_of r.flat n.rule)
  pub forward : n.origin ≤ n.end
  pub inside : n.end ≤ earleme_of r

-- the reading of what is known
abbrev pub read_of : (k : Known) → Knows k → IsRead k.written.now k.recce.now
read_of k knows = record { checked = knows.checked; flat_of = knows.flat_of; is = knows.is }

module _ (w : Grammar) (ranking : Ranking) (r : Recognizer) (read : IsRead w r) where
  pub used_met : (n : NodeKey) → IsUsedIn w ranking r n ↔ ((0 < n.dot) × IsMet r.flat (edges_of r) (allowed_by w ranking r.flat (edges_of r)) (top_of r) (earleme_of r) n.rule n.dot n.origin n.end)
  used_met n =
      used_are_met r.flat (edges_of r) (allowed_by w ranking r.flat (edges_of r)) (top_of r) (at_top r read.is) (only r.flat r.edges read.is.flat read.is.forward) read.is.flat.no_rules (leaves_some r.flat w read.is.flat r.edges (λ s p q h. read.is.forward (record { symbol = s; from = p; to = q }) h) ranking)
      (earleme_of r) n

  pub used_within : (n : NodeKey) → IsUsedIn w ranking r n → IsKeyWithin r n
  used_within n u =
      let (lt, m) = (used_met n).0 u in
      let inside = met_within r read.is m in
      let (rule, stands) = met_stands r read.is m in
      record { some = lt; is_rule = rule; stands = stands; parts = inside.0; forward = inside.1; inside = inside.2 }
