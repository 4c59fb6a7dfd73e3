-- The numbers of one token, read by a chain of rules: what its sets keep, what its nodes are, and what is left out.
use Rattle.std.proofs.Common.{arith, ◌≡◌, inl, inr, ℕ, zero, suc, ◌+◌, ◌*◌, ◌<◌, ◌≤◌, List, [], ◌∷◌, length, Some, slice_get, refl, sym, ◌∙◌, ap, subst, lit<}
use Rattle.grammar_model.specs.declared.Edge.{Edge}
use Rattle.grammar_model.specs.Trees.{Tree, Children, Leaf, Nulled, Node, NoChild, Child}
use Rattle.recognizer_model.specs.declared.Item.{Item}
use Rattle.recognizer_model.specs.declared.NodeKey.{NodeKey}
use Rattle.recognizer_model.specs.declared.flat.FlatSymbol.TheVariants.{Terminal}
use Rattle.recognizer_model.specs.Flat.{IsRule, lhs_of, rhs_of}
use Rattle.recognizer_model.specs.FlatDerives.{Derives, Spans, Token, Rule, More, Nothing}
use Rattle.recognizer_model.specs.Acceptable.{OnlyTerminals, NoTerminalHasRules}
use Rattle.recognizer_model.specs.Items.{after, first_item, advanced, InSet}
use Rattle.recognizer_model.specs.Counts.{IsListOf}
use Rattle.recognizer_model.specs.Leo.{IsNotLeo, LeadsTo, InReduced, InExpanded, IsHidden}
use Rattle.recognizer_model.specs.Chosen.{AreAllowed, AreAllowedIn, LeavesSome}
use Rattle.recognizer_model.specs.Nodes.{Has, All, Inside, IsUsed, IsMet, Whole, Before, Last, Placed, IsExpanded}
use Rattle.recognizer_model.proofs.Leo.{reduced_inside, expanded_inside}
use Rattle.recognizer_model.proofs.Nodes.{used_are_met}
use Rattle.finite_sets.proofs.Members.{Among, Once}
use Rattle.grammar_laws.specs.Reduced.{chain}
use Rattle.number_laws.specs.Applied.{any_rule, NumbersApply}
use Rattle.recognizer_model.proofs.Counting.{list_is}
use Rattle.grammar_laws.proofs.Reduced.{parts, none_nullable, is_top, goes, first_pair, second_pair, leads, ended_a, ended_top, E}

-- elements with numbers that rise are each there once
abbrev Rises : {X : Type 0} → (X → ℕ) → ℕ → List X → Type 0
Rises number least [] = Unit {0}
Rises number least (x ∷ xs) = (least ≤ number x) × Rises number (suc (number x)) xs

not_below : {X : Type 0} (number : X → ℕ) (least : ℕ) (xs : List X) (x : X) → Rises number least xs → Among x xs → least ≤ number x
not_below number least [] x h m = absurd m
not_below number least (y ∷ ys) x (le, h) (inl e) = let same = ap number e in omega (arith, le, same)
not_below number least (y ∷ ys) x (le, h) (inr m) = let more = not_below number (suc (number y)) ys x h m in omega (arith, le, more)

once_rising : {X : Type 0} (number : X → ℕ) (least : ℕ) (xs : List X) → Rises number least xs → Once xs
once_rising number least [] h = tt
once_rising number least (x ∷ xs) (le, h) = ((λ m. let lt = not_below number (suc (number x)) xs x h m in absurd (omega (arith, lt))), once_rising number (suc (number x)) xs h)

waits_in : (item : Item) (x : ℕ) → after chain item ≡ Some x → (item.rule ≡ x) × (item.dot ≡ 0) × (x < 3)
waits_in item x e = parts (λ rule dot y. (rule ≡ y) × (dot ≡ 0) × (y < 3)) (refl, refl, lit< tt) (refl, refl, lit< tt) (refl, refl, lit< tt) item.rule item.dot x e

-- a rule's left side is one more than its number, and it has one part
rule_by : (P : ℕ → Type 0) → P 0 → P 1 → P 2 → (r : ℕ) → IsRule chain r → P r
rule_by P a b c zero lt = a
rule_by P a b c (suc zero) lt = b
rule_by P a b c (suc (suc zero)) lt = c
rule_by P a b c (suc (suc (suc r))) lt = absurd (omega (arith, lt))

left_is : (r : ℕ) → IsRule chain r → (lhs_of chain r ≡ suc r) × (length (rhs_of chain r) ≡ 1)
left_is r rule = rule_by (λ r. (lhs_of chain r ≡ suc r) × (length (rhs_of chain r) ≡ 1)) (refl, refl) (refl, refl) (refl, refl) r rule

-- the only edge
edge_is : (x p q : ℕ) → E x p q → (x ≡ 0) × (p ≡ 0) × (q ≡ 1)
edge_is x p q (t, is, (zero, lt, e)) =
    let terminal : 0 ≡ t = ap (λ (u : Edge). u.symbol) e in
    let from : 0 ≡ p = ap (λ (u : Edge). u.from) e in
    let to : 1 ≡ q = ap (λ (u : Edge). u.to) e in
    (symbol_is x t is, sym from, sym to)
  where
    symbol_is : (x t : ℕ) → slice_get chain.symbols x ≡ Some (Terminal t) → x ≡ 0
    symbol_is zero t is = refl
    symbol_is (suc zero) t is = absurd (cc)
    symbol_is (suc (suc zero)) t is = absurd (cc)
    symbol_is (suc (suc (suc zero))) t is = absurd (cc)
    symbol_is (suc (suc (suc (suc x)))) t is = absurd (cc)
edge_is x p q (t, is, (suc k, lt, e)) = absurd (omega (arith, lt))

only : OnlyTerminals chain E
only x p q e = (e.0, e.1)

no_rules : NoTerminalHasRules chain
no_rules r rule (t, is) = rule_by (λ r. slice_get chain.symbols (lhs_of chain r) ≡ Some (Terminal t) → ⊥) (λ e. absurd (cc)) (λ e. absurd (cc)) (λ e. absurd (cc)) r rule is

-- ---- the sets

-- before the token each rule is begun, after it each is ended
record IsAt (j : ℕ) (item : Item) : Type 0 where
  rule : IsRule chain item.rule
  dot : item.dot ≡ j
  origin : item.origin ≡ 0
  place : j ≤ 1

at : {j : ℕ} {item : Item} → InSet chain E 2 j item → IsAt j item
at InSet.Start = record { rule = lit< tt; dot = refl; origin = refl; place = omega arith }
at (InSet.Predict {x = x} {item = item} i e rule l) =
    let here = at i in
    let start = (waits_in item x e).1 in
    let dot = here.dot in
    let place = here.place in
    record { rule = rule; dot = omega (arith, start, dot); origin = omega (arith, start, dot); place = place }
at (InSet.Skip {x = x} i e n) = absurd (none_nullable x n)
at (InSet.Scan {i = i} {j = j} {x = x} {item = item} s e t) =
    let here = at s in
    let (symbol, from, to) = edge_is x i j t in
    let start = (waits_in item x e).1 in
    record { rule = here.rule; dot = omega (arith, start, to); origin = here.origin; place = omega (arith, to) }
at (InSet.Complete {j = j} {item = item} c w lt i e) =
    let here = at i in
    let ended = at c in
    let start = (waits_in item _ e).1 in
    let place = ended.place in
    let origin = ended.origin in
    record { rule = here.rule; dot = omega (arith, start, lt, place, origin); origin = here.origin; place = place }

-- one item for each rule and place
abbrev item_at : (place rule : ℕ) → Item
item_at j r = record { rule = r; dot = j; origin = 0 }

item_is : {j : ℕ} {item : Item} → IsAt j item → item_at j item.rule ≡ item
item_is {item = item} here = let dot = here.dot in let origin = here.origin in λ i. record { rule = item.rule; dot = sym dot i; origin = sym origin i }

-- ---- Leo items

-- every chain ends at the top
ends_at_top : {i x : ℕ} {t : Item} → LeadsTo chain E 2 i x t → t.rule ≡ 2
ends_at_top (LeadsTo.Last {item = item} leo none) =
    let here = at leo.inside in
    rule_by (λ r. IsNotLeo chain E 2 0 (lhs_of chain r) → r ≡ 2) (λ n. absurd (n (first_item 1 0) first_pair)) (λ n. absurd (n (first_item 2 0) second_pair)) (λ n. refl)
    item.rule here.rule (subst (λ k. IsNotLeo chain E 2 k (lhs_of chain item.rule)) here.origin none)
ends_at_top (LeadsTo.On leo more) = ends_at_top more

-- ---- what is kept

kept_top : InReduced chain E 2 0 (first_item 2 0)
kept_top = InReduced.Start

kept_s : InReduced chain E 2 0 (first_item 1 0)
kept_s = InReduced.Predict {x = 2} {r = 1} kept_top refl (lit< tt) refl

kept_a : InReduced chain E 2 0 (first_item 0 0)
kept_a = InReduced.Predict {x = 1} {r = 0} kept_s refl (lit< tt) refl

not_kept : {j : ℕ} {item : Item} → InReduced chain E 2 j item → j ≡ 1 → item.rule ≡ 1 → ⊥
not_kept InReduced.Start p r = omega (arith, p)
not_kept (InReduced.Predict {x = x} {item = item} i e rule l) p r =
    let dot = (at (reduced_inside chain E 2 is_top goes i)).dot in
    let start = (waits_in item x e).1 in
    omega (arith, dot, start, p)
not_kept (InReduced.Skip {x = x} i e n) p r = none_nullable x n
not_kept (InReduced.Scan {i = i} {j = j} {x = x} {item = item} s e t) p r =
    let (symbol, from, to) = edge_is x i j t in
    let same = (waits_in item x e).0 in
    omega (arith, symbol, same, r)
not_kept (InReduced.Complete {j = j} {whole = w} {item = item} c whole lt none i e) p r =
    let same = (waits_in item (lhs_of chain w.rule) e).0 in
    let first : w.origin ≡ 0 = omega (arith, lt, p) in
    let left : lhs_of chain w.rule ≡ 1 = sym same ∙ r in
    subst (λ k. IsNotLeo chain E 2 k 1) first (subst (λ x. IsNotLeo chain E 2 w.origin x) left none) (first_item 1 0) first_pair
not_kept (InReduced.Leap c whole lt leads) p r = let top = ends_at_top leads in omega (arith, top, r)

abbrev placed : (place rule : ℕ) → Placed
placed j r = record { place = j; item = item_at j r }

placed_is : (p : Placed) → IsAt p.place p.item → placed p.place p.item.rule ≡ p
placed_is p here = let same = item_is here in λ i. record { place = p.place; item = same i }

abbrev kept : List Placed
kept = placed 0 0 ∷ placed 0 1 ∷ placed 0 2 ∷ placed 1 0 ∷ placed 1 2 ∷ []

abbrev IsKeptAt : Placed → Type 0
IsKeptAt p = (p.place ≤ 1) × InReduced chain E 2 p.place p.item

among_kept : (j r : ℕ) → j ≤ 1 → r < 3 → (j ≡ 1 → r ≡ 1 → ⊥) → Among (placed j r) kept
among_kept zero zero le lt other = inl refl
among_kept zero (suc zero) le lt other = inr (inl refl)
among_kept zero (suc (suc zero)) le lt other = inr (inr (inl refl))
among_kept zero (suc (suc (suc r))) le lt other = absurd (omega (arith, lt))
among_kept (suc zero) zero le lt other = inr (inr (inr (inl refl)))
among_kept (suc zero) (suc zero) le lt other = absurd (other refl refl)
among_kept (suc zero) (suc (suc zero)) le lt other = inr (inr (inr (inr (inl refl))))
among_kept (suc zero) (suc (suc (suc r))) le lt other = absurd (omega (arith, lt))
among_kept (suc (suc j)) r le lt other = absurd (omega (arith, le))

to_kept : (p : Placed) → IsKeptAt p → Among p kept
to_kept p (le, k) =
    let here = at (reduced_inside chain E 2 is_top goes k) in
    subst (λ z. Among z kept) (placed_is p here) (among_kept p.place p.item.rule le here.rule (not_kept k))

from_kept : (p : Placed) → Among p kept → IsKeptAt p
from_kept p (inl e) = subst IsKeptAt e (omega arith, kept_a)
from_kept p (inr (inl e)) = subst IsKeptAt e (omega arith, kept_s)
from_kept p (inr (inr (inl e))) = subst IsKeptAt e (omega arith, kept_top)
from_kept p (inr (inr (inr (inl e)))) = subst IsKeptAt e (omega arith, ended_a)
from_kept p (inr (inr (inr (inr (inl e))))) = subst IsKeptAt e (omega arith, ended_top)
from_kept p (inr (inr (inr (inr (inr m))))) = absurd m

kept_are : IsListOf IsKeptAt kept
kept_are = list_is IsKeptAt kept
    (once_rising (λ p. 3 * p.place + p.item.rule) 0 kept (omega arith, (omega arith, (omega arith, (omega arith, (omega arith, tt)))))) from_kept to_kept

-- ---- the nodes

-- each rule has one over the token
abbrev node_of : ℕ → NodeKey
node_of r = record { rule = r; dot = 1; origin = 0; end = 1 }

abbrev nodes : List NodeKey
nodes = node_of 0 ∷ node_of 1 ∷ node_of 2 ∷ []

mutual
  any_tree : (t : Tree) → AreAllowed any_rule t
  any_tree (Leaf x p q) = tt
  any_tree (Nulled x p) = tt
  any_tree (Node r cs p q) = (tt, any_prefix cs)

  any_prefix : (cs : Children) → AreAllowedIn any_rule cs
  any_prefix NoChild = tt
  any_prefix (Child prefix last) = (any_prefix prefix, any_tree last)

leaves : LeavesSome chain E any_rule
leaves x p q t d = (t, d, any_tree t)

abbrev Used : NodeKey → Type 0
Used = IsUsed chain E any_rule 2 1

record IsOver (r p q : ℕ) : Type 0 where
  rule : r < 3
  origin : p ≡ 0
  end : q ≡ 1

nothing_before : {r d p q : ℕ} {cs : Children} → Spans chain E r d p q cs → d ≡ 0 → q ≡ p
nothing_before Nothing e = refl
nothing_before (More s a t) e = absurd (omega (arith, e))

met_over : {r d p q : ℕ} → IsMet chain E any_rule 2 1 r d p q → 0 < d → IsOver r p q × (d ≡ 1)
met_over (Whole some s) lt = (record { rule = lit< tt; origin = refl; end = refl }, refl)
met_over (Before m s e t) lt = let above = (met_over m (omega arith)).1 in absurd (omega (arith, above, lt))
met_over (Last {r' = r'} {p = p} {m = m} met s e rule lt' s' allowed) lt =
    let (over, one) = met_over met (omega arith) in
    let begin = nothing_before s (omega (arith, one)) in
    (record { rule = rule; origin = begin ∙ over.origin; end = over.end }, (left_is r' rule).1)

node_is : (n : NodeKey) → IsOver n.rule n.origin n.end → n.dot ≡ 1 → node_of n.rule ≡ n
node_is n over dot = let origin = over.origin in let end = over.end in λ i. record { rule = n.rule; dot = sym dot i; origin = sym origin i; end = sym end i }

among_nodes : (r : ℕ) → r < 3 → Among (node_of r) nodes
among_nodes zero lt = inl refl
among_nodes (suc zero) lt = inr (inl refl)
among_nodes (suc (suc zero)) lt = inr (inr (inl refl))
among_nodes (suc (suc (suc r))) lt = absurd (omega (arith, lt))

to_nodes : (n : NodeKey) → Used n → Among n nodes
to_nodes n u =
    let (some, met) = (used_are_met chain E any_rule 2 is_top only no_rules leaves 1 n).0 u in
    let (over, one) = met_over met some in
    subst (λ z. Among z nodes) (node_is n over one) (among_nodes n.rule over.rule)

abbrev tree_a : Tree
tree_a = Node 0 (Child NoChild (Leaf 0 0 1)) 0 1

abbrev tree_s : Tree
tree_s = Node 1 (Child NoChild tree_a) 0 1

abbrev tree : Tree
tree = Node 2 (Child NoChild tree_s) 0 1

derives : Derives chain E 3 0 1 tree
derives = Rule {r = 2} (lit< tt) refl (lit< tt) (More Nothing refl (Rule {r = 1} (lit< tt) refl (lit< tt) (More Nothing refl (Rule {r = 0} (lit< tt) refl (lit< tt) (More Nothing refl (Token (0, refl, (0, lit< tt, refl))))))))

use_of : (n : NodeKey) (t : Tree) → Has tree n.rule n.origin n.end (Child NoChild t) → n.dot ≡ 1 → Used n
use_of n t has one = record { tree = tree; derives = derives; chosen = any_tree tree; children = Child NoChild t; has = has; dot_is = one; some = omega (arith, one) }

from_nodes : (n : NodeKey) → Among n nodes → Used n
from_nodes n (inl e) = subst Used e (use_of (node_of 0) (Leaf 0 0 1) (Inside (Inside All)) refl)
from_nodes n (inr (inl e)) = subst Used e (use_of (node_of 1) tree_a (Inside All) refl)
from_nodes n (inr (inr (inl e))) = subst Used e (use_of (node_of 2) tree_s All refl)
from_nodes n (inr (inr (inr m))) = absurd m

nodes_are : IsListOf Used nodes
nodes_are = list_is Used nodes (once_rising (λ n. n.rule) 0 nodes (omega arith, (omega arith, (omega arith, tt)))) from_nodes to_nodes

-- ---- what the sets leave out

abbrev left_out : List Placed
left_out = placed 1 1 ∷ []

abbrev Expanded : Placed → Type 0
Expanded = IsExpanded chain E any_rule 2 1

hidden : IsHidden chain E 2 1 (item_at 1 1)
hidden = (InExpanded.Step {whole = advanced (first_item 0 0)} {item = first_item 1 0} (InExpanded.Kept ended_a) refl (lit< tt) first_pair, λ k. not_kept k refl refl)

from_left : (p : Placed) → Among p left_out → Expanded p
from_left p (inl e) = subst Expanded e (hidden, (node_of 0, from_nodes (node_of 0) (inl refl), refl, omega arith))
from_left p (inr m) = absurd m

-- the end of the rule in the middle alone is not kept
to_left : (p : Placed) → Expanded p → Among p left_out
to_left p (h, (n, u, end, le)) =
    let here = at (expanded_inside chain E 2 is_top goes h.0) in
    let (some, met) = (used_are_met chain E any_rule 2 is_top only no_rules leaves 1 n).0 u in
    let over = (met_over met some).0 in
    let place : p.place ≡ 1 = sym end ∙ over.end in
    rule_by (λ r. placed 1 r ≡ p → Among p left_out) (λ e. absurd (kept_too e ended_a)) (λ e. inl e) (λ e. absurd (kept_too e ended_top)) p.item.rule here.rule
    ((λ i. placed (sym place i) p.item.rule) ∙ placed_is p here)
  where
    kept_too : {r : ℕ} → placed 1 r ≡ p → InReduced chain E 2 1 (item_at 1 r) → ⊥
    kept_too e k = h.1 (subst (λ z. InReduced chain E 2 z.place z.item) e k)

left_are : IsListOf Expanded left_out
left_are = list_is Expanded left_out (once_rising (λ p. p.place) 0 left_out (omega arith, tt)) from_left to_left

pub numbers_apply : NumbersApply
numbers_apply = record { places = refl; kept_items = (kept, kept_are, refl); used_nodes = (nodes, nodes_are, refl); hidden_items = (left_out, left_are, refl) }
