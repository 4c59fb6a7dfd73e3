-- Reduced sets over the edges of a list, and at a grammar with a chain of two pairs.
use Rattle.std.proofs.Common.{◌≡◌, ◌⊎◌, inl, inr, ℕ, zero, suc, ◌<◌, ◌≤◌, List, [], ◌∷◌, Some, slice_get, refl, sym, ◌∙◌, ap, subst, arith, lit<}
use Rattle.grammar_model.specs.declared.Edge.{Edge}
use Rattle.grammar_model.specs.Derives.{Edges, Held}
use Rattle.recognizer_model.specs.declared.Item.{Item}
use Rattle.recognizer_model.specs.declared.flat.FlatSymbol.TheVariants.{Terminal}
use Rattle.recognizer_model.specs.Flat.{FlatGrammar, IsRule, IsNullable, lhs_of, part_of}
use Rattle.recognizer_model.specs.FlatForm.{FlatEdges}
use Rattle.recognizer_model.specs.Items.{after, first_item, advanced, InSet}
use Rattle.recognizer_model.specs.Contexts.{IsTop}
use Rattle.recognizer_model.specs.Leo.{IsLeo, IsNotLeo, LeadsTo, InReduced, InExpanded, IsHidden, GoesForward, LeoIsKnown}
use Rattle.recognizer_model.proofs.Leo.{origin_below, keeps_waiting, expands_to_all}
use Rattle.recognizer_model.proofs.Once.{known_by_sets}
use Rattle.grammar_laws.specs.Laws.{GoForward}
use Rattle.grammar_laws.specs.Reduced.{Agree, ReducedSetsAgree, chain, one_token, ReducedSetsApply}
use Rattle.grammar_laws.proofs.ItemSets.{item_sets_exist, flat_forward}

pub reduced_sets_agree : ReducedSetsAgree
reduced_sets_agree g edges top place is_top forward =
    let goes = flat_forward g (Held edges) forward in
    let known = known_by_sets g (FlatEdges g (Held edges)) top place (λ i lt. let (xs, is) = item_sets_exist g edges top i forward in (xs, is.exact)) in
    record {
      known = known;
      keeps = keeps_waiting g (FlatEdges g (Held edges)) top is_top goes place known;
      expands = expands_to_all g (FlatEdges g (Held edges)) top is_top goes place known;
    }

-- ---- A ::= a, S ::= A, and the top of S

abbrev pub E : Edges
E = FlatEdges chain (Held one_token)

pub parts : (P : (r position x : ℕ) → Type 0) → P 0 0 0 → P 1 0 1 → P 2 0 2 → (r position x : ℕ) → part_of chain r position ≡ Some x → P r position x
parts P a b c zero zero x e = let h : 0 ≡ x = cc in subst (P 0 0) h a
parts P a b c zero (suc k) x e = absurd (cc)
parts P a b c (suc zero) zero x e = let h : 1 ≡ x = cc in subst (P 1 0) h b
parts P a b c (suc zero) (suc k) x e = absurd (cc)
parts P a b c (suc (suc zero)) zero x e = let h : 2 ≡ x = cc in subst (P 2 0) h c
parts P a b c (suc (suc zero)) (suc k) x e = absurd (cc)
parts P a b c (suc (suc (suc r))) k x e = absurd (cc)

pub none_nullable : (x : ℕ) → IsNullable chain x → ⊥
none_nullable zero e = absurd (cc)
none_nullable (suc zero) e = absurd (cc)
none_nullable (suc (suc zero)) e = absurd (cc)
none_nullable (suc (suc (suc zero))) e = absurd (cc)
none_nullable (suc (suc (suc (suc x)))) e = absurd (cc)

pub is_top : IsTop chain 2
is_top = record { is_rule = lit< tt; alone = alone; outermost = λ r position e. parts (λ r position x. x ≡ 3 → ⊥) (λ h. omega arith) (λ h. omega arith) (λ h. omega arith) r position 3 e refl }
  where
    alone : (r : ℕ) → IsRule chain r → lhs_of chain r ≡ 3 → r ≡ 2
    alone zero lt e = absurd (omega arith)
    alone (suc zero) lt e = absurd (omega arith)
    alone (suc (suc zero)) lt e = refl
    alone (suc (suc (suc r))) lt e = absurd (omega arith)

forward : GoForward (Held one_token)
forward s p q (zero, lt, e) = subst (λ (t : Edge). t.from < t.to) e (lit< tt)
forward s p q (suc k, lt, e) = absurd (omega arith)

pub goes : GoesForward E
goes = flat_forward chain (Held one_token) forward

-- the only item of the first set that waits for the left side of an inner rule
one_waits : (r : ℕ) (item : Item) → InSet chain E 2 0 item → after chain item ≡ Some r → (item.rule ≡ r) × (item.dot ≡ 0) → item ≡ first_item r 0
one_waits r item s e (same, start) = let le = origin_below chain E 2 is_top goes s in let here : item.origin ≡ 0 = omega arith in λ i. record { rule = same i; dot = start i; origin = here i }

waits_in : (r : ℕ) (item : Item) → after chain item ≡ Some r → (item.rule ≡ r) × (item.dot ≡ 0)
waits_in r item e = parts (λ rule dot x. (rule ≡ x) × (dot ≡ 0)) (refl, refl) (refl, refl) (refl, refl) item.rule item.dot r e

pub begun_s : InSet chain E 2 0 (first_item 1 0)
begun_s = InSet.Predict {x = 2} {r = 1} InSet.Start refl (lit< tt) refl

pub first_pair : IsLeo chain E 2 0 1 (first_item 1 0)
first_pair = record { inside = begun_s; waits = refl; last = refl; only = λ o s e. one_waits 1 o s e (waits_in 1 o e) }

pub second_pair : IsLeo chain E 2 0 2 (first_item 2 0)
second_pair = record { inside = InSet.Start; waits = refl; last = refl; only = λ o s e. one_waits 2 o s e (waits_in 2 o e) }

pub none_above : IsNotLeo chain E 2 0 3
none_above item leo = is_top.outermost item.rule item.dot leo.waits

pub leads : LeadsTo chain E 2 0 1 (advanced (first_item 2 0))
leads = LeadsTo.On {item = first_item 1 0} first_pair (LeadsTo.Last {item = first_item 2 0} second_pair none_above)

pub ended_a : InReduced chain E 2 1 (advanced (first_item 0 0))
ended_a =
    InReduced.Scan {i = 0} {j = 1} {x = 0} {item = first_item 0 0}
    (InReduced.Predict {x = 1} {r = 0} (InReduced.Predict {x = 2} {r = 1} InReduced.Start refl (lit< tt) refl) refl (lit< tt) refl) refl (0, refl, (0, lit< tt, refl))

pub ended_top : InReduced chain E 2 1 (advanced (first_item 2 0))
ended_top = InReduced.Leap {whole = advanced (first_item 0 0)} ended_a refl (lit< tt) leads

-- from the first set every chain ends at the top
ends_at_top : {i x : ℕ} {t : Item} → LeadsTo chain E 2 i x t → i ≡ 0 → t.rule ≡ 2
ends_at_top (LeadsTo.Last {i = i} {x = x} {item = item} leo none) here =
    let le = origin_below chain E 2 is_top goes leo.inside in
    let first : item.origin ≡ 0 = omega arith in
    parts (λ rule dot x. IsNotLeo chain E 2 0 (lhs_of chain rule) → rule ≡ 2) (λ n. absurd (n (first_item 1 0) first_pair)) (λ n. absurd (n (first_item 2 0) second_pair)) (λ n. refl)
    item.rule item.dot x leo.waits (subst (λ k. IsNotLeo chain E 2 k (lhs_of chain item.rule)) first none)
ends_at_top (LeadsTo.On {item = item} leo more) here =
    let le = origin_below chain E 2 is_top goes leo.inside in ends_at_top more (omega arith)

not_kept : {j : ℕ} {item : Item} → InReduced chain E 2 j item → j ≡ 1 → item.rule ≡ 1 → item.dot ≡ 1 → ⊥
not_kept InReduced.Start p r d = omega arith
not_kept (InReduced.Predict i e rule l) p r d = omega arith
not_kept (InReduced.Skip {x = x} i e n) p r d = none_nullable x n
not_kept (InReduced.Scan {x = x} {item = item} i e (t, is, held)) p r d =
    let x_is : x ≡ 1 = parts (λ rule dot x. rule ≡ 1 → x ≡ 1) (λ h. absurd (omega arith)) (λ h. refl) (λ h. absurd (omega arith)) item.rule item.dot x e r in
    no_terminal t (subst (λ z. slice_get chain.symbols z ≡ Some (Terminal t)) x_is is)
  where
    no_terminal : (t : ℕ) → slice_get chain.symbols 1 ≡ Some (Terminal t) → ⊥
    no_terminal t is = absurd (cc)
not_kept (InReduced.Complete {j = j} {whole = w} {item = item} c whole lt none i e) p r d =
    let x_is : lhs_of chain w.rule ≡ 1 = parts (λ rule dot x. rule ≡ 1 → x ≡ 1) (λ h. absurd (omega arith)) (λ h. refl) (λ h. absurd (omega arith)) item.rule item.dot (lhs_of chain w.rule) e r in
    let first : w.origin ≡ 0 = omega arith in
    none (first_item 1 0) (subst (λ k. IsLeo chain (FlatEdges chain (Held one_token)) 2 k (lhs_of chain w.rule) (first_item 1 0)) (sym first) (subst (λ x. IsLeo chain (FlatEdges chain (Held one_token)) 2 0 x (first_item 1 0)) (sym x_is) first_pair))
not_kept (InReduced.Leap {j = j} {whole = w} c whole lt leads) p r d =
    let first : w.origin ≡ 0 = omega arith in let top = ends_at_top leads first in omega arith

hidden : IsHidden chain E 2 1 (advanced (first_item 1 0))
hidden = (InExpanded.Step {whole = advanced (first_item 0 0)} {item = first_item 1 0} (InExpanded.Kept ended_a) refl (lit< tt) first_pair, λ k. not_kept k refl refl refl)

pub reduced_sets_apply : ReducedSetsApply
reduced_sets_apply = record { first_pair = first_pair; second_pair = second_pair; leads = leads; kept = ended_top; hidden = hidden; agree = reduced_sets_agree chain one_token 2 1 is_top forward }
