-- The least origins of nodes by the places where they end, and the hidden items that begin no earlier.
use Rattle.std.proofs.Common.{◌≡◌, ◌≢◌, inl, inr, ◌↔◌, ℕ, ◌+◌, ◌<◌, ◌++◌, ◌∷◌, [], List, Option, Some, None, Contains, slice_get, refl, sym, ◌∙◌, ap, subst, arith}
use Rattle.std.proofs.lemmas.Bool.{cases_lt}
use Rattle.std.proofs.lemmas.List.Elements.{Contains-append_left, Contains-push, Contains-push_cases}
use Rattle.recognizer_model.specs.declared.Item.{Item}
use Rattle.recognizer_model.specs.declared.NodeKey.{NodeKey}
use Rattle.recognizer_model.specs.Counts.{IsCountOf}
use Rattle.recognizer_model.specs.Nodes.{Placed}
use Rattle.earley_sets.specs.Recognizer.{Recognizer}
use Rattle.forest_parts.specs.Hidden.{IsHiddenFrom, RisesBy}
use Rattle.forest_parts.specs.Counts.{IsLowest, IsLeast, AreLeast, IsHiddenAt, IsHiddenBy}
use Rattle.forest_parts.proofs.Counting.{none_counted, count_of, count_both, count_placed}

-- one node more
module _ (keys : List NodeKey) (key : NodeKey) where
  same_end : (o : Option ℕ) (v : ℕ) → IsLeast keys key.end o → IsLowest o key.origin v → IsLeast (keys ++ key ∷ []) key.end (Some v)
  same_end None v none is = (
    (key, Contains-push keys key, refl, sym is),
    λ k h e. elim (Contains-push_cases keys key k h) [ inl old ↦ absurd (none k old e) | inr same ↦ (let q = ap (λ (z : NodeKey). z.origin) same in omega arith) ],
  )
  same_end (Some o) v ((k, h, e, q), low) (a, b, either) = (
    elim either [ inl same ↦ (k, Contains-append_left keys (key ∷ []) k h, e, q ∙ sym same) | inr same ↦ (key, Contains-push keys key, refl, sym same) ],
    λ k' h' e'. elim (Contains-push_cases keys key k' h') [
      | inl old ↦ (let l = low k' old e' in omega arith)
      | inr same ↦ (let s = ap (λ (z : NodeKey). z.origin) same in omega arith)
    ],
  )

  other_end : (end : ℕ) (o : Option ℕ) → end ≢ key.end → IsLeast keys end o → IsLeast (keys ++ key ∷ []) end o
  other_end end None differ none = λ k h e. elim (Contains-push_cases keys key k h) [ inl old ↦ none k old e | inr same ↦ differ (sym e ∙ ap (λ (z : NodeKey). z.end) (sym same)) ]
  other_end end (Some o) differ ((k, h, e, q), low) = (
    (k, Contains-append_left keys (key ∷ []) k h, e, q),
    λ k' h' e'. elim (Contains-push_cases keys key k' h') [ inl old ↦ low k' old e' | inr same ↦ absurd (differ (sym e' ∙ ap (λ (z : NodeKey). z.end) (sym same))) ],
  )

  pub lowered : (least least' : List (Option ℕ)) (o : Option ℕ) (v : ℕ) → AreLeast keys least → slice_get least key.end ≡ Some o → IsLowest o key.origin v →
      ((n : ℕ) (x : Option ℕ) → n ≢ key.end → slice_get least' n ≡ Some x → slice_get least n ≡ Some x) → slice_get least' key.end ≡ Some (Some v) → AreLeast (keys ++ key ∷ []) least'
  lowered least least' o v are at is other set end x e = elim (cases_lt end key.end) [
    | inl lt ↦ (let differ : end ≢ key.end = (λ q. (let z : end ≡ key.end = q in absurd (omega arith))) in other_end end x differ (are end x (other end x differ e)))
    | inr ge ↦ elim (cases_lt key.end end) [
      | inl gt ↦ (let differ : end ≢ key.end = (λ q. (let z : end ≡ key.end = q in absurd (omega arith))) in other_end end x differ (are end x (other end x differ e)))
      | inr le ↦
          let same : end ≡ key.end = omega arith in
          let one : Some (Some v) ≡ Some x = sym set ∙ ap (slice_get least') (sym same) ∙ e in
          let z : Some v ≡ x = cc in
          subst (λ n. IsLeast (keys ++ key ∷ []) n x) (sym same) (subst (λ y. IsLeast (keys ++ key ∷ []) key.end y) z (same_end o v (are key.end o at) is))
    ]
  ]

abbrev pub IsHiddenBelow : Recognizer → List NodeKey → ℕ → Placed → Type 0
IsHiddenBelow r keys n p = (p.place < n) × IsHiddenBy r keys p

-- at one place
module _ (r : Recognizer) (keys : List NodeKey) (end : ℕ) where
  pub hidden_here : (origin : ℕ) → IsLeast keys end (Some origin) → (item : Item) → IsHiddenFrom r end origin item ↔ IsHiddenAt r keys end item
  hidden_here origin ((k, h, e, q), low) item = (
    λ (hidden, le). (hidden, (k, h, e, (let z = q in omega arith))),
    λ (hidden, (k', h', e', le)). (hidden, (let l = low k' h' e' in omega arith)),
  )

  pub none_here : IsLeast keys end None → (item : Item) → IsHiddenAt r keys end item → ⊥
  none_here none item (hidden, (k, h, e, le)) = none k h e

  -- and at the places before it
  abbrev At : Placed → Type 0
  At p = (p.place ≡ end) × IsHiddenBy r keys p

  pub count_next : (k l : ℕ) → IsCountOf (IsHiddenBelow r keys end) k → RisesBy (IsHiddenAt r keys end) k l → IsCountOf (IsHiddenBelow r keys (end + 1)) l
  count_next k l below (n, here, e) =
      subst (λ z. IsCountOf (IsHiddenBelow r keys (end + 1)) z) (sym e)
      (count_both (IsHiddenBelow r keys end) At (IsHiddenBelow r keys (end + 1)) (λ p (lt, h) (e', h'). absurd (omega arith)) (λ p (lt, h). (omega arith, h)) (λ p (e', h). (omega arith, h)) k n
      (λ p (lt, h). elim (cases_lt p.place end) [ inl less ↦ inl (less, h) | inr ge ↦ inr (omega arith, h) ])
      below
      (count_placed end (IsHiddenAt r keys end) At (λ item h. (refl, h)) n (λ p (e', h). (e', subst (λ z. IsHiddenAt r keys z p.item) e' h)) here))

-- at no place, and at all
module _ (r : Recognizer) (keys : List NodeKey) where
  pub count_no_place : IsCountOf (IsHiddenBelow r keys 0) 0
  count_no_place = none_counted (IsHiddenBelow r keys 0) (λ p (lt, h). absurd (omega arith))

  pub count_all_places : (places n : ℕ) → ((key : NodeKey) → Contains keys key → key.end < places) → IsCountOf (IsHiddenBelow r keys places) n → IsCountOf (IsHiddenBy r keys) n
  count_all_places places n inside all =
      count_of (IsHiddenBelow r keys places) (IsHiddenBy r keys) n (λ p. ((λ (lt, h). h), (λ h. (let (hidden, (k, there, e, le)) = h in let lt = inside k there in omega arith, h)))) all
