-- Lists that grow by what has a property.
use Rattle.std.proofs.Common.{◌≡◌, ℕ, ◌<◌, ◌≤◌, ◌+◌, ◌++◌, ◌⊎◌, inl, inr, ◌↔◌, Contains, List, [], ◌∷◌, length, slice_get, Some, None, sym, ◌∙◌, ap, subst, arith}
use Rattle.std.proofs.lemmas.Bool.{cases_lt}
use Rattle.std.proofs.lemmas.List.Elements.{Contains-append_left, Contains-push, Contains-push_cases}
use Rattle.finite_sets.proofs.Lists.{got_item, got_at}
use Rattle.earley_sets.proofs.Membership.{found_at}
use Rattle.grammar_model.specs.declared.Edge.{Edge as HeldEdge}
use Rattle.grammar_model.specs.declared.Ranking.{Ranking}
use Rattle.grammar_model.specs.Grammar.{Grammar}
use Rattle.recognizer_model.specs.declared.Item.{Item}
use Rattle.recognizer_model.specs.declared.flat.FlatSymbol.TheVariants.{Terminal}
use Rattle.recognizer_model.specs.Flat.{FlatGrammar}
use Rattle.recognizer_model.specs.Invariant.{IsFlat}
use Rattle.forest_parts.specs.declared.parts.Part.{Part}
use Rattle.forest_parts.specs.Parts.{IsEdgeOf, IsWholeOf}

module _ {X : Type 0} where
  abbrev pub Gains : (X → Type 0) → (old new : List X) → Type 0
  Gains Q old new = (x : X) → Contains new x ↔ (Contains old x ⊎ Q x)

  pub gains_none : (Q : X → Type 0) (old : List X) → ((x : X) → Q x → ⊥) → Gains Q old old
  gains_none Q old never x = (λ h. inl h, λ h. elim h [ inl o ↦ o | inr q ↦ absurd (never x q) ])

  pub gains_push : (Q : X → Type 0) (old new : List X) (v : X) → new ≡ old ++ v ∷ [] → ((x : X) → Q x ↔ (x ≡ v)) → Gains Q old new
  gains_push Q old new v e is x = (
    λ h. elim (Contains-push_cases old v x (subst (λ l. Contains l x) e h)) [ inl o ↦ inl o | inr s ↦ inr ((is x).1 (sym s)) ],
    λ h. subst (λ l. Contains l x) (sym e) (elim h [ inl o ↦ Contains-append_left old (v ∷ []) x o | inr q ↦ subst (Contains (old ++ v ∷ [])) (sym ((is x).0 q)) (Contains-push old v) ]),
  )

  pub gains_then : (Q R S : X → Type 0) (old mid new : List X) → Gains Q old mid → Gains R mid new → ((x : X) → S x ↔ (Q x ⊎ R x)) → Gains S old new
  gains_then Q R S old mid new q r s x = (
    λ h. elim ((r x).0 h) [ inl m ↦ elim ((q x).0 m) [ inl o ↦ inl o | inr y ↦ inr ((s x).1 (inl y)) ] | inr y ↦ inr ((s x).1 (inr y)) ],
    λ h. elim h [ inl o ↦ (r x).1 (inl ((q x).1 (inl o))) | inr y ↦ elim ((s x).0 y) [ inl z ↦ (r x).1 (inl ((q x).1 (inr z))) | inr z ↦ (r x).1 (inr z) ] ],
  )

  pub gains_same : (Q R : X → Type 0) (old new : List X) → Gains Q old new → ((x : X) → Q x ↔ R x) → Gains R old new
  gains_same Q R old new q s x = (
    λ h. elim ((q x).0 h) [ inl o ↦ inl o | inr y ↦ inr ((s x).0 y) ],
    λ h. elim h [ inl o ↦ (q x).1 (inl o) | inr y ↦ (q x).1 (inr ((s x).1 y)) ],
  )

  -- by what the first k of another list bring
  module _ {Y : Type 0} (R : Y → X → Type 0) (ys : List Y) where
    abbrev pub ByFirst : ℕ → X → Type 0
    ByFirst k x = (i : ℕ) × (y : Y) × (i < k) × (slice_get ys i ≡ Some y) × R y x

    pub first_none : (old : List X) → Gains (ByFirst 0) old old
    first_none old = gains_none (ByFirst 0) old (λ x (i, y, lt, is, rel). absurd (omega arith))

    pub first_more : (k : ℕ) (old mid new : List X) (y : Y) → Gains (ByFirst k) old mid → slice_get ys k ≡ Some y → Gains (R y) mid new → Gains (ByFirst (k + 1)) old new
    first_more k old mid new y q at r = gains_then (ByFirst k) (R y) (ByFirst (k + 1)) old mid new q r (λ x. (there x, back x))
      where
        there : (x : X) → ByFirst (k + 1) x → ByFirst k x ⊎ R y x
        there x (i, z, lt, is, rel) = elim (cases_lt i k) [
          | inl l ↦ inl (i, z, l, is, rel)
          | inr ge ↦ let same : i ≡ k = omega arith in let one : Some z ≡ Some y = sym is ∙ ap (slice_get ys) same ∙ at in let e : z ≡ y = cc in inr (subst (λ v. R v x) e rel)
        ]

        back : (x : X) → ByFirst k x ⊎ R y x → ByFirst (k + 1) x
        back x (inl (i, z, lt, is, rel)) = (i, z, omega arith, is, rel)
        back x (inr rel) = (k, y, omega arith, at, rel)

    pub first_all : (k : ℕ) (old new : List X) → Gains (ByFirst k) old new → length ys ≤ k → Gains (λ x. (y : Y) × Contains ys y × R y x) old new
    first_all k old new q le = gains_same (ByFirst k) (λ x. (y : Y) × Contains ys y × R y x) old new q (λ x. (
      λ (i, y, lt, is, rel). (y, got_item ys i y (sym is), rel),
      λ (y, h, rel). let (i, is) = found_at ys y h in let (lt, e) = got_at ys i y y (sym is) in (i, y, omega arith, is, rel),
    ))

  -- by what the numbers below bring
  module _ (R : ℕ → X → Type 0) where
    abbrev pub ByBelow : ℕ → X → Type 0
    ByBelow k x = (i : ℕ) × (i < k) × R i x

    pub below_none : (old : List X) → Gains (ByBelow 0) old old
    below_none old = gains_none (ByBelow 0) old (λ x (i, lt, rest). absurd (omega arith))

    pub below_more : (k : ℕ) (old mid new : List X) → Gains (ByBelow k) old mid → Gains (R k) mid new → Gains (ByBelow (k + 1)) old new
    below_more k old mid new q r = gains_then (ByBelow k) (R k) (ByBelow (k + 1)) old mid new q r (λ x. (there x, back x))
      where
        there : (x : X) → ByBelow (k + 1) x → ByBelow k x ⊎ R k x
        there x (i, lt, rel) = elim (cases_lt i k) [
          | inl l ↦ inl (i, l, rel)
          | inr ge ↦ let same : i ≡ k = omega arith in inr (subst (λ v. R v x) same rel)
        ]

        back : (x : X) → ByBelow k x ⊎ R k x → ByBelow (k + 1) x
        back x (inl (i, lt, rel)) = (i, omega arith, rel)
        back x (inr rel) = (k, omega arith, rel)

abbrev pub no_edge : HeldEdge
no_edge = record { symbol = 0; from = 0; to = 0 }

abbrev pub no_item : Item
no_item = record { rule = 0; dot = 0; origin = 0 }

-- the part of an edge goes in
pub gains_edge : (g : FlatGrammar) (least symbol : ℕ) (e : HeldEdge) (v : Part) (old new : List Part) → IsFlat g → least ≤ e.from → slice_get g.symbols symbol ≡ Some (Terminal e.symbol) →
    v.end ≡ e.to → v.symbol ≡ symbol → e.from + v.length ≡ e.to → v.whole ≡ None → new ≡ old ++ v ∷ [] → Gains (λ p. (least ≤ e.from) × IsEdgeOf g e p) old new
gains_edge g least symbol e v old new flat le is to same from none grown =
    gains_push (λ p. (least ≤ e.from) × IsEdgeOf g e p) old new v grown (λ p. (
      λ (l, r). (
          let s : p.symbol ≡ v.symbol = flat.differ p.symbol symbol (Terminal e.symbol) r.symbol is ∙ sym same in
          let a : p.end ≡ v.end = r.end ∙ sym to in
          let n : p.length ≡ v.length = (let x = r.start in let y = r.end in omega arith) in
          let w : p.whole ≡ v.whole = r.whole ∙ sym none in
          λ i. record { end = a i; symbol = s i; length = n i; whole = w i }
          ),
      λ q. (le, subst (IsEdgeOf g e) (sym q) (record { symbol = subst (λ x. slice_get g.symbols x ≡ Some (Terminal e.symbol)) (sym same) is; end = to; start = from ∙ sym to; whole = none })),
    ))

-- the part of a whole rule goes in
pub gains_whole : (w : Grammar) (ranking : Ranking) (g : FlatGrammar) (end least : ℕ) (item : Item) (v : Part) (old new : List Part) → least ≤ item.origin → IsWholeOf w ranking g end item v → new ≡ old ++ v ∷ [] →
    Gains (λ p. (least ≤ item.origin) × IsWholeOf w ranking g end item p) old new
gains_whole w ranking g end least item v old new le is grown =
    gains_push (λ p. (least ≤ item.origin) × IsWholeOf w ranking g end item p) old new v grown (λ p. (
      λ (l, r). (
          let a : p.end ≡ v.end = r.end ∙ sym is.end in
          let s : p.symbol ≡ v.symbol = r.symbol ∙ sym is.symbol in
          let n : p.length ≡ v.length = (let x = r.start in let y = is.start in omega arith) in
          let o : p.whole ≡ v.whole = r.whole ∙ sym is.whole in
          λ i. record { end = a i; symbol = s i; length = n i; whole = o i }
          ),
      λ q. (le, subst (IsWholeOf w ranking g end item) (sym q) is),
    ))
