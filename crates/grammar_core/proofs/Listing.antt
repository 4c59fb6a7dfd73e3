-- The edges that end at a place: those of length one, and all.
use Rattle.std.proofs.Common.{◌≡◌, ◌≢◌, ℕ, ◌+◌, ◌-◌, ◌<◌, ◌≤◌, ◌++◌, ◌↔◌, ◌⊎◌, inl, inr, List, [], ◌∷◌, length, Some, Contains, slice_get, refl, sym, ap, ◌∙◌, subst, arith}
use Rattle.std.specs.Prelude.{AllPairs}
use Rattle.std.proofs.lemmas.Bool.{cases_lt}
use Rattle.std.proofs.lemmas.List.Elements.{Contains-append_left, Contains-push, Contains-push_cases}
use Rattle.finite_sets.proofs.Lists.{get_index}
use Rattle.grammar_model.specs.declared.Edge.{Edge as HeldEdge}
use Rattle.grammar_core.specs.declared.edges.Edge.{Edge}
use Rattle.grammar_core.specs.Edges.{placed, all_placed, ArePlaced, IsShortTo}
use Rattle.grammar_core.proofs.Placed.{found_at, at_found, placed_bounds}
use Rattle.grammar_core.proofs.Chains.{push_once}

pub none_there : (l : List HeldEdge) → l ≡ [] → (e : HeldEdge) → ¬ Contains l e
none_there l none e h = nothing (subst (λ l. Contains l e) none h)
  where
    nothing : Contains [] e → ⊥
    nothing (k, lt, s) = omega arith

pub none_once : (l : List HeldEdge) → l ≡ [] → AllPairs (λ a b. a ≢ b) l
none_once l none = subst (AllPairs (λ a b. a ≢ b)) (sym none) (λ i j d lt end. absurd (omega arith))

module _ (begun : List Edge) (place : ℕ) (start : List HeldEdge) where
  pub record IsShortBelow (k : ℕ) (e : HeldEdge) : Type 0 where
    pub number : ℕ
    pub below : number < k
    pub edge : Edge
    pub at : slice_get begun number ≡ Some edge
    pub one : edge.length ≡ 1
    pub is : e ≡ placed (place - 1) edge

  -- those of the first k are listed after what the list held
  abbrev pub AreShortTo : List HeldEdge → ℕ → Type 0
  AreShortTo out k = (e : HeldEdge) → Contains out e ↔ (Contains start e ⊎ IsShortBelow k e)

  pub no_short : AreShortTo start 0
  no_short e = (
    λ h. inl h,
    λ h. elim h [
      | inl s ↦ s
      | inr b ↦ (let lt = b.below in absurd (omega arith))
    ],
  )

  wider : (k : ℕ) (e : HeldEdge) → IsShortBelow k e → IsShortBelow (k + 1) e
  wider k e b = record { number = b.number; below = (let lt = b.below in omega arith); edge = b.edge; at = b.at; one = b.one; is = b.is }

  pub one_short : (out new : List HeldEdge) (k : ℕ) (x : Edge) → slice_get begun k ≡ Some x → x.length ≡ 1 → AreShortTo out k → new ≡ out ++ placed (place - 1) x ∷ [] → AreShortTo new (k + 1)
  one_short out new k x at one listed is e = subst (λ l. Contains l e ↔ (Contains start e ⊎ IsShortBelow (k + 1) e)) (sym is) (
    λ h. elim (Contains-push_cases out (placed (place - 1) x) e h) [
      | inl o ↦ elim ((listed e).0 o) [
        | inl s ↦ inl s
        | inr b ↦ inr (wider k e b)
      ]
      | inr s ↦ inr (record { number = k; below = omega arith; edge = x; at = at; one = one; is = sym s })
    ],
    λ h. elim h [
      | inl s ↦ Contains-append_left out (placed (place - 1) x ∷ []) e ((listed e).1 (inl s))
      | inr b ↦ elim (cases_lt b.number k) [
        | inl lt ↦ Contains-append_left out (placed (place - 1) x ∷ []) e ((listed e).1 (inr (record { number = b.number; below = lt; edge = b.edge; at = b.at; one = b.one; is = b.is })))
        | inr ge ↦
            let lt = b.below in
            let here : b.number ≡ k = omega arith in
            let both : Some b.edge ≡ Some x = sym b.at ∙ (ap (slice_get begun) here ∙ at) in
            let same : x ≡ b.edge = cc in
            subst (Contains (out ++ placed (place - 1) x ∷ [])) (ap (placed (place - 1)) same ∙ sym b.is) (Contains-push out (placed (place - 1) x))
      ]
    ],
  )

  -- two of the begun edges that have one symbol and one length are one
  pub one_short_once : (out new : List HeldEdge) (k : ℕ) (x : Edge) → AllPairs (λ a b. a ≢ b) begun → ((e : HeldEdge) → Contains start e → ¬ IsShortTo begun place e) → slice_get begun k ≡ Some x → x.length ≡ 1 →
      AreShortTo out k → new ≡ out ++ placed (place - 1) x ∷ [] → AllPairs (λ a b. a ≢ b) out → AllPairs (λ a b. a ≢ b) new
  one_short_once out new k x differ apart at one listed is once = subst (AllPairs (λ a b. a ≢ b)) (sym is) (push_once out (placed (place - 1) x) once fresh)
    where
      fresh : Contains out (placed (place - 1) x) → ⊥
      fresh h = elim ((listed (placed (place - 1) x)).0 h) [
        | inl s ↦ apart (placed (place - 1) x) s (x, at_found begun k x at, one, refl)
        | inr b ↦
            let symbol : x.symbol ≡ b.edge.symbol = ap (λ (z : HeldEdge). z.symbol) b.is in
            let size : x.length ≡ b.edge.length = one ∙ sym b.one in
            let edge : x ≡ b.edge = λ i. record { symbol = symbol i; length = size i } in
            let (lt, here) = get_index begun k x x at in
            let (low, there) = get_index begun b.number x b.edge b.at in
            differ b.number k x b.below lt (there ∙ sym (here ∙ edge))
      ]

  pub no_more_short : (out : List HeldEdge) (k : ℕ) (x : Edge) → slice_get begun k ≡ Some x → (x.length ≡ 1 → ⊥) → AreShortTo out k → AreShortTo out (k + 1)
  no_more_short out k x at long listed e = (
    λ h. elim ((listed e).0 h) [
      | inl s ↦ inl s
      | inr b ↦ inr (wider k e b)
    ],
    λ h. elim h [
      | inl s ↦ (listed e).1 (inl s)
      | inr b ↦ elim (cases_lt b.number k) [
        | inl lt ↦ (listed e).1 (inr (record { number = b.number; below = lt; edge = b.edge; at = b.at; one = b.one; is = b.is }))
        | inr ge ↦
            let lt = b.below in
            let here : b.number ≡ k = omega arith in
            let both : Some b.edge ≡ Some x = sym b.at ∙ (ap (slice_get begun) here ∙ at) in
            let same : b.edge ≡ x = cc in
            absurd (long (subst (λ (z : Edge). z.length ≡ 1) same b.one))
      ]
    ],
  )

  pub all_short : (out : List HeldEdge) (k : ℕ) → length begun ≤ k → AreShortTo out k → (e : HeldEdge) → Contains out e ↔ (Contains start e ⊎ IsShortTo begun place e)
  all_short out k end listed e = (
    λ h. elim ((listed e).0 h) [
      | inl s ↦ inl s
      | inr b ↦ inr (b.edge, at_found begun b.number b.edge b.at, b.one, b.is)
    ],
    λ h. elim h [
      | inl s ↦ (listed e).1 (inl s)
      | inr (x, there, one, is) ↦
          let (n, at) = found_at begun x there in
          let (lt, s) = get_index begun n x x at in
          (listed e).1 (inr (record { number = n; below = omega arith; edge = x; at = at; one = one; is = is }))
    ],
  )

-- an edge is as long as one place or longer, so that all that end at a place are listed
module _ (places : List ℕ) (edges : List Edge) (long : List HeldEdge) (are : ArePlaced places edges long) (place : ℕ) where
  -- where the list then has what it had and all long edges to the place
  pub listed_first : (out new : List HeldEdge) → place ≡ 0 → out ≡ [] → ((e : HeldEdge) → Contains new e ↔ (Contains out e ⊎ (Contains long e × (e.to ≡ place)))) →
      (e : HeldEdge) → Contains new e ↔ (Contains (all_placed places edges) e × (e.to ≡ place))
  listed_first out new first none is e = (
    λ h. elim ((is e).0 h) [
      | inl s ↦ absurd (nothing (subst (λ l. Contains l e) none s))
      | inr (l, ends) ↦ (((are.long e).0 l).0, ends)
    ],
    λ (c, ends). (let (some, short) = placed_bounds places edges long are e c in absurd (omega arith)),
  )
    where
      nothing : Contains [] e → ⊥
      nothing (k, lt, s) = omega arith

  -- those of length one are no longer ones
  pub short_apart : (begun : List Edge) (out mid : List HeldEdge) → out ≡ [] → ((e : HeldEdge) → Contains mid e ↔ (Contains out e ⊎ IsShortTo begun place e)) → (e : HeldEdge) → Contains mid e → ¬ Contains long e
  short_apart begun out mid none one e m l = elim ((one e).0 m) [
    | inl s ↦ none_there out none e s
    | inr (x, there, size, is) ↦
        let (c, lt) = (are.long e).0 l in
        let from : e.from ≡ place - 1 = ap (λ (z : HeldEdge). z.from) is in
        let to : e.to ≡ (place - 1) + x.length = ap (λ (z : HeldEdge). z.to) is in
        let far : e.from + 1 < e.to = lt in
        absurd (omega arith)
  ]

  pub listed_all : (begun : List Edge) (out mid new : List HeldEdge) → 0 < place → out ≡ [] →
      ((e : Edge) → Contains begun e ↔ Contains (all_placed places edges) (placed (place - 1) e)) →
      ((e : HeldEdge) → Contains mid e ↔ (Contains out e ⊎ IsShortTo begun place e)) →
      ((e : HeldEdge) → Contains new e ↔ (Contains mid e ⊎ (Contains long e × (e.to ≡ place)))) →
      (e : HeldEdge) → Contains new e ↔ (Contains (all_placed places edges) e × (e.to ≡ place))
  listed_all begun out mid new behind none at one all e = (
    λ h. elim ((all e).0 h) [
      | inl m ↦ elim ((one e).0 m) [
        | inl s ↦ absurd (nothing (subst (λ l. Contains l e) none s))
        | inr (x, there, size, is) ↦ (
          subst (Contains (all_placed places edges)) (sym is) ((at x).0 there),
          (let to : e.to ≡ (place - 1) + x.length = ap (λ (z : HeldEdge). z.to) is in omega arith),
        )
      ]
      | inr (l, ends) ↦ (((are.long e).0 l).0, ends)
    ],
    λ (c, ends).
        let (some, short) = placed_bounds places edges long are e c in
        elim (cases_lt (e.from + 1) e.to) [
          | inl lt ↦ (all e).1 (inr ((are.long e).1 (c, lt), ends))
          | inr ge ↦
              let x : Edge = record { symbol = e.symbol; length = 1 } in
              let from : e.from ≡ place - 1 = omega arith in
              let to : e.to ≡ (place - 1) + 1 = omega arith in
              let same : e ≡ placed (place - 1) x = λ i. record { symbol = e.symbol; from = from i; to = to i } in
              (all e).1 (inl ((one e).1 (inr (x, (at x).1 (subst (Contains (all_placed places edges)) same c), refl, same))))
        ],
  )
    where
      nothing : Contains [] e → ⊥
      nothing (k, lt, s) = omega arith
