-- Long edges in their chains: one more, and the way down a chain.
use Rattle.std.proofs.Common.{◌≡◌, ◌≢◌, ℕ, zero, suc, ◌+◌, ◌<◌, ◌≤◌, ◌++◌, ◌↔◌, ◌⊎◌, inl, inr, false, List, [], ◌∷◌, length, Option, None, Some, Contains, slice_get, refl, sym, ap, ◌∙◌, subst, arith, length-append}
use Rattle.std.specs.Prelude.{nat_eq, AllPairs}
use Rattle.std.proofs.lemmas.Bool.{cases_eq, cases_lt, ne_eqb}
use Rattle.std.proofs.lemmas.List.Elements.{Contains-append_left, Contains-push, Contains-push_cases}
use Rattle.std.proofs.lemmas.List.Quantifiers.{all_pairs_push}
use Rattle.std.proofs.lemmas.List.{get_or_default}
use Rattle.finite_sets.proofs.Lists.{get_index}
use Rattle.grammar_model.specs.declared.Edge.{Edge as HeldEdge}
use Rattle.grammar_core.specs.declared.long.LongEdge.{LongEdge}
use Rattle.grammar_core.specs.Long.{all_held, IsLastTo, IsNewest, AreChained}
use Rattle.grammar_core.proofs.Placed.{found_at, at_found}

-- what stands in a list that one more was pushed on
module _ {A : Type 0} where
  more_left : (xs : List A) (y : A) (k : ℕ) (x : A) → slice_get xs k ≡ Some x → slice_get (xs ++ y ∷ []) k ≡ Some x
  more_left [] y k x e = absurd (cc)
  more_left (z ∷ xs) y zero x e = e
  more_left (z ∷ xs) y (suc k) x e = more_left xs y k x e

  more_last : (xs : List A) (y : A) → slice_get (xs ++ y ∷ []) (length xs) ≡ Some y
  more_last [] y = refl
  more_last (z ∷ xs) y = more_last xs y

  more_cases : (xs : List A) (y : A) (k : ℕ) (x : A) → slice_get (xs ++ y ∷ []) k ≡ Some x → (slice_get xs k ≡ Some x) ⊎ ((k ≡ length xs) × (y ≡ x))
  more_cases [] y zero x e = inr (refl, cc)
  more_cases [] y (suc k) x e = absurd (cc)
  more_cases (z ∷ xs) y zero x e = inl e
  more_cases (z ∷ xs) y (suc k) x e = elim (more_cases xs y k x e) [
    | inl a ↦ inl a
    | inr (a, b) ↦ inr (ap suc a, b)
  ]

pub held_at : (edges : List LongEdge) (k : ℕ) (x : LongEdge) → slice_get edges k ≡ Some x → slice_get (all_held edges) k ≡ Some x.edge
held_at [] k x e = absurd (cc)
held_at (y ∷ ys) zero x e = let same : y ≡ x = cc in ap (λ (z : LongEdge). Some z.edge) same
held_at (y ∷ ys) (suc k) x e = held_at ys k x e

pub at_held : (edges : List LongEdge) (k : ℕ) (h : HeldEdge) → slice_get (all_held edges) k ≡ Some h → (x : LongEdge) × (slice_get edges k ≡ Some x) × (x.edge ≡ h)
at_held [] k h e = absurd (cc)
at_held (y ∷ ys) zero h e = (y, refl, cc)
at_held (y ∷ ys) (suc k) h e = at_held ys k h e

held_more : (edges : List LongEdge) (y : LongEdge) → all_held (edges ++ y ∷ []) ≡ all_held edges ++ y.edge ∷ []
held_more [] y = refl
held_more (x ∷ xs) y = ap (λ l. x.edge ∷ l) (held_more xs y)

-- one more that is not there
pub push_once : (held : List HeldEdge) (e : HeldEdge) → AllPairs (λ a b. a ≢ b) held → (Contains held e → ⊥) → AllPairs (λ a b. a ≢ b) (held ++ e ∷ [])
push_once held e once new = all_pairs_push (λ a b. a ≢ b) held e once (λ k d lt same. new (k, lt, get_or_default held k e d lt ∙ same))

module _ (edges : List LongEdge) (y : LongEdge) (place : ℕ) where
  fewer : (n k : ℕ) (e : LongEdge) → n ≤ length edges → k < n → slice_get (edges ++ y ∷ []) k ≡ Some e → slice_get edges k ≡ Some e
  fewer n k e le lt is = elim (more_cases edges y k e is) [
    | inl a ↦ a
    | inr (b, c) ↦ absurd (omega arith)
  ]

  -- one more after them changes nothing of the first ones
  newest_kept : (n : ℕ) (o : Option ℕ) → n ≤ length edges → IsNewest edges place n o → IsNewest (edges ++ y ∷ []) place n o
  newest_kept n None le h = λ k e lt is. h k e lt (fewer n k e le lt is)
  newest_kept n (Some number) le h = record {
    below = h.below;
    edge = h.edge;
    at = more_left edges y number h.edge h.at;
    ends = h.ends;
    last = λ k e a b is. h.last k e a b (fewer n k e le b is);
  }

  ends_elsewhere : (y.edge.to ≢ place) → (k : ℕ) (e : LongEdge) → ((k < length edges) → slice_get edges k ≡ Some e → e.edge.to ≢ place) → slice_get (edges ++ y ∷ []) k ≡ Some e → e.edge.to ≢ place
  ends_elsewhere apart k e old is = elim (more_cases edges y k e is) [
    | inl a ↦ (let (lt, s) = get_index edges k e e a in old lt a)
    | inr (b, c) ↦ λ t. apart (subst (λ (z : LongEdge). z.edge.to ≡ place) (sym c) t)
  ]

  newest_elsewhere : (o : Option ℕ) → (y.edge.to ≢ place) → IsNewest edges place (length edges) o → IsNewest (edges ++ y ∷ []) place (length edges + 1) o
  newest_elsewhere None apart h = λ k e lt is. ends_elsewhere apart k e (λ lt' a. h k e lt' a) is
  newest_elsewhere (Some number) apart h = record {
    below = (let b = h.below in omega arith);
    edge = h.edge;
    at = more_left edges y number h.edge h.at;
    ends = h.ends;
    last = λ k e a b is. ends_elsewhere apart k e (λ lt' s. h.last k e a lt' s) is;
  }

  newest_here : y.edge.to ≡ place → IsLastTo (edges ++ y ∷ []) place (length edges + 1) (length edges)
  newest_here ends = record {
    below = omega arith;
    edge = y;
    at = more_last edges y;
    ends = ends;
    last = λ k e a b is. absurd (omega arith);
  }

-- an edge that leads to the newest one so far, and is then the newest
module _ (edges : List LongEdge) (newest : ℕ → Option ℕ) (are : AreChained edges newest) (y : LongEdge) (new : Contains (all_held edges) y.edge → ⊥) (leads : y.below ≡ newest y.edge.to) where
  pub chained_more : (newer : ℕ → Option ℕ) → newer y.edge.to ≡ Some (length edges) → ((place : ℕ) → nat_eq y.edge.to place ≡ false → newer place ≡ newest place) → AreChained (edges ++ y ∷ []) newer
  chained_more newer here others = record { before = before; to = to; once = subst (AllPairs (λ a b. a ≢ b)) (sym (held_more edges y)) (push_once (all_held edges) y.edge are.once new) }
    where
      own : IsNewest edges y.edge.to (length edges) y.below
      own = subst (IsNewest edges y.edge.to (length edges)) (sym leads) (are.to y.edge.to)

      before : (k : ℕ) (e : LongEdge) → slice_get (edges ++ y ∷ []) k ≡ Some e → IsNewest (edges ++ y ∷ []) e.edge.to k e.below
      before k e is = elim (more_cases edges y k e is) [
        | inl a ↦ (let (lt, s) = get_index edges k e e a in newest_kept edges y e.edge.to k e.below (omega arith) (are.before k e a))
        | inr (b, c) ↦
            subst (λ (z : LongEdge). IsNewest (edges ++ y ∷ []) z.edge.to k z.below) c
            (subst (λ n. IsNewest (edges ++ y ∷ []) y.edge.to n y.below) (sym b) (newest_kept edges y y.edge.to (length edges) y.below (omega arith) own))
      ]

      size : length (edges ++ y ∷ []) ≡ length edges + 1
      size = length-append edges (y ∷ [])

      to : (place : ℕ) → IsNewest (edges ++ y ∷ []) place (length (edges ++ y ∷ [])) (newer place)
      to place = subst (λ n. IsNewest (edges ++ y ∷ []) place n (newer place)) (sym size) (elim (cases_eq y.edge.to place) [
        | inl e ↦ subst (λ p. IsNewest (edges ++ y ∷ []) p (length edges + 1) (newer p)) e
            (subst (IsNewest (edges ++ y ∷ []) y.edge.to (length edges + 1)) (sym here) (newest_here edges y y.edge.to refl))
        | inr apart ↦ subst (IsNewest (edges ++ y ∷ []) place (length edges + 1)) (sym (others place (ne_eqb y.edge.to place apart))) (newest_elsewhere edges y place (newest place) apart (are.to place))
      ])

pub none_chained : (edges : List LongEdge) (newest : ℕ → Option ℕ) → edges ≡ [] → ((place : ℕ) → newest place ≡ None) → AreChained edges newest
none_chained edges newest none nowhere = subst (λ l. AreChained l newest) (sym none) (record {
  before = λ k e is. absurd (cc);
  to = λ place. subst (IsNewest [] place 0) (sym (nowhere place)) (λ k e lt is. absurd (omega arith));
  once = λ i j d lt end. absurd (omega arith);
})

-- the edges to a place, listed from the newest down to a number
module _ (edges : List LongEdge) (place : ℕ) (start : List HeldEdge) where
  pub record IsFrom (rest : ℕ) (e : HeldEdge) : Type 0 where
    pub number : ℕ
    pub from : rest ≤ number
    pub link : LongEdge
    pub at : slice_get edges number ≡ Some link
    pub is : link.edge ≡ e
    pub ends : e.to ≡ place

  pub record AreListedFrom (out : List HeldEdge) (next : Option ℕ) : Type 0 where
    pub rest : ℕ
    pub within : rest ≤ length edges
    pub newest : IsNewest edges place rest next
    pub listed : (e : HeldEdge) → Contains out e ↔ (Contains start e ⊎ IsFrom rest e)

  pub none_from : (out : List HeldEdge) (next : Option ℕ) → out ≡ start → IsNewest edges place (length edges) next → AreListedFrom out next
  none_from out next same newest = record {
    rest = length edges;
    within = omega arith;
    newest = newest;
    listed = λ e. (
      λ h. inl (subst (λ l. Contains l e) same h),
      λ h. elim h [
        | inl s ↦ subst (λ l. Contains l e) (sym same) s
        | inr f ↦ (let (lt, s) = get_index edges f.number f.link f.link f.at in let g = f.from in absurd (omega arith))
      ],
    );
  }

  pub number_below : (out : List HeldEdge) (number : ℕ) → AreListedFrom out (Some number) → number < length edges
  number_below out number l = let b = l.newest.below in let w = l.within in omega arith

  pub one_down : (newest : ℕ → Option ℕ) → AreChained edges newest → (out new : List HeldEdge) (number : ℕ) (x : LongEdge) → AreListedFrom out (Some number) → slice_get edges number ≡ Some x → new ≡ out ++ x.edge ∷ [] → AreListedFrom new x.below
  one_down newest are out new number x l at is = record {
    rest = number;
    within = (let lt = number_below out number l in omega arith);
    newest = subst (λ p. IsNewest edges p number x.below) ends (are.before number x at);
    listed = λ e. subst (λ o. Contains o e ↔ (Contains start e ⊎ IsFrom number e)) (sym is) (there e, back e);
  }
    where
      same : l.newest.edge ≡ x
      same = let a = l.newest.at in cc

      ends : x.edge.to ≡ place
      ends = subst (λ (z : LongEdge). z.edge.to ≡ place) same l.newest.ends

      there : (e : HeldEdge) → Contains (out ++ x.edge ∷ []) e → Contains start e ⊎ IsFrom number e
      there e h = elim (Contains-push_cases out x.edge e h) [
        | inl o ↦ elim ((l.listed e).0 o) [
          | inl s ↦ inl s
          | inr f ↦ inr (record { number = f.number; from = (let b = l.newest.below in let g = f.from in omega arith); link = f.link; at = f.at; is = f.is; ends = f.ends })
        ]
        | inr s ↦ inr (record { number = number; from = omega arith; link = x; at = at; is = s; ends = subst (λ (z : HeldEdge). z.to ≡ place) s ends })
      ]

      back : (e : HeldEdge) → Contains start e ⊎ IsFrom number e → Contains (out ++ x.edge ∷ []) e
      back e h = elim h [
        | inl s ↦ Contains-append_left out (x.edge ∷ []) e ((l.listed e).1 (inl s))
        | inr f ↦ elim (cases_lt f.number l.rest) [
          | inl lt ↦ elim (cases_lt number f.number) [
            | inl above ↦ absurd (l.newest.last f.number f.link above lt f.at (subst (λ (z : HeldEdge). z.to ≡ place) (sym f.is) f.ends))
            | inr below ↦
                let g = f.from in
                let here : f.number ≡ number = omega arith in
                let one : Some f.link ≡ Some x = sym f.at ∙ (ap (slice_get edges) here ∙ at) in
                let link : x ≡ f.link = cc in
                subst (Contains (out ++ x.edge ∷ [])) (ap (λ (z : LongEdge). z.edge) link ∙ f.is) (Contains-push out x.edge)
          ]
          | inr ge ↦ Contains-append_left out (x.edge ∷ []) e ((l.listed e).1 (inr (record { number = f.number; from = ge; link = f.link; at = f.at; is = f.is; ends = f.ends })))
        ]
      ]

  -- an edge that was listed stands after, so that the next one is new
  pub one_down_once : (newest : ℕ → Option ℕ) → AreChained edges newest → ((e : HeldEdge) → Contains start e → ¬ Contains (all_held edges) e) → (out new : List HeldEdge) (number : ℕ) (x : LongEdge) →
      AreListedFrom out (Some number) → slice_get edges number ≡ Some x → new ≡ out ++ x.edge ∷ [] → AllPairs (λ a b. a ≢ b) out → AllPairs (λ a b. a ≢ b) new
  one_down_once newest are apart out new number x l at is once = subst (AllPairs (λ a b. a ≢ b)) (sym is) (push_once out x.edge once fresh)
    where
      fresh : Contains out x.edge → ⊥
      fresh h = elim ((l.listed x.edge).0 h) [
        | inl s ↦ apart x.edge s (at_found (all_held edges) number x.edge (held_at edges number x at))
        | inr f ↦
            let b = l.newest.below in
            let g = f.from in
            let lt : number < f.number = omega arith in
            let (lt_x, at_x) = get_index (all_held edges) number x.edge x.edge (held_at edges number x at) in
            let (lt_f, at_f) = get_index (all_held edges) f.number x.edge f.link.edge (held_at edges f.number f.link f.at) in
            are.once number f.number x.edge lt lt_f (at_x ∙ sym (at_f ∙ f.is))
      ]

  pub all_from : (out : List HeldEdge) (next : Option ℕ) → next ≡ None → AreListedFrom out next → (e : HeldEdge) → Contains out e ↔ (Contains start e ⊎ (Contains (all_held edges) e × (e.to ≡ place)))
  all_from out next none l e = (
    λ h. elim ((l.listed e).0 h) [
      | inl s ↦ inl s
      | inr f ↦ inr (at_found (all_held edges) f.number e (held_at edges f.number f.link f.at ∙ ap Some f.is), f.ends)
    ],
    λ h. elim h [
      | inl s ↦ (l.listed e).1 (inl s)
      | inr (c, ends) ↦
          let (k, held) = found_at (all_held edges) e c in
          let (x, at, is) = at_held edges k e held in
          elim (cases_lt k l.rest) [
            | inl lt ↦ absurd (gone k x lt at (subst (λ (z : HeldEdge). z.to ≡ place) (sym is) ends))
            | inr ge ↦ (l.listed e).1 (inr (record { number = k; from = ge; link = x; at = at; is = is; ends = ends }))
          ]
    ],
  )
    where
      gone : (k : ℕ) (x : LongEdge) → k < l.rest → slice_get edges k ≡ Some x → x.edge.to ≢ place
      gone = subst (IsNewest edges place l.rest) none l.newest
