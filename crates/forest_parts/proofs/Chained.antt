-- Chains of nodes, as nodes are noted and as they are listed.
use Rattle.std.proofs.Common.{◌≡◌, ◌≢◌, ℕ, zero, suc, ◌<◌, ◌≤◌, ◌+◌, ◌++◌, inl, inr, ◌↔◌, Contains, List, [], ◌∷◌, Some, length, slice_get, get_or, refl, sym, ◌∙◌, ap, subst, arith}
use Rattle.std.proofs.lemmas.Bool.{cases_lt}
use Rattle.std.proofs.lemmas.List.{length_push}
use Rattle.finite_sets.proofs.Lists.{Contains-none, get_left, get_last, got_at}
use Rattle.recognizer_model.specs.declared.NodeKey.{NodeKey}
use Rattle.earley_sets.proofs.Membership.{Contains-cons_cases, Contains-first, Contains-rest}
use Rattle.forest_parts.specs.Chains.{EndsAt, IsChain, AreChained}

pub none_at : (e : ℕ) → get_or {A = ℕ} [] e 0 ≡ 0
none_at zero = refl
none_at (suc e) = refl

within : (below : List ℕ) (head : ℕ) (ns : List ℕ) → IsChain below head ns → head ≤ length below
within below head [] e = omega arith
within below head (n ∷ ns) (e, (b, at, le, rest)) = let (lt, same) = got_at below n b 0 (sym at) in omega arith

more_links : (below more : List ℕ) (head : ℕ) (ns : List ℕ) → IsChain below head ns → IsChain (below ++ more) head ns
more_links below more head [] e = e
more_links below more head (n ∷ ns) (e, (b, at, le, rest)) = (e, (b, get_left below more n b at, le, more_links below more b ns rest))

-- a chain has its first node where its head says
pub chain_first : (below : List ℕ) (head n : ℕ) (ns : List ℕ) → IsChain below head ns → head ≡ suc n →
    (n < length below) × (get_or below n 0 ≤ n) × ((rest : List ℕ) × (ns ≡ n ∷ rest) × IsChain below (get_or below n 0) rest)
chain_first below head n [] e is = absurd (omega arith)
chain_first below head n (m ∷ ns) (e, (b, at, le, rest)) is =
    let same : m ≡ n = omega arith in
    let (lt, q) = got_at below m b 0 (sym at) in
    let q' : get_or below n 0 ≡ b = ap (λ k. get_or below k 0) (sym same) ∙ q in
    (omega arith, omega arith, (ns, ap (λ k. k ∷ ns) same, subst (λ z. IsChain below z ns) (sym q') rest))

pub chain_end : (below : List ℕ) (head : ℕ) (ns : List ℕ) → IsChain below head ns → head ≡ 0 → ns ≡ []
chain_end below head [] e is = refl
chain_end below head (n ∷ ns) (e, rest) is = absurd (omega arith)

pub push_through : (xs : List ℕ) (n : ℕ) (more : List ℕ) → xs ++ n ∷ more ≡ (xs ++ n ∷ []) ++ more
push_through [] n more = refl
push_through (x ∷ xs) n more = ap (λ l. x ∷ l) (push_through xs n more)

-- before any is noted
pub none_chained : (keys : List NodeKey) (heads below : List ℕ) → heads ≡ [] → below ≡ [] → AreChained keys heads below
none_chained keys heads below h b = record {
  few = (let e = ap (λ (l : List ℕ). length l) b in omega arith);
  chain = λ end. (
    [],
    ap (λ (l : List ℕ). get_or l end 0) h ∙ none_at end,
    λ n. (λ i. absurd (Contains-none n i), λ (lt, ends). (let e = ap (λ (l : List ℕ). length l) b in absurd (omega arith))),
  );
}

-- one node more is noted
module _ (keys : List NodeKey) (heads below heads' below' : List ℕ) (key : NodeKey) (h : AreChained keys heads below) (at : slice_get keys (length below) ≡ Some key)
    (links : below' ≡ below ++ get_or heads key.end 0 ∷ []) (sets : get_or heads' key.end 0 ≡ length below') (same : (e : ℕ) → e ≢ key.end → get_or heads' e 0 ≡ get_or heads e 0) where
  long : length below' ≡ length below + 1
  long = ap (λ (l : List ℕ). length l) links ∙ length_push below (get_or heads key.end 0)

  other : (end : ℕ) → end ≢ key.end → (ns : List ℕ) × IsChain below' (get_or heads' end 0) ns × ((n : ℕ) → Contains ns n ↔ ((n < length below') × EndsAt keys end n))
  other end ne =
      let (ns, is, exact) = h.chain end in (
        ns,
        subst (λ z. IsChain below' z ns) (sym (same end ne)) (subst (λ l. IsChain l (get_or heads end 0) ns) (sym links) (more_links below (get_or heads key.end 0 ∷ []) (get_or heads end 0) ns is)),
        λ n. (
          λ i. (let (lt, ends) = (exact n).0 i in (omega (arith, long), ends)),
          λ (lt, (k, at', e)). elim (cases_lt n (length below)) [
            | inl before ↦ (exact n).1 (before, (k, at', e))
            | inr ge ↦
                let here : n ≡ length below = omega (arith, long) in
                let one : Some k ≡ Some key = sym at' ∙ ap (slice_get keys) here ∙ at in
                let q : k ≡ key = cc in
                absurd (ne (sym e ∙ ap (λ (z : NodeKey). z.end) q))
          ],
        ),
      )

  this : (ns : List ℕ) × IsChain below' (get_or heads' key.end 0) ns × ((n : ℕ) → Contains ns n ↔ ((n < length below') × EndsAt keys key.end n))
  this =
      let (ns, is, exact) = h.chain key.end in (
        length below ∷ ns,
        (
          sets ∙ (let e : length below' ≡ suc (length below) = omega (arith, long) in e),
          (
            get_or heads key.end 0,
            subst (λ l. slice_get l (length below) ≡ Some (get_or heads key.end 0)) (sym links) (get_last below (get_or heads key.end 0)),
            within below (get_or heads key.end 0) ns is,
            subst (λ l. IsChain l (get_or heads key.end 0) ns) (sym links) (more_links below (get_or heads key.end 0 ∷ []) (get_or heads key.end 0) ns is),
          ),
        ),
        λ n. (
          λ i. elim (Contains-cons_cases (length below) ns n i) [
            | inl e ↦ (omega (arith, long), (key, ap (slice_get keys) (sym e) ∙ at, refl))
            | inr r ↦ let (lt, ends) = (exact n).0 r in (omega (arith, long), ends)
          ],
          λ (lt, ends). elim (cases_lt n (length below)) [
            | inl before ↦ Contains-rest (length below) ns n ((exact n).1 (before, ends))
            | inr ge ↦ let here : length below ≡ n = omega (arith, long) in subst (λ z. Contains (length below ∷ ns) z) here (Contains-first (length below) ns)
          ],
        ),
      )

  pub linked : AreChained keys heads' below'
  linked = record {
    few = (let (lt, q) = got_at keys (length below) key key (sym at) in omega (arith, long));
    chain = λ end. elim (cases_lt end key.end) [
      | inl lt ↦ other end (λ q. let e : end ≡ key.end = q in absurd (omega arith))
      | inr ge ↦ elim (cases_lt key.end end) [
        | inl gt ↦ other end (λ q. let e : end ≡ key.end = q in absurd (omega arith))
        | inr le ↦
            let e : key.end ≡ end = omega arith in
            subst (λ z. (ns : List ℕ) × IsChain below' (get_or heads' z 0) ns × ((n : ℕ) → Contains ns n ↔ ((n < length below') × EndsAt keys z n))) e this
      ]
    ];
  }
