-- The only derivation of so many tokens and one more by flat recursion, and its choices.
use Rattle.std.proofs.Common.{arith, ◌≡◌, ◌∙◌, ℕ, zero, suc, ◌+◌, ◌*◌, ◌<◌, ◌≤◌, [], ◌∷◌, Contains, refl, sym, ap, subst, lit<, lit≤}
use Rattle.std.specs.List.Sorted.{IsStrictlySortedBy}
use Rattle.finite_sets.proofs.Members.{among_from, contains_from}
use Rattle.grammar_model.specs.declared.Ranking.TheVariants.{Rule as RuleRanks}
use Rattle.grammar_model.specs.Grammar.{slot_of, IsTerminal}
use Rattle.grammar_model.specs.Trees.{Tree, Leaf, Nulled, Node, NoChild, Child}
use Rattle.grammar_model.specs.Derives.{Edges, Held, Derives}
use Rattle.grammar_model.specs.Chosen.{AreChosen}
use Rattle.reading_model.specs.Reading.{edges_of}
use Rattle.recognizer_model.specs.Links.{choices}
use Rattle.outcome_laws.specs.Figures.{right_g1, row, tree}
use Rattle.work_laws.proofs.Plain.{none_nullable}
use Rattle.outcome_laws.proofs.RightFlat.{solid, terminal, no_terminal}
use Rattle.outcome_laws.proofs.RightSets.{among_tokens, token_among}

pub choices_of : (more p q : ℕ) → choices (tree more p q) ≡ 11 * more + 8
choices_of zero p q = refl
choices_of (suc more) p q = let e = choices_of more (suc p) q in omega (arith, e)

-- over edges of the terminal, each from its place to the next
module _ (edge : Edges) (n : ℕ) (held : (p : ℕ) → p < n → edge 1 p (suc p)) where
  leaf : (p : ℕ) → p < n → Derives right_g1 edge (slot_of 1) p (suc p) (Leaf 1 p (suc p))
  leaf p lt = record { symbol_is = refl; from_is = refl; to_is = refl; terminal = terminal; held = held p lt }

  pub derives : (more p q : ℕ) → suc p + more ≡ q → q ≤ n → Derives right_g1 edge (slot_of 0) p q (tree more p q)
  derives zero p q e le =
      let next : suc p ≡ q = omega (arith, e) in
      record {
        from_is = refl;
        to_is = refl;
        spans = omega (arith, e);
        in_range = lit< tt;
        fits = (refl, lit≤ tt);
        complete = refl;
        prefix = (p, refl, subst (λ z. Derives right_g1 edge (slot_of 1) p z (Leaf 1 p (suc p))) next (leaf p (omega (arith, e, le))));
      }
  derives (suc more) p q e le = record {
    from_is = refl;
    to_is = refl;
    spans = omega (arith, e);
    in_range = lit< tt;
    fits = (refl, lit≤ tt);
    complete = refl;
    prefix = (suc p, (p, refl, leaf p (omega (arith, e, le))), derives more (suc p) q (omega (arith, e)) le);
  }

pub held_in : (n p : ℕ) → p < n → Held (edges_of (row n)) 1 p (suc p)
held_in n p lt = contains_from (edges_of (row n)) _ (token_among n 0 p (omega arith) (omega (arith, lt)))

module _ (n : ℕ) where
  -- a token's derivation is a leaf
  leaf_of : (p q : ℕ) (t : Tree) → Derives right_g1 (Held (edges_of (row n))) (slot_of 1) p q t → (suc p ≡ q) × (Leaf 1 p (suc p) ≡ t)
  leaf_of p q (Leaf s from to) d =
      let (symbol, next, lt) = among_tokens n 0 (record { symbol = s; from = from; to = to }) (among_from (edges_of (row n)) _ d.held) in
      let here = d.from_is in
      let there = d.to_is in
      let end : suc p ≡ to = omega (arith, here, next) in
      (omega (arith, end, there), λ j. Leaf (sym symbol j) (sym here j) (end j))
  leaf_of p q (Nulled s at) d = absurd (none_nullable right_g1 solid (slot_of 1) d.nullable)
  leaf_of p q (Node i children from to) d = absurd (terminal i d.in_range d.fits.0)

  goes_forward : (p q : ℕ) (t : Tree) → Derives right_g1 (Held (edges_of (row n))) (slot_of 0) p q t → p < q
  goes_forward p q (Leaf s from to) d = absurd (no_terminal (subst (IsTerminal right_g1) d.symbol_is d.terminal))
  goes_forward p q (Nulled s at) d = absurd (none_nullable right_g1 solid (slot_of 0) d.nullable)
  goes_forward p q (Node i children from to) d = d.spans

  pub only : (more p q : ℕ) (t : Tree) → suc p + more ≡ q → Derives right_g1 (Held (edges_of (row n))) (slot_of 0) p q t → tree more p q ≡ t
  only more p q (Leaf s from to) e d = absurd (no_terminal (subst (IsTerminal right_g1) d.symbol_is d.terminal))
  only more p q (Nulled s at) e d = absurd (none_nullable right_g1 solid (slot_of 0) d.nullable)
  only more p q (Node zero NoChild from to) e d = absurd (let c = d.complete in omega (arith, c))
  only more p q (Node zero (Child NoChild t) from to) e d = absurd (let c = d.complete in omega (arith, c))
  only zero p q (Node zero (Child (Child NoChild t) u) from to) e d =
      let (m, (r, here, dt), du) = d.prefix in
      let next = (leaf_of r m t dt).0 in
      let lt = goes_forward m q u du in
      absurd (omega (arith, here, next, lt, e))
  only (suc more) p q (Node zero (Child (Child NoChild t) u) from to) e d =
      let (m, (r, here, dt), du) = d.prefix in
      let (next, is) = leaf_of r m t dt in
      let after : suc p ≡ m = omega (arith, here, next) in
      let rest = only more (suc p) q u (omega (arith, e)) (subst (λ z. Derives right_g1 (Held (edges_of (row n))) (slot_of 0) z q u) (sym after) du) in
      let begin = sym d.from_is in
      let end = sym d.to_is in
      let token : Leaf 1 p (suc p) ≡ t = ap (λ z. Leaf 1 z (suc z)) here ∙ is in
      λ j. Node 0 (Child (Child NoChild (token j)) (rest j)) (begin j) (end j)
  only more p q (Node zero (Child (Child (Child prefix x) t) u) from to) e d = absurd (let c = d.complete in omega (arith, c))
  only more p q (Node (suc zero) NoChild from to) e d = absurd (let c = d.complete in omega (arith, c))
  only zero p q (Node (suc zero) (Child NoChild t) from to) e d =
      let (r, here, dt) = d.prefix in
      let (next, is) = leaf_of r q t dt in
      let begin = sym d.from_is in
      let end = sym d.to_is in
      let token : Leaf 1 p (suc p) ≡ t = ap (λ z. Leaf 1 z (suc z)) here ∙ is in
      λ j. Node 1 (Child NoChild (token j)) (begin j) (end j)
  only (suc more) p q (Node (suc zero) (Child NoChild t) from to) e d =
      let (r, here, dt) = d.prefix in
      let next = (leaf_of r q t dt).0 in
      absurd (omega (arith, here, next, e))
  only more p q (Node (suc zero) (Child (Child prefix u) t) from to) e d = absurd (let c = d.complete in omega (arith, c))
  only more p q (Node (suc (suc i)) children from to) e d = absurd (let lt = d.in_range in omega (arith, lt))

-- of so many tokens and one more
pub are_chosen : (n : ℕ) → AreChosen right_g1 (Held (edges_of (row (suc n)))) RuleRanks (slot_of 0) 0 (suc n) (tree n 0 (suc n) ∷ [])
unfolding IsStrictlySortedBy
are_chosen n = record { sorted = (tt, tt); each = λ u. ((λ c. (to u c, tt)), (λ (d, c). (0, lit< tt, only (suc n) n 0 (suc n) u (omega arith) d))) }
  where
    to : (u : Tree) → Contains (tree n 0 (suc n) ∷ []) u → Derives right_g1 (Held (edges_of (row (suc n)))) (slot_of 0) 0 (suc n) u
    to u (zero, lt, e) = subst (Derives right_g1 (Held (edges_of (row (suc n)))) (slot_of 0) 0 (suc n)) e (derives (Held (edges_of (row (suc n)))) (suc n) (held_in (suc n)) n 0 (suc n) (omega arith) (omega arith))
    to u (suc k, lt, e) = absurd (omega (arith, lt))
