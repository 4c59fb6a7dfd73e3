-- The links and the Leo pairs of so many tokens, whatever the order is in which their edges stand.
use Rattle.std.proofs.Common.{arith, ◌≡◌, ◌⊎◌, inl, inr, ℕ, zero, suc, ◌<◌, refl, sym, ap, subst, lit<, Some, slice_get}
use Rattle.std.proofs.lemmas.List.{map-id}
use Rattle.finite_sets.proofs.Members.{Among, among_from, contains_from}
use Rattle.grammar_model.specs.declared.Edge.{Edge}
use Rattle.grammar_model.specs.declared.Ranking.TheVariants.{Rule as RuleRanks}
use Rattle.grammar_model.specs.Derives.{Edges, Held}
use Rattle.recognizer_model.specs.declared.flat.FlatSymbol.TheVariants.{Terminal}
use Rattle.recognizer_model.specs.Links.{IsPlacedLink, IsLeoPair}
use Rattle.recognizer_model.specs.FlatForm.{FlatEdges}
use Rattle.recognizer_model.specs.Counts.{IsCountOf}
use Rattle.renaming_laws.proofs.Alike.{links_alike, pairs_alike}
use Rattle.number_laws.specs.RightRecursion.{right, tokens}
use Rattle.outcome_laws.specs.Figures.{right_g1}
use Rattle.outcome_laws.proofs.RightFlat.{flat}
use Rattle.outcome_laws.proofs.RightShape.{is_flat}
use Rattle.outcome_laws.proofs.RightSets.{row_edges, edge_is, edge}

abbrev falling : ℕ → Edge
falling p = record { symbol = 0; from = p; to = suc p }

among_falling : (n : ℕ) (e : Edge) → Among e (tokens n) → (e.symbol ≡ 0) × (e.to ≡ suc e.from) × (e.from < n)
among_falling zero e m = absurd m
among_falling (suc n) e (inl s) =
    let from : n ≡ e.from = ap (λ (u : Edge). u.from) s in
    let to : suc n ≡ e.to = ap (λ (u : Edge). u.to) s in
    (sym (ap (λ (u : Edge). u.symbol) s), omega (arith, from, to), omega (arith, from))
among_falling (suc n) e (inr m) = let (symbol, to, lt) = among_falling n e m in (symbol, to, omega (arith, lt))

falling_among : (n k : ℕ) → k < n → Among (falling k) (tokens n)
falling_among zero k lt = absurd (omega (arith, lt))
falling_among (suc n) k lt = by (last n k lt) (falling_among n k)
  where
    last : (n k : ℕ) → k < suc n → (n ≡ k) ⊎ (k < n)
    last n k lt = grind arith

    by : (n ≡ k) ⊎ (k < n) → (k < n → Among (falling k) (tokens n)) → Among (falling k) (tokens (suc n))
    by (inl e) there = inl (ap falling e)
    by (inr lt) there = inr (there lt)

abbrev falling_edges : ℕ → Edges
falling_edges n = FlatEdges right (Held (tokens n))

-- the edges of either have the first flat symbol, each from its place to the next
module _ (n : ℕ) where
  falling_is : (x p q : ℕ) → falling_edges n x p q → (x ≡ 0) × (q ≡ suc p) × (p < n)
  falling_is x p q (t, is, held) =
      let (symbol, to, lt) = among_falling n (record { symbol = t; from = p; to = q }) (among_from (tokens n) _ held) in
      (first x t is, to, lt)
    where
      first : (x t : ℕ) → slice_get right.symbols x ≡ Some (Terminal t) → x ≡ 0
      first zero t is = refl
      first (suc zero) t is = absurd (cc)
      first (suc (suc zero)) t is = absurd (cc)
      first (suc (suc (suc x))) t is = absurd (cc)

  there : (x p q : ℕ) → falling_edges n x p q → row_edges n x p q
  there x p q e =
      let (symbol, to, lt) = falling_is x p q e in
      subst (λ (e : Edge). row_edges n e.symbol e.from e.to) (λ i. record { symbol = sym symbol i; from = p; to = sym to i }) (edge n p lt)

  back : (x p q : ℕ) → row_edges n x p q → falling_edges n x p q
  back x p q e =
      let (symbol, to, lt) = edge_is n x p q e in
      subst (λ (e : Edge). falling_edges n e.symbol e.from e.to) (λ i. record { symbol = sym symbol i; from = p; to = sym to i }) (0, refl, contains_from (tokens n) _ (falling_among n p lt))

  -- the two flat grammars name their symbols and rules by the same numbers

  pub links_counted : (count : ℕ) → IsCountOf (IsPlacedLink right (falling_edges n) 2 n) count → IsCountOf (IsPlacedLink flat (row_edges n) 2 n) count
  links_counted = links_alike {f = right} {g = flat} {E = falling_edges n} {F = row_edges n} (record {
    flat = is_flat 0 1;
    flat_back = is_flat 1 0;
    symbol = λ x. x;
    rule = λ r. r;
    symbol_back = λ x. x;
    rule_back = λ r. r;
    there = record { stands = λ x lt. lt; marked = λ x m. m; is_rule = λ r lt. lt; left = λ r lt. refl; right = λ r lt. sym (map-id _); source = λ r lt. refl; edge = there };
    back = record { stands = λ x lt. lt; marked = λ x m. m; is_rule = λ r lt. lt; left = λ r lt. refl; right = λ r lt. sym (map-id _); source = λ r lt. refl; edge = back };
    same_symbol = λ x lt. refl;
    same_rule = λ r lt. refl;
    symbol_again = λ x lt. refl;
    rule_again = λ r lt. refl;
  }) right_g1 RuleRanks 2 2 (lit< tt) (lit< tt) refl n

  pub pairs_counted : (count : ℕ) → IsCountOf (IsLeoPair right (falling_edges n) 2 n) count → IsCountOf (IsLeoPair flat (row_edges n) 2 n) count
  pairs_counted = pairs_alike {f = right} {g = flat} {E = falling_edges n} {F = row_edges n} (record {
    flat = is_flat 0 1;
    flat_back = is_flat 1 0;
    symbol = λ x. x;
    rule = λ r. r;
    symbol_back = λ x. x;
    rule_back = λ r. r;
    there = record { stands = λ x lt. lt; marked = λ x m. m; is_rule = λ r lt. lt; left = λ r lt. refl; right = λ r lt. sym (map-id _); source = λ r lt. refl; edge = there };
    back = record { stands = λ x lt. lt; marked = λ x m. m; is_rule = λ r lt. lt; left = λ r lt. refl; right = λ r lt. sym (map-id _); source = λ r lt. refl; edge = back };
    same_symbol = λ x lt. refl;
    same_rule = λ r lt. refl;
    symbol_again = λ x lt. refl;
    rule_again = λ r lt. refl;
  }) right_g1 RuleRanks 2 2 (lit< tt) (lit< tt) refl n
