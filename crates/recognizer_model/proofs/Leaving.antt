-- Whatever a flat grammar derives has a chosen derivation: over each span the rule of a tree of the highest rank is taken, and its
-- parts are chosen again. A part spans less, or it spans the whole and its height is lower.
use Rattle.std.proofs.Common.{◌≡◌, ◌≢◌, ℕ, zero, suc, ◌+◌, ◌<◌, ◌≤◌, ℤ, pos, ◌≤ℤ◌, List, [], ◌∷◌, length, ◌⊎◌, inl, inr, Some, refl, sym, ap, ◌∙◌, subst, arith}
use Rattle.std.specs.Prelude.{slice_get}
use Rattle.std.proofs.lemmas.Bool.{cases_lt, cases_eq}
use Rattle.std.proofs.lemmas.Int.{by_lt_z, ints}
use Rattle.finite_sets.proofs.Deciding.{most_itself, most_through}
use Rattle.finite_sets.proofs.Members.{among_from, contains_from, Among}
use Rattle.grammar_model.specs.Grammar.{Grammar, slot_of}
use Rattle.grammar_model.specs.Trees.{Tree, Children, Leaf, Nulled, Node, NoChild, Child}
use Rattle.grammar_model.specs.Derives.{Edges, Held}
use Rattle.grammar_model.specs.declared.Edge.{Edge}
use Rattle.grammar_model.specs.declared.Ranking.{Ranking}
use Rattle.grammar_model.specs.declared.Ranking.TheVariants.{None as NoRanks, Rule as RuleRanks, High as HighRanks}
use Rattle.recognizer_model.specs.Flat.{FlatGrammar, IsRule, lhs_of, rhs_of, part_of, IsNullable}
use Rattle.recognizer_model.specs.FlatDerives.{Derives, Token, Null, Rule, Spans, Nothing, More}
use Rattle.recognizer_model.specs.FlatForm.{FlatEdges}
use Rattle.recognizer_model.specs.Acceptable.{OnlyTerminals}
use Rattle.recognizer_model.specs.Invariant.{IsFlat, LeadsOver}
use Rattle.recognizer_model.specs.Chosen.{Allowed, AreAllowed, AreAllowedIn, LeavesSome, flat_rank, allowed_by}
use Rattle.recognizer_model.proofs.Views.{symbol_viewed, symbol_back}
use Rattle.recognizer_model.proofs.FlatListed.{flat_list}

-- of a list's elements one has the highest rank
module _ {X : Type 0} (rank : X → ℤ) where
  abbrev Highest : List X → Type 0
  Highest xs = (y : X) × Among y xs × ((z : X) → Among z xs → rank z ≤ℤ rank y)

  highest : (x : X) (xs : List X) → Highest (x ∷ xs)
  highest x [] = (x, inl refl, alone)
    where
      alone : (z : X) → (x ≡ z) ⊎ ⊥ → rank z ≤ℤ rank x
      alone z (inl e) = subst (λ k. rank k ≤ℤ rank x) e (most_itself (rank x))
      alone z (inr b) = absurd b
  highest x (x' ∷ xs) =
      let (y, m, most) = highest x' xs in
      by_lt_z {P = Highest (x ∷ x' ∷ xs)} (rank y) (rank x)
      (λ lt. (x, inl refl, first (most_itself (rank x)) (λ z k. most_through (rank z) (rank y) (rank x) (most z k) (omega (arith, ints, lt)))))
      (λ le. (y, inr m, first le most))
    where
      first : {b : ℤ} → rank x ≤ℤ b → ((z : X) → Among z (x' ∷ xs) → rank z ≤ℤ b) → (z : X) → (x ≡ z) ⊎ Among z (x' ∷ xs) → rank z ≤ℤ b
      first {b} le most z (inl e) = subst (λ k. rank k ≤ℤ b) e le
      first le most z (inr k) = most z k

  pub highest_of : (xs : List X) (x : X) → Among x xs → Highest xs
  highest_of [] x m = absurd m
  highest_of (y ∷ ys) x m = highest y ys

-- so have the first parts of a rule
pub prefix_some : (g : FlatGrammar) (E : Edges) (allowed : Allowed) → LeavesSome g E allowed → {r d p q : ℕ} {cs : Children} → Spans g E r d p q cs → (ds : Children) × Spans g E r d p q ds × AreAllowedIn allowed ds
prefix_some g E allowed leaves Nothing = (NoChild, Nothing, tt)
prefix_some g E allowed leaves (More {m = m} {q = q} {x = x} {t = t} s e d) =
    let (ds, s', c) = prefix_some g E allowed leaves s in
    let (u, d', c') = leaves x m q t d in
    (Child ds u, More s' e d', (c, c'))

mutual
  pub all_alike : (w : Grammar) (g : FlatGrammar) (E : Edges) (t : Tree) → AreAllowed (allowed_by w NoRanks g E) t
  all_alike w g E (Leaf x p q) = tt
  all_alike w g E (Nulled x p) = tt
  all_alike w g E (Node r cs p q) = (tt, all_alike_in w g E cs)

  all_alike_in : (w : Grammar) (g : FlatGrammar) (E : Edges) (cs : Children) → AreAllowedIn (allowed_by w NoRanks g E) cs
  all_alike_in w g E NoChild = tt
  all_alike_in w g E (Child prefix last) = (all_alike_in w g E prefix, all_alike w g E last)

mutual
  pub all_ruled : (w : Grammar) (g : FlatGrammar) (E : Edges) (t : Tree) → AreAllowed (allowed_by w RuleRanks g E) t
  all_ruled w g E (Leaf x p q) = tt
  all_ruled w g E (Nulled x p) = tt
  all_ruled w g E (Node r cs p q) = (tt, all_ruled_in w g E cs)

  all_ruled_in : (w : Grammar) (g : FlatGrammar) (E : Edges) (cs : Children) → AreAllowedIn (allowed_by w RuleRanks g E) cs
  all_ruled_in w g E NoChild = tt
  all_ruled_in w g E (Child prefix last) = (all_ruled_in w g E prefix, all_ruled w g E last)

module _ (f : FlatGrammar) (w : Grammar) (flat : IsFlat f) (edges : List Edge) (forward : (s p q : ℕ) → Held edges s p q → p < q) where
  abbrev E : Edges
  E = FlatEdges f (Held edges)

  only : OnlyTerminals f (FlatEdges f (Held edges))
  only x p q e = (e.0, e.1)

  abbrev Best : (rule p q : ℕ) → Type 0
  Best = allowed_by w HighRanks f E

  abbrev Chosen : (x p q : ℕ) → Type 0
  Chosen x p q = (u : Tree) × Derives f E x p q u × AreAllowed (allowed_by w HighRanks f E) u

  ahead : {x p q : ℕ} {t : Tree} → Derives f E x p q t → p ≤ q
  ahead (Token {x = x} {p = p} {q = q} e) = let lt = forward e.0 p q e.2 in omega arith
  ahead (Null n) = omega arith
  ahead (Rule rule l lt s) = omega arith

  all_ahead : {r d p q : ℕ} {cs : Children} → Spans f E r d p q cs → p ≤ q
  all_ahead Nothing = omega arith
  all_ahead (More s e t) =
      let a = all_ahead s in
      let b = ahead t in
      omega arith

  over_nothing : {x p q : ℕ} {t : Tree} → Derives f E x p q t → p ≡ q → IsNullable f x
  over_nothing (Token {x = x} {p = p} {q = q} e) same = let lt = forward e.0 p q e.2 in absurd (omega arith)
  over_nothing (Null n) same = n
  over_nothing (Rule rule l lt s) same = absurd (omega arith)

  -- parts that span nothing are nullable
  all_nothing : {r d p q : ℕ} {cs : Children} → Spans f E r d p q cs → p ≡ q → (position y : ℕ) → position < d → part_of f r position ≡ Some y → IsNullable f y
  all_nothing Nothing same position y lt at = absurd (omega arith)
  all_nothing (More {r = r} {d = d} {p = p} {m = m} {q = q} {x = x} s e t) same position y lt at =
      let a = all_ahead s in
      let b = ahead t in
      go (omega arith) (all_nothing s (omega arith) position y) (cases_eq position d)
    where
      go : m ≡ q → (position < d → part_of f r position ≡ Some y → IsNullable f y) → (position ≡ d) ⊎ (position ≡ d → ⊥) → IsNullable f y
      go c ih (inl is) = let one : Some x ≡ Some y = sym e ∙ ap (part_of f r) (sym is) ∙ at in let same : x ≡ y = cc in subst (IsNullable f) same (over_nothing t c)
      go c ih (inr other) = ih (omega arith) at

  -- the parts of a rule over a span, where what spans less is chosen, and what is lower over the same span
  module _ (p q r : ℕ) (rule : IsRule f r) (smaller : (y m n : ℕ) (t : Tree) → n + p < m + q → Derives f E y m n t → Chosen y m n)
      (lower : (y : ℕ) (t : Tree) → flat.heights.height y < flat.heights.height (lhs_of f r) → Derives f E y p q t → Chosen y p q) where
    last_chosen : (d y m n : ℕ) (cs : Children) (t : Tree) → Spans f E r d p m cs → part_of f r d ≡ Some y → Derives f E y m n t → p ≤ m → n ≤ q →
        (n ≡ q → (position z : ℕ) → d < position → part_of f r position ≡ Some z → IsNullable f z) → Chosen y m n
    last_chosen d y m n cs t s at t' le le' behind = go (cases_lt (n + p) (m + q))
      where
        go : (n + p < m + q) ⊎ (m + q ≤ n + p) → Chosen y m n
        go (inl lt) = smaller y m n t lt t'
        go (inr ge) =
            let begins : p ≡ m = omega arith in
            let ends : n ≡ q = omega arith in
            let over : LeadsOver f r d = λ other z ne is. beside begins ends other z ne is (cases_lt other d) in
            let falls = flat.heights.falls r d y rule at over in
            subst (λ a. Chosen y a n) begins (subst (Chosen y p) (sym ends) (lower y t falls (subst (λ a. Derives f E y a q t) (sym begins) (subst (λ b. Derives f E y m b t) ends t'))))
          where
            beside : p ≡ m → n ≡ q → (other z : ℕ) → other ≢ d → part_of f r other ≡ Some z → (other < d) ⊎ (d ≤ other) → IsNullable f z
            beside a b other z ne is (inl lt) = all_nothing s a other z lt is
            beside a b other z ne is (inr ge') = behind b other z (omega (arith, ne)) is

    prefix_chosen : {d n : ℕ} {cs : Children} → Spans f E r d p n cs → n ≤ q → (n ≡ q → (position z : ℕ) → d ≤ position → part_of f r position ≡ Some z → IsNullable f z) →
        (ds : Children) × Spans f E r d p n ds × AreAllowedIn (allowed_by w HighRanks f E) ds
    prefix_chosen Nothing le behind = (NoChild, Nothing, tt)
    prefix_chosen (More {d = d} {m = m} {q = n} {x = y} {cs = cs} {t = t} s at t') le behind =
        let a = all_ahead s in
        let b = ahead t' in
        let (ds, s', c) = prefix_chosen s (omega arith) (λ same position z le' is. beside (omega (arith, same)) (omega (arith, same)) position z is (cases_lt d position) le') in
        let (u, d', c') = last_chosen d y m n cs t s at t' a le (λ same position z lt is. behind same position z (omega arith) is) in
        (Child ds u, More s' at d', (c, c'))
      where
        beside : m ≡ n → n ≡ q → (position z : ℕ) → part_of f r position ≡ Some z → (d < position) ⊎ (position ≤ d) → d ≤ position → IsNullable f z
        beside none ends position z is (inl lt) le' = behind ends position z lt is
        beside none ends position z is (inr ge) le' =
            let here : position ≡ d = omega arith in
            let one : Some y ≡ Some z = sym at ∙ ap (part_of f r) (sym here) ∙ is in
            let same : y ≡ z = cc in
            subst (IsNullable f) same (over_nothing t' none)

  abbrev rank : Tree → ℤ
  rank (Leaf x p q) = pos 0
  rank (Nulled x p) = pos 0
  rank (Node r cs p q) = flat_rank w HighRanks f r

  past : (xs : List ℕ) (position z : ℕ) → length xs ≤ position → slice_get xs position ≡ Some z → ⊥
  past [] position z le is = cc
  past (x ∷ xs) zero z le is = omega arith
  past (x ∷ xs) (suc position) z le is = past xs position z (omega arith) is

  from_highest : {x p q : ℕ} {u : Tree} → Derives f E x p q u → ((z : Tree) → Derives f E x p q z → rank z ≤ℤ rank u) →
      ((y m n : ℕ) (t : Tree) → n + p < m + q → Derives f E y m n t → Chosen y m n) →
      ((y : ℕ) (t : Tree) → flat.heights.height y < flat.heights.height x → Derives f E y p q t → Chosen y p q) → Chosen x p q
  from_highest (Token {x = x} {p = p} {q = q} e) most smaller lower = (Leaf x p q, Token e, tt)
  from_highest (Null {x = x} {p = p} n) most smaller lower = (Nulled x p, Null n, tt)
  from_highest (Rule {p = p} {q = q} {r = r} rule l lt s) most smaller lower =
      let none : (position z : ℕ) → length (rhs_of f r) ≤ position → part_of f r position ≡ Some z → IsNullable f z = λ position z le is. absurd (past (rhs_of f r) position z le is) in
      let (ds, s', c) = prefix_chosen p q r rule smaller (λ y t less d. lower y t (subst (λ k. flat.heights.height y < flat.heights.height k) l less) d) s (omega arith) (λ same. none) in
      (Node r ds p q, Rule rule l lt s', ((λ other children is same over. most (Node other children p q) (Rule is (same ∙ l) lt over)), c))

  module _ (p q : ℕ) (smaller : (y m n : ℕ) (t : Tree) → n + p < m + q → Derives f E y m n t → Chosen y m n) where
    by_height : (h x : ℕ) (t : Tree) → flat.heights.height x < h → Derives f E x p q t → Chosen x p q
    by_height zero x t lt d = absurd (omega arith)
    by_height (suc h) x t lt d =
        let (trees, all) = flat_list f w flat HighRanks edges forward (slot_of x) p q in
        let viewed = λ (z : Tree) (d : Derives f E x p q z). symbol_viewed f flat.marks E only flat.no_rules flat.terminals_span d in
        let back = λ (z : Tree) (m : Among z trees). symbol_back f flat.marks E only flat.no_rules flat.terminals_span z (slot_of x) p q ((all.each z).0 (contains_from trees z m)) in
        let (u, m, most) = highest_of rank trees t (among_from trees t ((all.each t).1 (viewed t d))) in
        from_highest (back u m) (λ z d'. most z (among_from trees z ((all.each z).1 (viewed z d')))) smaller (λ y t' less d'. by_height h y t' (omega arith) d')

  by_span : (k x p q : ℕ) (t : Tree) → q < p + k → Derives f E x p q t → Chosen x p q
  by_span zero x p q t lt d = let le = ahead d in absurd (omega arith)
  by_span (suc k) x p q t lt d =
      by_height p q (λ y m n u less d'. by_span k y m n u (omega (arith, less, lt)) d') (suc (flat.heights.height x)) x t (omega arith) d

  pub leaves_some : (ranking : Ranking) → LeavesSome f (FlatEdges f (Held edges)) (allowed_by w ranking f (FlatEdges f (Held edges)))
  leaves_some NoRanks x p q t d = (t, d, all_alike w f E t)
  leaves_some RuleRanks x p q t d = (t, d, all_ruled w f E t)
  leaves_some HighRanks x p q t d = by_span (suc q) x p q t (omega arith) d
