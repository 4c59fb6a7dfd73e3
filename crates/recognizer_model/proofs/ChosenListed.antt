-- The chosen derivations of a flat grammar have a list: of the finite list of all trees, those that are chosen can be told.
use Rattle.std.proofs.Common.{◌≡◌, ℕ, ◌<◌, ◌≤ℤ◌, List, [], ◌∷◌, ◌⊎◌, inl, inr, refl, sym, ◌∙◌, subst, arith}
use Rattle.std.specs.Prelude.{◌↔◌, Contains}
use Rattle.std.specs.List.Sorted.{IsStrictlySortedBy}
use Rattle.std.specs.declared.cmp.Ordering.{Ordering}
use Rattle.std.specs.declared.cmp.Ordering.TheVariants.{Less}
use Rattle.std.proofs.lemmas.Int.{by_lt_z, ints}
use Rattle.finite_sets.proofs.Members.{among_from, contains_from, Among}
use Rattle.grammar_model.specs.Grammar.{Grammar, slot_of}
use Rattle.grammar_model.specs.Trees.{Tree, Children, Leaf, Nulled, Node, Child}
use Rattle.grammar_model.specs.Derives.{Held}
use Rattle.grammar_model.specs.Derives
use Rattle.grammar_model.specs.declared.Edge.{Edge}
use Rattle.grammar_model.specs.declared.Ranking.{Ranking}
use Rattle.grammar_model.specs.declared.Ranking.TheVariants.{None as NoRanks, Rule as RuleRanks, High as HighRanks}
use Rattle.grammar_model.specs.Order.{tree_cmp}
use Rattle.grammar_model.proofs.Lists.{each_from, each_at}
use Rattle.recognizer_model.specs.Flat.{FlatGrammar, IsRule, lhs_of}
use Rattle.recognizer_model.specs.FlatDerives.{Derives, Token, Null, Rule, Spans, Nothing, More}
use Rattle.recognizer_model.specs.FlatForm.{FlatEdges, flat_order}
use Rattle.recognizer_model.specs.Acceptable.{OnlyTerminals}
use Rattle.recognizer_model.specs.Invariant.{IsFlat}
use Rattle.recognizer_model.specs.View.{grammar_view}
use Rattle.recognizer_model.specs.Chosen.{AreAllowed, AreAllowedIn, flat_rank, IsBestRule, allowed_by}
use Rattle.recognizer_model.proofs.Views.{symbol_viewed, symbol_back}
use Rattle.recognizer_model.proofs.FlatListed.{flat_list}
use Rattle.recognizer_model.proofs.Leaving.{all_alike, all_ruled}

-- it is so, or it is not
abbrev Told : Type 0 → Type 0
Told P = P ⊎ (P → ⊥)

-- those of a sorted list that have a property, in order
module _ {X : Type 0} (cmp : X → X → Ordering) (P : X → Type 0) where
  record Kept (xs : List X) : Type 0 where
    pub list : List X
    pub sorted : IsStrictlySortedBy cmp list
    pub is : (x : X) → Among x list → Among x xs × P x
    pub all : (x : X) → Among x xs → P x → Among x list

  kept : (xs : List X) → ((x : X) → Among x xs → Told (P x)) → IsStrictlySortedBy cmp xs → Kept xs
  unfolding IsStrictlySortedBy
  kept [] told s = record { list = []; sorted = tt; is = λ x m. absurd m; all = λ x m p. absurd m }
  kept (x ∷ xs) told s = go (told x (inl refl)) (kept xs (λ y m. told y (inr m)) s.1)
    where
      go : Told (P x) → Kept xs → Kept (x ∷ xs)
      go (inl p) k = record {
        list = x ∷ k.list;
        sorted = (each_from (λ z. cmp x z ≡ Less) k.list (λ z m. each_at (λ z. cmp x z ≡ Less) xs z s.0 (k.is z m).0), k.sorted);
        is = is;
        all = all;
      }
        where
          is : (y : X) → (x ≡ y) ⊎ Among y k.list → ((x ≡ y) ⊎ Among y xs) × P y
          is y (inl e) = (inl e, subst P e p)
          is y (inr m) = (inr (k.is y m).0, (k.is y m).1)

          all : (y : X) → (x ≡ y) ⊎ Among y xs → P y → (x ≡ y) ⊎ Among y k.list
          all y (inl e) q = inl e
          all y (inr m) q = inr (k.all y m q)
      go (inr not) k = record { list = k.list; sorted = k.sorted; is = λ y m. (inr (k.is y m).0, (k.is y m).1); all = all }
        where
          all : (y : X) → (x ≡ y) ⊎ Among y xs → P y → Among y k.list
          all y (inl e) q = absurd (not (subst P (sym e) q))
          all y (inr m) q = k.all y m q

module _ (f : FlatGrammar) (w : Grammar) (flat : IsFlat f) (edges : List Edge) (forward : (s p q : ℕ) → Held edges s p q → p < q) where
  abbrev E : Derives.Edges
  E = FlatEdges f (Held edges)

  abbrev F : Grammar
  F = grammar_view f

  only : OnlyTerminals f (FlatEdges f (Held edges))
  only x p q e = (e.0, e.1)

  viewed : (x p q : ℕ) (t : Tree) → Derives f E x p q t → Derives.Derives F E (slot_of x) p q t
  viewed x p q t d = symbol_viewed f flat.marks E only flat.no_rules flat.terminals_span d

  back : (x p q : ℕ) (t : Tree) → Derives.Derives F E (slot_of x) p q t → Derives f E x p q t
  back x p q t d = symbol_back f flat.marks E only flat.no_rules flat.terminals_span t (slot_of x) p q d

  -- the tree's root has no rule of a higher rank
  abbrev IsBelow : ℕ → Tree → Type 0
  IsBelow r (Leaf x p q) = Unit {0}
  IsBelow r (Nulled x p) = Unit {0}
  IsBelow r (Node s cs p q) = flat_rank w HighRanks f s ≤ℤ flat_rank w HighRanks f r

  below_told : (r : ℕ) (t : Tree) → Told (IsBelow r t)
  below_told r (Leaf x p q) = inl tt
  below_told r (Nulled x p) = inl tt
  below_told r (Node s cs p q) = by_lt_z {P = Told (IsBelow r (Node s cs p q))} (flat_rank w HighRanks f r) (flat_rank w HighRanks f s) (λ lt. inr (λ le. omega (arith, ints, lt, le))) (λ le. inl le)

  all_below : (r : ℕ) (ts : List Tree) → Told ((t : Tree) → Among t ts → IsBelow r t)
  all_below r [] = inl (λ t m. absurd m)
  all_below r (t ∷ ts) = go (below_told r t) (all_below r ts)
    where
      go : Told (IsBelow r t) → Told ((u : Tree) → Among u ts → IsBelow r u) → Told ((u : Tree) → (t ≡ u) ⊎ Among u ts → IsBelow r u)
      go (inl a) (inl b) = inl both
        where
          both : (u : Tree) → (t ≡ u) ⊎ Among u ts → IsBelow r u
          both u (inl e) = subst (IsBelow r) e a
          both u (inr m) = b u m
      go (inr a) b = inr (λ h. a (h t (inl refl)))
      go a (inr b) = inr (λ h. b (λ u m. h u (inr m)))

  -- the trees of the rule's symbol over the span are below the rule where it is the best
  is_below : (r x p q : ℕ) → lhs_of f r ≡ x → IsBestRule w HighRanks f E r p q → {t : Tree} → Derives f E x p q t → IsBelow r t
  is_below r x p q e best (Token h) = tt
  is_below r x p q e best (Null n) = tt
  is_below r x p q e best (Rule {r = s} {cs = cs} is same lt over) = best s cs is (same ∙ sym e) over

  best_told : (r p q : ℕ) → IsRule f r → p < q → Told (IsBestRule w HighRanks f E r p q)
  best_told r p q rule lt =
      let (trees, all) = flat_list f w flat HighRanks edges forward (slot_of (lhs_of f r)) p q in
      go trees (λ t d. among_from trees t ((all.each t).1 (viewed (lhs_of f r) p q t d))) (λ t m. back (lhs_of f r) p q t ((all.each t).0 (contains_from trees t m))) (all_below r trees)
    where
      go : (trees : List Tree) → ((t : Tree) → Derives f E (lhs_of f r) p q t → Among t trees) → ((t : Tree) → Among t trees → Derives f E (lhs_of f r) p q t) →
          Told ((t : Tree) → Among t trees → IsBelow r t) → Told (IsBestRule w HighRanks f E r p q)
      go trees into from (inl below) = inl (λ other cs is same over. below (Node other cs p q) (into (Node other cs p q) (Rule is same lt over)))
      go trees into from (inr not) = inr (λ best. not (λ t m. is_below r (lhs_of f r) p q refl best (from t m)))

  mutual
    tree_told : {x p q : ℕ} {t : Tree} → Derives f E x p q t → Told (AreAllowed (allowed_by w HighRanks f E) t)
    tree_told (Token e) = inl tt
    tree_told (Null n) = inl tt
    tree_told (Rule {p = p} {q = q} {r = r} {cs = cs} rule l lt s) = go (best_told r p q rule lt) (parts_told s)
      where
        go : Told (IsBestRule w HighRanks f E r p q) → Told (AreAllowedIn (allowed_by w HighRanks f E) cs) → Told (AreAllowed (allowed_by w HighRanks f E) (Node r cs p q))
        go (inl a) (inl b) = inl (a, b)
        go (inr a) b = inr (λ h. a h.0)
        go a (inr b) = inr (λ h. b h.1)

    parts_told : {r d p q : ℕ} {cs : Children} → Spans f E r d p q cs → Told (AreAllowedIn (allowed_by w HighRanks f E) cs)
    parts_told Nothing = inl tt
    parts_told (More {cs = cs} {t = t} s e d) = go (parts_told s) (tree_told d)
      where
        go : Told (AreAllowedIn (allowed_by w HighRanks f E) cs) → Told (AreAllowed (allowed_by w HighRanks f E) t) → Told (AreAllowedIn (allowed_by w HighRanks f E) (Child cs t))
        go (inl a) (inl b) = inl (a, b)
        go (inr a) b = inr (λ h. a h.0)
        go a (inr b) = inr (λ h. b h.1)

  allowed_told : (ranking : Ranking) {x p q : ℕ} {t : Tree} → Derives f E x p q t → Told (AreAllowed (allowed_by w ranking f E) t)
  allowed_told NoRanks {t = t} d = inl (all_alike w f E t)
  allowed_told RuleRanks {t = t} d = inl (all_ruled w f E t)
  allowed_told HighRanks d = tree_told d

  -- the list of the chosen trees of a symbol over a span, in order
  pub chosen_list : (ranking : Ranking) (x p q : ℕ) → (trees : List Tree) × IsStrictlySortedBy (tree_cmp (flat_order w ranking f)) trees ×
      ((t : Tree) → Contains trees t ↔ (Derives.Derives F E (slot_of x) p q t × AreAllowed (allowed_by w ranking f E) t))
  chosen_list ranking x p q =
      let (trees, all) = flat_list f w flat ranking edges forward (slot_of x) p q in
      let derived = λ (t : Tree) (m : Among t trees). (all.each t).0 (contains_from trees t m) in
      let k = kept (tree_cmp (flat_order w ranking f)) (AreAllowed (allowed_by w ranking f E)) trees (λ t m. allowed_told ranking (back x p q t (derived t m))) all.sorted in (
        k.list,
        k.sorted,
        λ t. (
          λ c. (let (m, a) = k.is t (among_from k.list t c) in (derived t m, a)),
          λ (d, a). contains_from k.list t (k.all t (among_from trees t ((all.each t).1 d)) a),
        ),
      )
