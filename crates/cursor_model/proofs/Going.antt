-- Going on from places.
use Rattle.std.proofs.Common.{◌≡◌, ℕ, List, [], ◌∷◌, ◌++◌, map, Contains, refl, sym, ap, ◌∙◌, subst, append_assoc, arith}
use Rattle.std.specs.List.{concat}
use Rattle.std.specs.List.Sorted.{IsStrictlySortedBy}
use Rattle.std.specs.List.{AllByRecursion}
use Rattle.std.specs.declared.cmp.Ordering.{Ordering}
use Rattle.std.specs.declared.cmp.Ordering.TheVariants.{Less}
use Rattle.std.proofs.lemmas.List.{map-append}
use Rattle.std.proofs.lemmas.List.Folds.{concat-append}
use Rattle.std.proofs.lemmas.List.Elements.{Contains-append_right}
use Rattle.grammar_model.specs.Grammar.{Grammar, Slot}
use Rattle.grammar_model.specs.Trees.{Tree}
use Rattle.grammar_model.specs.declared.Ranking.{Ranking}
use Rattle.grammar_model.specs.Order.{rank_order, tree_cmp}
use Rattle.grammar_model.specs.declared.Edge.{Edge}
use Rattle.grammar_model.specs.Derives.{Held, Derives}
use Rattle.grammar_model.specs.Chosen.{AreChosen}
use Rattle.grammar_model.proofs.Sorting.{ranks_order}
use Rattle.grammar_model.proofs.Total.{derivations_ordered}
use Rattle.cursor_model.specs.Cursor.{cursor_of, cursor_text}
use Rattle.cursor_model.specs.Laws.{AreUnits, PlacesFollow, RestIsOne, PlacesGoOn}
use Rattle.cursor_model.specs.Rest.{start_text, place_after, IsPlaceOf, IsRest}
use Rattle.cursor_model.proofs.Texts.{first_letter}
use Rattle.cursor_model.proofs.Bare.{has_first, cursors_differ}

pub places_follow : PlacesFollow
places_follow text [] more = refl
places_follow text (t ∷ before) more = places_follow (cursor_of t) before more

-- no cursor is the text of the start
no_start : (t : Tree) → cursor_of t ≡ start_text → ⊥
no_start t e =
    let x = has_first t in
    first_letter x.first x.others 48 [] (omega arith) (ap cursor_text (sym x.is) ∙ e)

-- the last of some derivations, whose cursor is the place after them
record HasLast (text : List ℕ) (t : Tree) (ts : List Tree) : Type 0 where
  front : List Tree
  last : Tree
  is : t ∷ ts ≡ front ++ last ∷ []
  place : place_after text (t ∷ ts) ≡ cursor_of last

has_last : (text : List ℕ) (t : Tree) (ts : List Tree) → HasLast text t ts
has_last text t [] = record { front = []; last = t; is = refl; place = refl }
has_last text t (u ∷ ts) =
    let r = has_last (cursor_of t) u ts in
    record { front = t ∷ r.front; last = r.last; is = ap (λ l. t ∷ l) r.is; place = r.place }

-- ---- the parts of a list without repeats

record AreParts (b c x y : List Tree) : Type 0 where
  before : b ≡ c
  rest : x ≡ y

each_here : (P : Tree → Type 0) (c y : List Tree) (t : Tree) → AllByRecursion P (c ++ t ∷ y) → P t
each_here P [] y t all = all.0
each_here P (k ∷ c) y t all = each_here P c y t all.1

parts : (R : Tree → Tree → Ordering) → ((t : Tree) → R t t ≡ Less → ⊥) → (b c x y : List Tree) (t : Tree) → IsStrictlySortedBy R (b ++ t ∷ x) → b ++ t ∷ x ≡ c ++ t ∷ y → AreParts b c x y
unfolding IsStrictlySortedBy
parts R apart [] [] x y t s e = record { before = refl; rest = (let tails : x ≡ y = cc in tails) }
parts R apart [] (k ∷ c) x y t s e =
    let tails : x ≡ c ++ t ∷ y = cc in
    absurd (apart t (each_here (λ z. R t z ≡ Less) c y t (subst (λ l. AllByRecursion (λ z. R t z ≡ Less) l) tails s.0)))
parts R apart (k ∷ b) [] x y t s e =
    let heads : k ≡ t = cc in
    absurd (apart t (subst (λ h. R h t ≡ Less) heads (each_here (λ z. R k z ≡ Less) b x t s.0)))
parts R apart (k ∷ b) (l ∷ c) x y t s e =
    let heads : k ≡ l = cc in
    let tails : b ++ t ∷ x ≡ c ++ t ∷ y = cc in
    let r = parts R apart b c x y t s.1 tails in
    let before = r.before in
    record { before = λ i. heads i ∷ before i; rest = r.rest }

-- ---- what is left

module _ (g : Grammar) (edges : List Edge) (ranking : Ranking) (slot : Slot) (p q : ℕ) (trees : List Tree) (units : AreUnits edges) (are : AreChosen g (Held edges) ranking slot p q trees) where
  derived : (front rest : List Tree) (t : Tree) → trees ≡ front ++ t ∷ rest → Derives g (Held edges) slot p q t
  derived front rest t e = ((are.each t).0 (subst (λ l. Contains l t) (sym e) (Contains-append_right front (t ∷ rest) t (0, omega arith, refl)))).0

  apart : (t : Tree) → tree_cmp (rank_order g ranking) t t ≡ Less → ⊥
  apart = (derivations_ordered g (Held edges) (rank_order g ranking) (ranks_order g ranking) slot p q).irreflexive

  same_rest : (front others xs ys : List Tree) (t u : Tree) → trees ≡ front ++ t ∷ xs → trees ≡ others ++ u ∷ ys → cursor_of t ≡ cursor_of u → xs ≡ ys
  same_rest front others xs ys t u a b e =
      let one : t ≡ u = cursors_differ g edges slot p q t u units (derived front xs t a) (derived others ys u b) e in
      let b' : trees ≡ others ++ t ∷ ys = subst (λ v. trees ≡ others ++ v ∷ ys) (sym one) b in
      (parts (tree_cmp (rank_order g ranking)) apart front others xs ys t (subst (IsStrictlySortedBy (tree_cmp (rank_order g ranking))) a are.sorted) (sym a ∙ b')).rest

  one_rest : (text : List ℕ) (before others xs ys : List Tree) → IsPlaceOf text trees before xs → IsPlaceOf text trees others ys → xs ≡ ys
  one_rest text [] [] xs ys a b = sym a.parts ∙ b.parts
  one_rest text [] (u ∷ us) xs ys a b = let last = has_last start_text u us in absurd (no_start last.last (sym last.place ∙ sym b.is ∙ a.is))
  one_rest text (t ∷ ts) [] xs ys a b = let last = has_last start_text t ts in absurd (no_start last.last (sym last.place ∙ sym a.is ∙ b.is))
  one_rest text (t ∷ ts) (u ∷ us) xs ys a b =
      let x = has_last start_text t ts in
      let y = has_last start_text u us in
      same_rest x.front y.front xs ys x.last y.last
      (a.parts ∙ ap (λ l. l ++ xs) x.is ∙ append_assoc x.front (x.last ∷ []) xs)
      (b.parts ∙ ap (λ l. l ++ ys) y.is ∙ append_assoc y.front (y.last ∷ []) ys)
      (sym x.place ∙ sym a.is ∙ b.is ∙ y.place)

pub rest_is_one : RestIsOne
rest_is_one g edges ranking slot p q trees units are text xs ys (before, a) (others, b) = one_rest g edges ranking slot p q trees units are text before others xs ys a b

pub places_go_on : PlacesGoOn
places_go_on g edges ranking slot p q trees before rest units are e within =
    let named : IsRest trees (place_after start_text before) rest = (before, record { parts = e; within = within; is = refl }) in
    let alone : (others : List Tree) → IsRest trees (place_after start_text before) others → others ≡ rest =
    λ others is. rest_is_one g edges ranking slot p q trees units are (place_after start_text before) others rest is named in
    record {
      named = named;
      alone = alone;
      whole = λ line others is.
          ap (λ l. concat (map line before) ++ concat (map line l)) (alone others is)
          ∙ sym (concat-append (map line before) (map line rest))
          ∙ ap concat (sym (map-append line before rest))
          ∙ ap (λ l. concat (map line l)) (sym e);
    }
