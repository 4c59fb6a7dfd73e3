-- The lines of a list are those of its trees.
use Rattle.std.proofs.Common.{◌≡◌, ℕ, zero, suc, ◌<◌, ◌+◌, List, [], ◌∷◌, ◌++◌, Some, map, length, ◌⊎◌, inl, inr, refl, sym, ap, ◌∙◌, subst, arith, length-append}
use Rattle.std.specs.Prelude.{slice_get, slice_index_or}
use Rattle.std.proofs.lemmas.Option.{slice_get-get_or}
use Rattle.finite_sets.proofs.Lists.{get_left, get_last, get_pushed}
use Rattle.grammar_model.specs.Values.{Value}
use Rattle.grammar_model.specs.Text.{text_of}
use Rattle.value_text.specs.Pool.{AreIds}
use Rattle.plain_lister.specs.declared.Derivations.{Derivations}
use Rattle.plain_lister.specs.declared.lines.Told.{Told}
use Rattle.plain_lister.specs.Arena.{tree_at}
use Rattle.plain_lister.specs.Told.{AllTold, IsValueTold, AreValuesTold}
use Rattle.plain_lister.specs.Listing.{trees_of, line_of}
use Rattle.plain_lister.specs.Lines.{value_line}
use Rattle.plain_lister.proofs.Pooled.{value_of_told}

pub values_none : (xs : List Told) (ids : List ℕ) → ids ≡ [] → AreValuesTold xs [] ids
values_none xs ids e = subst (AreValuesTold xs []) (sym e) (refl, λ j id some. absurd cc)

-- one more value that was told
pub values_more : (xs : List Told) (trees ids : List ℕ) (k id : ℕ) → AreValuesTold xs trees ids → IsValueTold xs k id → AreValuesTold xs (trees ++ k ∷ []) (ids ++ id ∷ [])
values_more xs trees ids k id all v = (length-append ids (id ∷ []) ∙ ap (λ n. n + 1) all.0 ∙ sym (length-append trees (k ∷ [])), λ j y e. go j y (get_pushed ids id j y e))
  where
    go : (j y : ℕ) → (slice_get ids j ≡ Some y) ⊎ ((j ≡ length ids) × (id ≡ y)) → (n : ℕ) × (slice_get (trees ++ k ∷ []) j ≡ Some n) × IsValueTold xs n y
    go j y (inl e) = let (n, at, t) = all.1 j y e in (n, get_left trees (k ∷ []) j n at, t)
    go j y (inr (e, same)) = (k, ap (slice_get (trees ++ k ∷ [])) (e ∙ all.0) ∙ get_last trees k, subst (IsValueTold xs k) same v)

pointwise : (f g : ℕ → List ℕ) (ids trees : List ℕ) → length ids ≡ length trees → ((j id : ℕ) → slice_get ids j ≡ Some id → (k : ℕ) × (slice_get trees j ≡ Some k) × (f id ≡ g k)) → map f ids ≡ map g trees
pointwise f g [] [] len h = refl
pointwise f g [] (k ∷ ks) len h = absurd (omega arith)
pointwise f g (i ∷ is) [] len h = absurd (omega arith)
pointwise f g (i ∷ is) (k ∷ ks) len h =
    let (n, at, e) = h 0 i refl in
    let same : k ≡ n = cc in
    let rest = pointwise f g is ks (omega arith) (λ j id at'. h (suc j) id at') in
    λ z. ((e ∙ ap g (sym same)) z ∷ rest z)

map_twice : {A : Type 0} (f : A → List ℕ) (g : ℕ → A) (ks : List ℕ) → map (λ k. f (g k)) ks ≡ map f (map g ks)
map_twice f g [] = refl
map_twice f g (k ∷ ks) = ap (λ z. f (g k) ∷ z) (map_twice f g ks)

pub lines_are : (d : Derivations) (pool : List Value) (xs : List Told) (ids : List ℕ) → AllTold d pool xs d.cells.items → AreValuesTold xs d.trees.items ids → map (value_line pool) ids ≡ map (line_of d) (trees_of d)
lines_are d pool xs ids all values =
    pointwise (value_line pool) (λ k. line_of d (tree_at d.cells.items k)) ids d.trees.items values.0
    (λ j id e. (let (k, at, t) = values.1 j id e in (k, at, ap (λ v. text_of v ++ 10 ∷ []) (value_of_told d pool xs d.cells.items k id all t).1)))
    ∙ map_twice (line_of d) (tree_at d.cells.items) d.trees.items

pub ids_are : (d : Derivations) (pool : List Value) (xs : List Told) (ids : List ℕ) → AllTold d pool xs d.cells.items → AreValuesTold xs d.trees.items ids → AreIds pool ids
ids_are d pool xs ids all values k e lt =
    let (n, at, t) = values.1 k (slice_index_or ids k e) (slice_get-get_or ids k e lt) in
    (value_of_told d pool xs d.cells.items n (slice_index_or ids k e) all t).0

pub line_at : (f : ℕ → List ℕ) (ids : List ℕ) (k id : ℕ) → k < length ids → id ≡ slice_index_or ids k id → slice_get (map f ids) k ≡ Some (f id)
line_at f [] k id lt at = absurd (omega arith)
line_at f (x ∷ xs) zero id lt at = ap (λ n. Some (f n)) (sym at)
line_at f (x ∷ xs) (suc k) id lt at = line_at f xs k id (omega arith) at
