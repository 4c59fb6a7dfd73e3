-- Places by the numbers of shapes and of symbols.
use Rattle.std.proofs.Common.{◌≡◌, ◌⊎◌, inl, inr, ℕ, zero, suc, List, [], ◌∷◌, ◌++◌, Option, Some, slice_get, slice_set, refl, sym, ◌∙◌, ap, subst}
use Rattle.std.specs.Prelude.{None, IfSome}
use Rattle.std.specs.declared.vec.Vec.{Vec}
use Rattle.std.specs.declared.alloc.Global.{Global}
use Rattle.finite_sets.proofs.Lists.{get_pushed}
use Rattle.shared_lists.specs.declared.places.Places.{Places}
use Rattle.shared_lists.specs.Placed.{HasPlaces}

pub places_there : (blocks : List (Vec Places Global)) (kind symbol : ℕ) (block : Vec Places Global) (o : Option Places) → slice_get blocks kind ≡ Some block → o ≡ slice_get block.items symbol → IfSome o (λ p. HasPlaces blocks kind symbol p)
places_there blocks kind symbol block None is e = tt
places_there blocks kind symbol block (Some p) is e = (block, is, sym e)

module _ (blocks : List (Vec Places Global)) where
  -- no places are noted for one shape more
  pub none_more : (new : List (Vec Places Global)) (none : Vec Places Global) → new ≡ blocks ++ none ∷ [] → none.items ≡ [] → (k x : ℕ) (p : Places) → HasPlaces new k x p → HasPlaces blocks k x p
  none_more new none is empty k x p (b, at, has) = elim (get_pushed blocks none k b (subst (λ (l : List (Vec Places Global)). slice_get l k ≡ Some b) is at)) [
    | inl a ↦ (b, a, has)
    | inr (there, same) ↦
        let e : None ≡ Some p = ap (λ (l : List Places). slice_get l x) (sym empty) ∙ (ap (λ (v : Vec Places Global). slice_get v.items x) same ∙ has) in
        absurd (cc)
  ]

  -- those of a shape are noted
  pub put_block : (kind : ℕ) (block : Vec Places Global) (k x : ℕ) (p : Places) → HasPlaces (slice_set blocks kind block) k x p → HasPlaces blocks k x p ⊎ ((k ≡ kind) × (slice_get block.items x ≡ Some p))
  put_block kind block k x p (b, at, has) = elim (set_there blocks kind k b at) [
    | inl a ↦ inl (b, a, has)
    | inr (there, same) ↦ inr (there, ap (λ (v : Vec Places Global). slice_get v.items x) same ∙ has)
  ]
    where
      set_there : (l : List (Vec Places Global)) (i j : ℕ) (b : Vec Places Global) → slice_get (slice_set l i block) j ≡ Some b → (slice_get l j ≡ Some b) ⊎ ((j ≡ i) × (block ≡ b))
      set_there [] i j b e = inl e
      set_there (y ∷ l) zero zero b e = inr (refl, (let s : block ≡ b = cc in s))
      set_there (y ∷ l) zero (suc j) b e = inl e
      set_there (y ∷ l) (suc i) zero b e = inl e
      set_there (y ∷ l) (suc i) (suc j) b e = elim (set_there l i j b e) [ inl a ↦ inl a | inr (s, h) ↦ inr (ap suc s, h) ]
