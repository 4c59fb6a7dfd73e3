-- What `find_map` finds in a list: the first, by what each element has.
use Rattle.std.proofs.Common.{◌≡◌, ℕ, suc, ◌+◌, ◌<◌, true, List, [], ◌∷◌, ◌++◌, Option, Some, None, refl, sym, ap, ◌∙◌, subst}
use Rattle.std.specs.Prelude.{flat_map, option_map, MatchOption, IfSome}
use Rattle.std.specs.Fn.{Called}
use denote.Param.Members.{Mut}
use Rattle.std.specs.List.{FoldsTo, slice_get}
use Rattle.std.specs.Iterator.{AlwaysYields, FindsMapped, Yields, YieldsThen}
use Rattle.std.specs.Iterator.Runs.{SomeRun, AllItemsGive, IsFirstToGive}
use Rattle.std.proofs.iter.runs.Made.{took, at-is}
use Rattle.std.proofs.lemmas.Iterator.{YieldsList}
use Rattle.dsl_faults.specs.Found.{first_of}
use Rattle.dsl_faults.proofs.Firsts.{first_of_prefix, none_first, no_first}

module _ {S A B F U W : Type 0} (steps : S → Option A → S → Type 0) (v : A → B) (g : Mut F (A × Unit {0}) (Option U)) (f : F) (Says : U → List W → Type 0) (each : B → List W)
    (first : (y : U) (ws more : List W) → Says y ws → Says y (ws ++ more))
    (k : (x : A) (o : Option U) (q : F) → Called g f (x, tt) o q → (q ≡ f) × MatchOption o (each (v x) ≡ []) (λ y. Says y (each (v x)))) where
  nothing_here : (x : A) (b : B) (bs : List B) → v x ≡ b → each (v x) ≡ [] → flat_map each (b ∷ bs) ≡ flat_map each bs
  nothing_here x b bs e n = ap (λ ws. ws ++ flat_map each bs) (ap each (sym e) ∙ n)

  found : (xs : List A) (o : Option A) (all : List B) (y : U) (s u : S) (j : F) → AlwaysYields steps v s all → YieldsThen steps s xs o u → FoldsTo (λ p x q. Called g p (x, tt) None q) f xs j →
      MatchOption o (Some y ≡ None) (λ x. (h : F) × Called g j (x, tt) (Some y) h) → Says y (flat_map each all)
  found [] None all y s u j a t c m = cc
  found [] (Some x) [] y s u j a t c m = absurd (a x u (subst (λ w. steps w (Some x) u) (sym t.1) t.2))
  found [] (Some x) (b ∷ bs) y s u j a t c m =
      let step : steps s (Some x) u = subst (λ w. steps w (Some x) u) (sym t.1) t.2 in
      let says : Says y (each (v x)) = (k x (Some y) m.0 (subst (λ w. Called g w (x, tt) (Some y) m.0) (sym c) m.1)).1 in
      first y (each b) (flat_map each bs) (subst (λ z. Says y (each z)) (a.1 x u step).0 says)
  found (x ∷ xs) o [] y s u j a t c m = absurd (a x t.1.0 t.1.1)
  found (x ∷ xs) o (b ∷ bs) y s u j a t c m =
      let next = a.1 x t.1.0 t.1.1 in
      let kept = k x None c.0 c.1 in
      subst (Says y) (sym (nothing_here x b bs next.0 kept.1)) (found xs o bs y t.1.0 u j next.1 (t.0, t.1.2, t.2) (subst (λ w. FoldsTo (λ p z q. Called g p (z, tt) None q) w xs j) kept.0 c.2) m)

  none : (xs : List A) (all : List B) (s t u : S) → AlwaysYields steps v s all → Yields steps s xs t → steps t None u → ((i : ℕ) → IfSome (slice_get xs i) (λ x. each (v x) ≡ [])) → flat_map each all ≡ []
  none [] [] s t u a y e n = refl
  none [] (b ∷ bs) s t u a y e n = absurd (a.0 u (subst (λ w. steps w None u) (sym y) e))
  none (x ∷ xs) [] s t u a y e n = absurd (a x y.0 y.1)
  none (x ∷ xs) (b ∷ bs) s t u a y e n =
      let next = a.1 x y.0 y.1 in
      nothing_here x b bs next.0 (n 0) ∙ none xs bs y.0 t u next.1 y.2 e (λ i. n (suc i))

  at_place : (o : Option A) → IfSome o (λ x. Called g f (x, tt) None f) → IfSome o (λ x. each (v x) ≡ [])
  at_place None c = tt
  at_place (Some x) c = (k x None f c).1

  pub found_in : (all : List B) (s u : S) (r : Option U) → YieldsList steps v s all → FindsMapped steps g s f r u →
      SomeRun steps s (λ p. MatchOption r ((p.whole ≡ true) × AllItemsGive p g f None) (λ y. (i : ℕ) × (i < p.len) × (p.len ≡ i + 1) × IsFirstToGive p g f (Some y) None i)) →
      MatchOption r (flat_map each all ≡ []) (λ y. Says y (flat_map each all))
  found_in all s u (Some y) l ran runs = found ran.0 ran.1 all y s u ran.2 l.runs ran.3 ran.4 ran.5
  found_in all s u None l ran runs =
      let p = runs.0 in
      let from : p.from ≡ s = runs.1 in
      let whole = runs.2.0 in
      let took' = took p in
      let end = took'.2 whole in
      let gives = runs.2.1 (λ a r q c. (k a.0 r q c).0) in
      none p.items all s took'.0 end.0 l.runs (subst (λ w. Yields steps w p.items took'.0) from took'.1) end.1 (λ i. at_place (slice_get p.items i) (subst (λ o. IfSome o (λ x. Called g f (x, tt) None f)) (at-is p i) (gives i)))

-- a closure that keeps its two captures is as it was
pub both_kept : {A B : Type 0} (q f : A × B) → q.0 ≡ f.0 → q.1 ≡ f.1 → q ≡ f
both_kept q f a b = λ i. (a i, b i)

module _ {U W : Type 0} (view : U → W) where
  told : (o : Option U) (ws : List W) → option_map view o ≡ first_of ws → MatchOption o (ws ≡ []) (λ y. first_of ws ≡ Some (view y))
  told None ws e = none_first ws (sym e)
  told (Some y) ws e = sym e

  said : (o : Option U) (ws : List W) → MatchOption o (ws ≡ []) (λ y. first_of ws ≡ Some (view y)) → option_map view o ≡ first_of ws
  said None ws e = sym (no_first ws e)
  said (Some y) ws e = sym e

-- what is found, as `view` takes it, is the first of all that the elements have
pub first_in : {S A B F U W : Type 0} {steps : S → Option A → S → Type 0} {v : A → B} {g : Mut F (A × Unit {0}) (Option U)} {f : F} (view : U → W) (each : B → List W) (all : List B) (s u : S) (r : Option U) → FindsMapped steps g s f r u →
    SomeRun steps s (λ p. MatchOption r ((p.whole ≡ true) × AllItemsGive p g f None) (λ y. (i : ℕ) × (i < p.len) × (p.len ≡ i + 1) × IsFirstToGive p g f (Some y) None i)) → YieldsList steps v s all →
    ((x : A) (o : Option U) (q : F) → Called g f (x, tt) o q → (q ≡ f) × (option_map view o ≡ first_of (each (v x)))) → option_map view r ≡ first_of (flat_map each all)
first_in {steps = steps} {v = v} {g = g} {f = f} view each all s u r ran runs l k =
    said view r (flat_map each all) (found_in steps v g f (λ y ws. first_of ws ≡ Some (view y)) each (λ y ws more. first_of_prefix ws more (view y)) (λ x o q c. let e = k x o q c in (e.0, told view o (each (v x)) e.1)) all s u r l ran runs)
