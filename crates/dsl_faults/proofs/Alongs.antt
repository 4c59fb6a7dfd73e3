-- A search that keeps a state, up to an element and after it.
use Rattle.std.proofs.Common.{◌≡◌, ℕ, suc, ◌+◌, ◌<◌, ◌≤◌, true, false, List, ◌∷◌, ◌++◌, length, drop, get_or, Option, Some, None, sym, ap, ◌∙◌, add-one}
use Rattle.std.specs.Prelude.{option_map, is_some}
use Rattle.std.proofs.lemmas.List.{at_drop_all}
use Rattle.std.proofs.Math.Seq.{drop-cons}
use Rattle.language_model.specs.Building.{Fault}
use Rattle.dsl_faults.specs.declared.found.Found.{Found}
use Rattle.dsl_faults.specs.Found.{along, fault_of, first_of}
use Rattle.dsl_faults.proofs.Firsts.{first_of_prefix, none_first}

module _ {S A : Type 0} (each : S → A → List Fault) (after : S → A → S) (first : S) (xs : List A) (i : ℕ) (s : S) (so_far : along each after first xs ≡ along each after s (drop i xs)) where
  here : (x : A) → i < length xs → x ≡ get_or xs i x → along each after first xs ≡ each s x ++ along each after (after s x) (drop (i + 1) xs)
  here x lt is = so_far ∙ ap (along each after s) (drop-cons xs i x lt ∙ ap (λ y. y ∷ drop (suc i) xs) (sym is)) ∙ ap (λ k. each s x ++ along each after (after s x) (drop k xs)) (sym (add-one i))

  pub along_on : (x : A) (o : Option Found) (t : S) → i < length xs → x ≡ get_or xs i x → (option_map fault_of o ≡ first_of (each s x)) × (t ≡ after s x) → is_some o ≡ false → along each after first xs ≡ along each after t (drop (i + 1) xs)
  along_on x None t lt is e n = here x lt is ∙ ap (λ fs. fs ++ along each after (after s x) (drop (i + 1) xs)) (none_first (each s x) (sym e.0)) ∙ ap (λ u. along each after u (drop (i + 1) xs)) (sym e.1)
  along_on x (Some y) t lt is e n = cc

  pub along_stops : (x : A) (o : Option Found) (t : S) → i < length xs → x ≡ get_or xs i x → (option_map fault_of o ≡ first_of (each s x)) × (t ≡ after s x) → is_some o ≡ true → option_map fault_of o ≡ first_of (along each after first xs)
  along_stops x None t lt is e n = cc
  along_stops x (Some y) t lt is e n = sym (ap first_of (here x lt is) ∙ first_of_prefix (each s x) (along each after (after s x) (drop (i + 1) xs)) (fault_of y) (sym e.0))

  pub along_ends : length xs ≤ i → None ≡ first_of (along each after first xs)
  along_ends le = sym (ap first_of (so_far ∙ at_drop_all (along each after s) xs i le))
