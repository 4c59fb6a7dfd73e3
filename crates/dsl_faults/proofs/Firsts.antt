-- The first of a list that is made piece by piece.
use Rattle.std.proofs.Common.{◌≡◌, ℕ, zero, suc, ◌+◌, ◌<◌, List, [], ◌∷◌, ◌++◌, length, take, get_or, Option, Some, None, refl, sym, ◌∙◌, arith, add-one, subst, ◌≤◌, true, false}
use Rattle.std.specs.Prelude.{flat_map, option_map, option_to_list, is_some}
use Rattle.std.proofs.lemmas.Bool.{true≢false}
use Rattle.std.proofs.lemmas.List.{take_all}
use Rattle.finite_sets.proofs.Lists.{prefix_empty, back_empty}
use Rattle.language_model.specs.Building.{Fault}
use Rattle.dsl_faults.specs.declared.found.Found.{Found}
use Rattle.dsl_faults.specs.Found.{first_of, fault_of}

pub first_of_append : {A : Type 0} (xs ys : List A) → xs ≡ [] → first_of (xs ++ ys) ≡ first_of ys
first_of_append [] ys e = refl
first_of_append (x ∷ xs) ys e = cc

pub first_of_prefix : {A : Type 0} (xs ys : List A) (f : A) → first_of xs ≡ Some f → first_of (xs ++ ys) ≡ Some f
first_of_prefix [] ys f e = cc
first_of_prefix (x ∷ xs) ys f e = e

pub none_first : {A : Type 0} (xs : List A) → first_of xs ≡ None → xs ≡ []
none_first [] e = refl
none_first (x ∷ xs) e = cc

pub no_first : {A : Type 0} (xs : List A) → xs ≡ [] → first_of xs ≡ None
no_first [] e = refl
no_first (x ∷ xs) e = cc

pub both_none : {A : Type 0} (xs ys : List A) → xs ≡ [] → ys ≡ [] → xs ++ ys ≡ []
both_none [] ys e h = h
both_none (x ∷ xs) ys e h = cc

-- a first one in the piece at a place, with none in the pieces before
pub flat_first : {A B : Type 0} (g : A → List B) (xs : List A) (i : ℕ) (d : A) (f : B) → i < length xs → flat_map g (take i xs) ≡ [] → first_of (g (get_or xs i d)) ≡ Some f → first_of (flat_map g xs) ≡ Some f
flat_first g [] i d f lt none e = absurd (omega arith)
flat_first g (x ∷ xs) zero d f lt none e = first_of_prefix (g x) (flat_map g xs) f e
flat_first g (x ∷ xs) (suc i) d f lt none e =
    first_of_append (g x) (flat_map g xs) (prefix_empty (g x) (flat_map g (take i xs)) none) ∙ flat_first g xs i d f (omega arith) (back_empty (g x) (flat_map g (take i xs)) none) e

-- none in one more piece
pub flat_none : {A B : Type 0} (g : A → List B) (xs : List A) (i : ℕ) (d : A) → i < length xs → flat_map g (take i xs) ≡ [] → first_of (g (get_or xs i d)) ≡ None → flat_map g (take (i + 1) xs) ≡ []
flat_none {A} {B} g xs i d lt none e = rw (add-one i) (go xs i lt none e)
  where
    go : (xs : List A) (i : ℕ) → i < length xs → flat_map g (take i xs) ≡ [] → first_of (g (get_or xs i d)) ≡ None → flat_map g (take (suc i) xs) ≡ []
    go [] i lt none e = absurd (omega arith)
    go (x ∷ xs) zero lt none e = both_none (g x) [] (none_first (g x) e) refl
    go (x ∷ xs) (suc i) lt none e = both_none (g x) (flat_map g (take (suc i) xs)) (prefix_empty (g x) (flat_map g (take i xs)) none) (go xs i (omega arith) (back_empty (g x) (flat_map g (take i xs)) none) e)

-- the same, where the element at the place is named
pub first_there : {A B : Type 0} (g : A → List B) (xs : List A) (i : ℕ) (x : A) (f : B) → i < length xs → x ≡ get_or xs i x → flat_map g (take i xs) ≡ [] → first_of (g x) ≡ Some f → first_of (flat_map g xs) ≡ Some f
first_there g xs i x f lt is none e = flat_first g xs i x f lt none (subst (λ y. first_of (g y) ≡ Some f) is e)

pub none_there : {A B : Type 0} (g : A → List B) (xs : List A) (i : ℕ) (x : A) → i < length xs → x ≡ get_or xs i x → flat_map g (take i xs) ≡ [] → first_of (g x) ≡ None → flat_map g (take (i + 1) xs) ≡ []
none_there g xs i x lt is none e = flat_none g xs i x lt none (subst (λ y. first_of (g y) ≡ None) is e)

pub none_at_all : {A B : Type 0} (g : A → List B) (xs : List A) (i : ℕ) → length xs ≤ i → flat_map g (take i xs) ≡ [] → first_of (flat_map g xs) ≡ None
none_at_all g xs i le none = no_first (flat_map g xs) (subst (λ ys. flat_map g ys ≡ []) (take_all i xs le) none)

-- a loop that looks for a first fault goes on, or stops
pub goes_on : {A : Type 0} (g : A → List Fault) (xs : List A) (i : ℕ) (x : A) (o : Option Found) → i < length xs → x ≡ get_or xs i x → flat_map g (take i xs) ≡ [] →
    option_map fault_of o ≡ first_of (g x) → is_some o ≡ false → flat_map g (take (i + 1) xs) ≡ []
goes_on g xs i x None lt is none e f = none_there g xs i x lt is none (sym e)
goes_on g xs i x (Some y) lt is none e f = absurd (true≢false f)

pub stops : {A : Type 0} (g : A → List Fault) (xs : List A) (i : ℕ) (x : A) (o : Option Found) → i < length xs → x ≡ get_or xs i x → flat_map g (take i xs) ≡ [] →
    option_map fault_of o ≡ first_of (g x) → is_some o ≡ true → option_map fault_of o ≡ first_of (flat_map g xs)
stops g xs i x None lt is none e f = absurd (true≢false (sym f))
stops g xs i x (Some y) lt is none e f = sym (first_there g xs i x (fault_of y) lt is none (sym e))

pub first_of_option : {A : Type 0} (o : Option A) → o ≡ first_of (option_to_list o)
first_of_option None = refl
first_of_option (Some x) = refl
