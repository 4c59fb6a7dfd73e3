-- Names that are known, and their numbers, one after another.
use Rattle.std.proofs.Common.{◌≡◌, ◌∙◌, ℕ, zero, suc, ◌+◌, ◌<◌, ◌≤◌, ◌++◌, Bool, true, false, ◌&&◌, List, [], ◌∷◌, Some, length, map, take, get_or, Bor, refl, sym, ap, subst, arith, true≢false}
use Rattle.std.specs.Prelude.{All, slice_get}
use Rattle.std.specs.List.{AllByRecursion, list_all}
use Rattle.std.proofs.lemmas.List.{map-append}
use Rattle.std.proofs.lemmas.List.Elements.{All-from_recursion}
use Rattle.finite_sets.proofs.Lists.{get_index}
use Rattle.grammar_model.specs.Grammar.{Grammar}
use Rattle.grammar_model.specs.Growth.{has_name, number_of}
use Rattle.marpa_script.specs.Told.{texts}
use Rattle.marpa_script.proofs.Replying.{both_true, left_false, right_false}

and_parts : (a b : Bool) → (a && b) ≡ true → (true ≡ a) × (true ≡ b)
and_parts true b e = (refl, sym e)
and_parts false b e = absurd (true≢false (sym e))

all_push : (p : List ℕ → Bool) (xs : List (List ℕ)) (x : List ℕ) → list_all p xs ≡ true → true ≡ p x → list_all p (xs ++ x ∷ []) ≡ true
all_push p [] x e f = both_true (p x) true f refl
all_push p (y ∷ ys) x e f = let (a, b) = and_parts (p y) (list_all p ys) e in both_true (p y) (list_all p (ys ++ x ∷ [])) a (sym (all_push p ys x (sym b) f))

recursion_push : (P : ℕ → Type 0) (xs : List ℕ) (x : ℕ) → AllByRecursion P xs → P x → AllByRecursion P (xs ++ x ∷ [])
recursion_push P [] x a p = (p, tt)
recursion_push P (y ∷ ys) x a p = (a.0, recursion_push P ys x a.1 p)

take_more : {X : Type 0} (xs : List X) (k : ℕ) (d : X) → k < length xs → take (suc k) xs ≡ take k xs ++ get_or xs k d ∷ []
take_more [] k d lt = absurd (omega arith)
take_more (x ∷ xs) zero d lt = refl
take_more (x ∷ xs) (suc k) d lt = ap (λ l. x ∷ l) (take_more xs k d (omega arith))

take_all : {X : Type 0} (xs : List X) (n : ℕ) → length xs ≤ n → take n xs ≡ xs
take_all [] zero le = refl
take_all [] (suc n) le = refl
take_all (x ∷ xs) zero le = absurd (omega arith)
take_all (x ∷ xs) (suc n) le = ap (λ l. x ∷ l) (take_all xs n (omega arith))

pub none_known : (p : List ℕ → Bool) (xs : List (Bor (List ℕ))) (k : ℕ) (d : Bor (List ℕ)) → k < length xs → false ≡ p (get_or xs k d).now → list_all p (texts xs) ≡ false
none_known p [] k d lt e = absurd (omega arith)
none_known p (x ∷ xs) zero d lt e = left_false (p x.now) (list_all p (texts xs)) e
none_known p (x ∷ xs) (suc k) d lt e = right_false (p x.now) (list_all p (texts xs)) (sym (none_known p xs k d (omega arith) e))

-- these are the numbers of the first k names, which are known
pub record AreNumbersTo (g : Grammar) (names : List (Bor (List ℕ))) (k : ℕ) (numbers : List ℕ) : Type 0 where
  pub known : list_all (has_name g) (texts (take k names)) ≡ true
  pub are : numbers ≡ map (number_of g) (texts (take k names))
  pub held : AllByRecursion (λ s. s < length g.names) numbers

module _ (g : Grammar) (names : List (Bor (List ℕ))) where
  pub none_yet : (numbers : List ℕ) → numbers ≡ [] → AreNumbersTo g names 0 numbers
  none_yet numbers none = subst (AreNumbersTo g names 0) (sym none) (record { known = refl; are = refl; held = tt })

  pub one_more : (k n : ℕ) (numbers more : List ℕ) (d : Bor (List ℕ)) (s : ℕ) → AreNumbersTo g names k numbers → k < length names → n ≡ k + 1 → true ≡ has_name g (get_or names k d).now →
      s ≡ number_of g (get_or names k d).now → slice_get g.names s ≡ Some (get_or names k d).now → more ≡ numbers ++ s ∷ [] → AreNumbersTo g names n more
  one_more k n numbers more d s are lt next is_known number named grown =
      let name = (get_or names k d).now in
      let step : n ≡ suc k = omega arith in
      let taken : take n names ≡ take k names ++ get_or names k d ∷ [] = ap (λ i. take i names) step ∙ take_more names k d lt in
      let text : texts (take n names) ≡ texts (take k names) ++ name ∷ [] = ap texts taken ∙ map-append (λ (t : Bor (List ℕ)). t.now) (take k names) (get_or names k d ∷ []) in
      let (below, at) = get_index g.names s name name named in
      record {
        known = ap (list_all (has_name g)) text ∙ all_push (has_name g) (texts (take k names)) name are.known is_known;
        are = grown ∙ (ap (λ l. l ++ s ∷ []) are.are ∙ (ap (λ i. map (number_of g) (texts (take k names)) ++ i ∷ []) number
            ∙ sym (ap (map (number_of g)) text ∙ map-append (number_of g) (texts (take k names)) (name ∷ []))));
        held = subst (AllByRecursion (λ i. i < length g.names)) (sym grown) (recursion_push (λ i. i < length g.names) numbers s are.held below);
      }

  module _ (k : ℕ) (numbers : List ℕ) (are : AreNumbersTo g names k numbers) (end : length names ≤ k) where
    pub all_known : true ≡ list_all (has_name g) (texts names)
    all_known = sym (ap (λ l. list_all (has_name g) (texts l)) (sym (take_all names k end)) ∙ are.known)

    pub all_are : numbers ≡ map (number_of g) (texts names)
    all_are = are.are ∙ ap (λ l. map (number_of g) (texts l)) (take_all names k end)

    pub all_held : All (λ s. s < length g.names) numbers
    all_held = All-from_recursion (λ s. s < length g.names) numbers are.held
