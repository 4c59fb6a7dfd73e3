-- Where a bracket closes, character by character.
use Rattle.std.proofs.Common.{◌≡◌, ◌∙◌, sym, ap, refl, ℕ, zero, suc, ◌+◌, ◌<◌, ◌≤◌, Bool, true, false, List, [], ◌∷◌, ◌++◌, length, take, drop, get_or, ◌-◌, arith, Option, Some, None, cond}
use Rattle.std.specs.Prelude.{option_map}
use Rattle.std.proofs.Math.ListN.{drop_of_length-le}
use Rattle.std.proofs.lemmas.List.{drop_more}
use Rattle.language_model.specs.declared.token.BracketState.{BracketState}
use Rattle.language_model.specs.declared.token.BracketState.TheVariants.{Plain}
use Rattle.language_model.specs.Tokens.{closing, closes, state_behind}

map_map : (f g h : ℕ → ℕ) → ((k : ℕ) → f (g k) ≡ h k) → (o : Option ℕ) → option_map f (option_map g o) ≡ option_map h o
map_map f g h e (Some k) = ap Some (e k)
map_map f g h e None = refl

closing_one : (c : ℕ) (cs : List ℕ) (s : BracketState) (b : Bool) → closes s c ≡ b → closing (c ∷ cs) s ≡ cond b (Some 1) (option_map (λ k. 1 + k) (closing cs (state_behind s c)))
unfolding closing
closing_one c cs s b e = rw e refl

-- the steps of the loop
pub closing_found : (text : List ℕ) (at : ℕ) (s : BracketState) → at < length text → closes s (get_or text at 0) ≡ true → option_map (λ k. at + k) (closing (drop at text) s) ≡ closing text Plain → Some (at + 1) ≡ closing text Plain
closing_found text at s within ends so_far = sym (ap (λ t. option_map (λ k. at + k) (closing t s)) (drop_more text at 0 within) ∙ ap (option_map (λ k. at + k)) (closing_one _ _ s true ends)) ∙ so_far

pub closing_next : (text : List ℕ) (at : ℕ) (s : BracketState) → at < length text → closes s (get_or text at 0) ≡ false → option_map (λ k. at + k) (closing (drop at text) s) ≡ closing text Plain → option_map (λ k. at + 1 + k) (closing (drop (at + 1) text) (state_behind s (get_or text at 0))) ≡ closing text Plain
closing_next text at s within goes_on so_far =
    sym (ap (λ t. option_map (λ k. at + k) (closing t s)) (drop_more text at 0 within) ∙ ap (option_map (λ k. at + k)) (closing_one _ _ s false goes_on)
    ∙ map_map (λ k. at + k) (λ k. 1 + k) (λ k. at + 1 + k) (λ k. omega arith) _) ∙ so_far

pub closing_none : (text : List ℕ) (at : ℕ) (s : BracketState) → length text ≤ at → option_map (λ k. at + k) (closing (drop at text) s) ≡ closing text Plain → None ≡ closing text Plain
unfolding closing
closing_none text at s past so_far = sym (ap (λ t. option_map (λ k. at + k) (closing t s)) (drop_of_length-le text past)) ∙ so_far

-- what closes, closes before anything that follows
more_rest : (rest whole : Option ℕ) (k : ℕ) → ((j : ℕ) → rest ≡ Some j → whole ≡ Some j) → option_map (λ j. 1 + j) rest ≡ Some k → option_map (λ j. 1 + j) whole ≡ Some k
more_rest (Some j) whole k same is = ap (option_map (λ j. 1 + j)) (same j refl) ∙ is
more_rest None whole k same is = absurd cc

more_one : (c : ℕ) (cs ys : List ℕ) (s : BracketState) (k : ℕ) → ((j : ℕ) → closing cs (state_behind s c) ≡ Some j → closing (cs ++ ys) (state_behind s c) ≡ Some j) → (b : Bool) → closes s c ≡ b → closing (c ∷ cs) s ≡ Some k → closing (c ∷ (cs ++ ys)) s ≡ Some k
more_one c cs ys s k same true ends e = closing_one c (cs ++ ys) s true ends ∙ sym (closing_one c cs s true ends) ∙ e
more_one c cs ys s k same false goes_on e = closing_one c (cs ++ ys) s false goes_on ∙ more_rest (closing cs (state_behind s c)) _ k same (sym (closing_one c cs s false goes_on) ∙ e)

pub closing_more : (xs ys : List ℕ) (s : BracketState) (k : ℕ) → closing xs s ≡ Some k → closing (xs ++ ys) s ≡ Some k
unfolding closing
closing_more [] ys s k e = absurd cc
closing_more (c ∷ cs) ys s k e = more_one c cs ys s k (λ j. closing_more cs ys (state_behind s c) j) (closes s c) refl e

-- it closes within the text, and what it takes closes by itself
within_rest : (rest : Option ℕ) (k len : ℕ) → ((j : ℕ) → rest ≡ Some j → (0 < j) × (j ≤ len)) → option_map (λ j. 1 + j) rest ≡ Some k → (0 < k) × (k ≤ suc len)
within_rest (Some j) k len same is =
    let bound = same j refl in
    let e : 1 + j ≡ k = cc in
    (omega arith, omega (arith, bound.1))
within_rest None k len same is = absurd cc

within_one : (c : ℕ) (cs : List ℕ) (s : BracketState) (k : ℕ) → ((j : ℕ) → closing cs (state_behind s c) ≡ Some j → (0 < j) × (j ≤ length cs)) → (b : Bool) → closes s c ≡ b → closing (c ∷ cs) s ≡ Some k → (0 < k) × (k ≤ suc (length cs))
within_one c cs s k same true ends e =
    let both = sym (closing_one c cs s true ends) ∙ e in
    let one : 1 ≡ k = cc in
    (omega arith, omega arith)
within_one c cs s k same false goes_on e = within_rest (closing cs (state_behind s c)) k (length cs) same (sym (closing_one c cs s false goes_on) ∙ e)

pub closing_within : (xs : List ℕ) (s : BracketState) (k : ℕ) → closing xs s ≡ Some k → (0 < k) × (k ≤ length xs)
unfolding closing
closing_within [] s k e = absurd cc
closing_within (c ∷ cs) s k e = within_one c cs s k (λ j. closing_within cs (state_behind s c) j) (closes s c) refl e

-- the part that closes closes by itself
self_rest : (rest : Option ℕ) (cs : List ℕ) (s : BracketState) (k : ℕ) → ((j : ℕ) → rest ≡ Some j → closing (take j cs) s ≡ Some j) → option_map (λ j. 1 + j) rest ≡ Some k → option_map (λ j. 1 + j) (closing (take (k - 1) cs) s) ≡ Some k
self_rest (Some j) cs s k same is =
    let e : 1 + j ≡ k = cc in
    ap (λ n. option_map (λ j. 1 + j) (closing (take n cs) s)) (less j k e) ∙ ap (option_map (λ j. 1 + j)) (same j refl) ∙ is
  where
    less : (j k : ℕ) → 1 + j ≡ k → k - 1 ≡ j
    less j k e = omega arith
self_rest None cs s k same is = absurd cc

self_one : (c : ℕ) (cs : List ℕ) (s : BracketState) (k : ℕ) → 0 < k → ((j : ℕ) → closing cs (state_behind s c) ≡ Some j → closing (take j cs) (state_behind s c) ≡ Some j) → (b : Bool) → closes s c ≡ b → closing (c ∷ cs) s ≡ Some k → closing (c ∷ take (k - 1) cs) s ≡ Some k
self_one c cs s k some same true ends e = closing_one c (take (k - 1) cs) s true ends ∙ sym (closing_one c cs s true ends) ∙ e
self_one c cs s k some same false goes_on e = closing_one c (take (k - 1) cs) s false goes_on ∙ self_rest (closing cs (state_behind s c)) cs (state_behind s c) k same (sym (closing_one c cs s false goes_on) ∙ e)

cons_take : (c : ℕ) (cs : List ℕ) (k : ℕ) → 0 < k → take k (c ∷ cs) ≡ c ∷ take (k - 1) cs
cons_take c cs zero h = absurd (omega arith)
cons_take c cs (suc k) h = ap (λ n. c ∷ take n cs) (pred_is k)
  where
    pred_is : (k : ℕ) → k ≡ suc k - 1
    pred_is k = omega arith

pub closing_self : (xs : List ℕ) (s : BracketState) (k : ℕ) → closing xs s ≡ Some k → closing (take k xs) s ≡ Some k
closing_self [] s k e = absurd (let none = closing_within [] s k e in omega arith)
closing_self (c ∷ cs) s k e =
    let some = (closing_within (c ∷ cs) s k e).0 in
    ap (λ t. closing t s) (cons_take c cs k some) ∙ self_one c cs s k some (λ j. closing_self cs (state_behind s c) j) (closes s c) refl e
