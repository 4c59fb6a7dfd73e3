-- Texts of steps: they are cut at the dots again, and each tells its step but for the places.
use Rattle.std.proofs.Common.{◌≡◌, ◌≢◌, ℕ, ◌<◌, List, [], ◌∷◌, ◌++◌, map, refl, sym, ap, arith}
use Rattle.std.specs.List.{join_with_byte}
use Rattle.grammar_model.specs.Steps.{Step, TokenStep, NulledStep, RuleStep}
use Rattle.cursor_model.specs.Cursor.{numeral, step_text, cursor_text}
use Rattle.cursor_model.proofs.Numerals.{AreDigits, numeral_digits, numerals_tell}

-- no byte of it is that one
abbrev pub Lacks : ℕ → List ℕ → Type 0
Lacks c [] = Unit {0}
Lacks c (x ∷ xs) = (x ≢ c) × Lacks c xs

digits_lack : (c : ℕ) → c < 48 → (xs : List ℕ) → AreDigits xs → Lacks c xs
digits_lack c low [] d = tt
digits_lack c low (x ∷ xs) d = ((λ e. omega (arith, d.0)), digits_lack c low xs d.2)

lacks_both : (c : ℕ) (xs ys : List ℕ) → Lacks c xs → Lacks c ys → Lacks c (xs ++ ys)
lacks_both c [] ys a b = b
lacks_both c (x ∷ xs) ys a b = (a.0, lacks_both c xs ys a.1 b)

-- what stands before the first of a byte, and after it
pub record AreHalves (a b x y : List ℕ) : Type 0 where
  pub first : a ≡ b
  pub second : x ≡ y

pub halves : (c : ℕ) (a b x y : List ℕ) → Lacks c a → Lacks c b → a ++ c ∷ x ≡ b ++ c ∷ y → AreHalves a b x y
halves c [] [] x y la lb e = record { first = refl; second = cc }
halves c [] (k ∷ b) x y la lb e = let same : c ≡ k = cc in absurd (lb.0 (sym same))
halves c (k ∷ a) [] x y la lb e = let same : k ≡ c = cc in absurd (la.0 same)
halves c (k ∷ a) (l ∷ b) x y la lb e =
    let heads : k ≡ l = cc in
    let tails : a ++ c ∷ x ≡ b ++ c ∷ y = cc in
    let r = halves c a b x y la.1 lb.1 tails in
    let f = r.first in
    record { first = λ i. heads i ∷ f i; second = r.second }

-- one has it, and the other does not
pub half : (c : ℕ) (a b x : List ℕ) → Lacks c b → a ++ c ∷ x ≡ b → ⊥
half c [] [] x lb e = cc
half c [] (k ∷ b) x lb e = let same : c ≡ k = cc in lb.0 (sym same)
half c (k ∷ a) [] x lb e = cc
half c (k ∷ a) (l ∷ b) x lb e = let tails : a ++ c ∷ x ≡ b = cc in half c a b x lb.1 tails

abbrev pub AllLack : ℕ → List (List ℕ) → Type 0
AllLack c [] = Unit {0}
AllLack c (x ∷ xs) = Lacks c x × AllLack c xs

-- pieces without the byte, joined by it, are cut again; of none and of an empty one the text is the same
joined : (c : ℕ) (x : List ℕ) (xs : List (List ℕ)) (y : List ℕ) (ys : List (List ℕ)) → AllLack c (x ∷ xs) → AllLack c (y ∷ ys) →
    join_with_byte c (x ∷ xs) ≡ join_with_byte c (y ∷ ys) → x ∷ xs ≡ y ∷ ys
joined c x [] y [] a b e = ap (λ z. z ∷ []) e
joined c x [] y (y' ∷ ys) a b e = absurd (half c y x (join_with_byte c (y' ∷ ys)) a.0 (sym e))
joined c x (x' ∷ xs) y [] a b e = absurd (half c x y (join_with_byte c (x' ∷ xs)) b.0 e)
joined c x (x' ∷ xs) y (y' ∷ ys) a b e =
    let h = halves c x y (join_with_byte c (x' ∷ xs)) (join_with_byte c (y' ∷ ys)) a.0 b.0 e in
    let first = h.first in
    let others = joined c x' xs y' ys a.1 b.1 h.second in
    λ i. first i ∷ others i

-- ---- steps

-- without the places
abbrev pub bare_step : Step → Step
bare_step (TokenStep symbol from to) = TokenStep symbol 0 0
bare_step (NulledStep symbol at) = NulledStep symbol 0
bare_step (RuleStep rule children from to) = RuleStep rule children 0 0

pub numeral_lacks : (c n : ℕ) → c < 48 → Lacks c (numeral n)
numeral_lacks c n low = digits_lack c low (numeral n) (numeral_digits n)

pub step_lacks : (s : Step) → Lacks 46 (step_text s)
step_lacks (TokenStep symbol from to) = ((λ e. omega (arith, e)), numeral_lacks 46 symbol (omega arith))
step_lacks (NulledStep symbol at) = ((λ e. omega (arith, e)), numeral_lacks 46 symbol (omega arith))
step_lacks (RuleStep rule children from to) =
    ((λ e. omega (arith, e)), lacks_both 46 (numeral rule) (44 ∷ numeral children) (numeral_lacks 46 rule (omega arith)) ((λ e. omega (arith, e)), numeral_lacks 46 children (omega arith)))

pub steps_lack : (ss : List Step) → AllLack 46 (map step_text ss)
steps_lack [] = tt
steps_lack (s ∷ ss) = (step_lacks s, steps_lack ss)

-- lists with different heads
differ : (a b : ℕ) (xs ys : List ℕ) → (a ≡ b → ⊥) → a ∷ xs ≡ b ∷ ys → ⊥
differ a b xs ys other e = let heads : a ≡ b = cc in other heads

same_tail : (a : ℕ) (xs ys : List ℕ) → a ∷ xs ≡ a ∷ ys → xs ≡ ys
same_tail a xs ys e = cc

pub step_told : (s t : Step) → step_text s ≡ step_text t → bare_step s ≡ bare_step t
step_told (TokenStep x a b) (TokenStep y c d) e = let tails : numeral x ≡ numeral y = same_tail 116 (numeral x) (numeral y) e in ap (λ z. TokenStep z 0 0) (numerals_tell x y tails)
step_told (TokenStep x a b) (NulledStep y c) e = absurd (differ 116 110 _ _ (λ h. omega (arith, h)) e)
step_told (TokenStep x a b) (RuleStep r n c d) e = absurd (differ 116 114 _ _ (λ h. omega (arith, h)) e)
step_told (NulledStep x a) (TokenStep y c d) e = absurd (differ 110 116 _ _ (λ h. omega (arith, h)) e)
step_told (NulledStep x a) (NulledStep y c) e = let tails : numeral x ≡ numeral y = same_tail 110 (numeral x) (numeral y) e in ap (λ z. NulledStep z 0) (numerals_tell x y tails)
step_told (NulledStep x a) (RuleStep r n c d) e = absurd (differ 110 114 _ _ (λ h. omega (arith, h)) e)
step_told (RuleStep r n a b) (TokenStep y c d) e = absurd (differ 114 116 _ _ (λ h. omega (arith, h)) e)
step_told (RuleStep r n a b) (NulledStep y c) e = absurd (differ 114 110 _ _ (λ h. omega (arith, h)) e)
step_told (RuleStep r n a b) (RuleStep r' n' c d) e =
    let tails : numeral r ++ 44 ∷ numeral n ≡ numeral r' ++ 44 ∷ numeral n' = same_tail 114 (numeral r ++ 44 ∷ numeral n) (numeral r' ++ 44 ∷ numeral n') e in
    let h = halves 44 (numeral r) (numeral r') (numeral n) (numeral n') (numeral_lacks 44 r (omega arith)) (numeral_lacks 44 r' (omega arith)) tails in
    let rules = numerals_tell r r' h.first in
    let counts = numerals_tell n n' h.second in
    λ i. RuleStep (rules i) (counts i) 0 0

pub texts_told : (ss ts : List Step) → map step_text ss ≡ map step_text ts → map bare_step ss ≡ map bare_step ts
texts_told [] [] e = refl
texts_told [] (t ∷ ts) e = absurd (cc e)
texts_told (s ∷ ss) [] e = absurd (cc e)
texts_told (s ∷ ss) (t ∷ ts) e =
    let heads : step_text s ≡ step_text t = cc in
    let tails : map step_text ss ≡ map step_text ts = cc in
    let first = step_told s t heads in
    let others = texts_told ss ts tails in
    λ i. first i ∷ others i

-- cursors tell the steps but for their places
pub cursors_told : (s : Step) (ss : List Step) (t : Step) (ts : List Step) → cursor_text (s ∷ ss) ≡ cursor_text (t ∷ ts) → map bare_step (s ∷ ss) ≡ map bare_step (t ∷ ts)
cursors_told s ss t ts e =
    texts_told (s ∷ ss) (t ∷ ts) (joined 46 (step_text s) (map step_text ss) (step_text t) (map step_text ts) (steps_lack (s ∷ ss)) (steps_lack (t ∷ ts)) e)

-- the first byte of a step's text
pub first_letter : (s : Step) (ss : List Step) (c : ℕ) (cs : List ℕ) → c < 110 → cursor_text (s ∷ ss) ≡ c ∷ cs → ⊥
first_letter (TokenStep x a b) [] c cs low e = differ 116 c _ cs (λ h. omega (arith, h, low)) e
first_letter (NulledStep x a) [] c cs low e = differ 110 c _ cs (λ h. omega (arith, h, low)) e
first_letter (RuleStep r n a b) [] c cs low e = differ 114 c _ cs (λ h. omega (arith, h, low)) e
first_letter (TokenStep x a b) (s ∷ ss) c cs low e = differ 116 c _ cs (λ h. omega (arith, h, low)) e
first_letter (NulledStep x a) (s ∷ ss) c cs low e = differ 110 c _ cs (λ h. omega (arith, h, low)) e
first_letter (RuleStep r n a b) (s ∷ ss) c cs low e = differ 114 c _ cs (λ h. omega (arith, h, low)) e
