-- Texts that are cut at a comma, and the letters of steps.
use Rattle.std.proofs.Common.{◌≡◌, ◌≢◌, ℕ, suc, ◌<◌, ◌≤◌, true, false, eqb, List, [], ◌∷◌, ◌++◌, length, get_or, refl, sym, ap, ◌∙◌, arith}
use Rattle.std.specs.List.{position_or_len, before_first, after_first}
use Rattle.std.proofs.lemmas.List.{length-append, length-take-le}
use Rattle.std.proofs.Math.Seq.{get_or-append_seam}
use Rattle.std.proofs.Math.ListN.{get_or-append}
use Rattle.std.proofs.lemmas.List.Sums.{split_at_first, fails_before_first, passes_at_first}
use Rattle.std.proofs.lemmas.Bool.{eqb-true}
use Rattle.grammar_model.specs.Steps.{Step, TokenStep, NulledStep, RuleStep}
use Rattle.cursor_model.specs.Cursor.{numeral, step_text}
use Rattle.cursor_model.specs.Laid.{IsSmall}
use Rattle.cursor_model.proofs.Texts.{Lacks, halves, numeral_lacks}
use Rattle.tree_cursor.specs.Told.{IsCut}

pub no_comma : (bs a b : List ℕ) → position_or_len (λ x. eqb x 44) bs ≡ length bs → bs ≡ a ++ 44 ∷ b → ⊥
no_comma bs a b none e =
    let long : length bs ≡ length (a ++ 44 ∷ b) = ap length e in
    let more = length-append a (44 ∷ b) in
    let fails = fails_before_first (λ x. eqb x 44) bs (length a) 0 (omega (arith, long, more, none)) in
    let here : get_or bs (length a) 0 ≡ 44 = ap (λ (l : List ℕ). get_or l (length a) 0) e ∙ get_or-append_seam a 44 b 0 in
    let bad : true ≡ false = sym (ap (λ x. eqb x 44) here) ∙ fails in
    cc

pub cut_at : (bs a b : List ℕ) → position_or_len (λ x. eqb x 44) bs < length bs → a ≡ before_first (λ x. eqb x 44) bs → b ≡ after_first (λ x. eqb x 44) bs → IsCut bs a b
cut_at bs a b lt first second =
    let passes = eqb-true _ 44 (passes_at_first (λ x. eqb x 44) bs 0 lt) in
    let is : bs ≡ a ++ 44 ∷ b = split_at_first (λ x. eqb x 44) bs 0 lt ∙ (λ i. sym first i ++ passes i ∷ sym second i) in
    record {
      is = is;
      lacks = λ k less e.
          (let long : length bs ≡ length (a ++ 44 ∷ b) = ap length is in
          let at : get_or bs k 0 ≡ get_or a k 0 = ap (λ (l : List ℕ). get_or l k 0) is ∙ get_or-append a (44 ∷ b) 0 k less in
          let within : length a ≡ position_or_len (λ x. eqb x 44) bs = ap length first ∙ length-take-le _ bs (omega (arith, lt)) in
          let fails = fails_before_first (λ x. eqb x 44) bs k 0 (omega (arith, less, within)) in
          let bad : true ≡ false = sym (ap (λ x. eqb x 44) (at ∙ e)) ∙ fails in
          cc);
    }

lacks_by : (xs : List ℕ) → ((k : ℕ) → k < length xs → get_or xs k 0 ≢ 44) → Lacks 44 xs
lacks_by [] h = tt
lacks_by (x ∷ xs) h = (h 0 (omega arith), lacks_by xs (λ k less. h (suc k) (omega arith)))

-- the first part is the first number, and the second the second
pub record AreParts (a b x y : List ℕ) : Type 0 where
  pub first : a ≡ x
  pub second : b ≡ y

pub cut_told : (bs a b : List ℕ) (m n : ℕ) → IsCut bs a b → bs ≡ numeral m ++ 44 ∷ numeral n → AreParts a b (numeral m) (numeral n)
cut_told bs a b m n cut e =
    let h = halves 44 a (numeral m) b (numeral n) (lacks_by a cut.lacks) (numeral_lacks 44 m (omega arith)) (sym cut.is ∙ e) in
    record { first = h.first; second = h.second }

-- what a text that is a step's begins with
pub told_apart : (bs : List ℕ) (step : Step) → IsSmall step → bs ≡ step_text step →
    ((rest : List ℕ) → bs ≡ 116 ∷ rest → (n : ℕ) → n ≤ 4294967295 → rest ≡ numeral n → ⊥) →
    ((rest : List ℕ) → bs ≡ 110 ∷ rest → (n : ℕ) → n ≤ 4294967295 → rest ≡ numeral n → ⊥) →
    ((rest : List ℕ) → bs ≡ 114 ∷ rest → (m n : ℕ) → m ≤ 4294967295 → n ≤ 4294967295 → rest ≡ numeral m ++ 44 ∷ numeral n → ⊥) → ⊥
told_apart bs (TokenStep s a b) small e t n r = t (numeral s) e s small refl
told_apart bs (NulledStep s a) small e t n r = n (numeral s) e s small refl
told_apart bs (RuleStep k c a b) small e t n r = r (numeral k ++ 44 ∷ numeral c) e k c small.0 small.1 refl

pub other_letter : (a b : ℕ) (xs ys bs : List ℕ) → (a ≡ b → ⊥) → bs ≡ a ∷ xs → bs ≡ b ∷ ys → ⊥
other_letter a b xs ys bs other e f = let both : a ∷ xs ≡ b ∷ ys = sym e ∙ f in let heads : a ≡ b = cc in other heads

pub same_rest : (a : ℕ) (xs ys bs : List ℕ) → bs ≡ a ∷ xs → bs ≡ a ∷ ys → xs ≡ ys
same_rest a xs ys bs e f = let both : a ∷ xs ≡ a ∷ ys = sym e ∙ f in cc
