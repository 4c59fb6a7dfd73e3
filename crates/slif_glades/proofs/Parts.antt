-- The parts of a shape, one after the other, and how many more there are.
use Rattle.std.proofs.Common.{◌≡◌, ◌≢◌, ◌∙◌, ℕ, zero, suc, ◌+◌, ◌<◌, ◌≤◌, List, ◌∷◌, ◌++◌, length, get_or, drop, refl, sym, ap, arith, append_assoc, codes, decimal}
use Rattle.std.proofs.Math.Seq.{drop-cons}
use Rattle.std.proofs.lemmas.List.{drop_all}
use Rattle.slif_parser.specs.Views.{Read}
use Rattle.slif_glades.specs.Told.{more_line, parts_text, tokens_text}

pub more_said : (n : ℕ) → n ≢ 0 → more_line n ≡ decimal n ++ codes " more of these two rules\n"
more_said zero some = absurd (some refl)
more_said (suc k) some = refl

module _ (r : Read) (to from i : ℕ) (more out whole : List ℕ) (told : out ++ parts_text r (from ∷ drop i more) to ≡ whole) where
  pub parts_step : (out' out'' : List ℕ) → i < length more → out' ≡ out ++ tokens_text r from (get_or more i 0) → out'' ≡ out' ++ codes " | " → out'' ++ parts_text r (get_or more i 0 ∷ drop (i + 1) more) to ≡ whole
  parts_step out' out'' h part bar =
      let next = get_or more i 0 in
      let rest : List ℕ = parts_text r (next ∷ drop (i + 1) more) to in
      let index : suc i ≡ i + 1 = omega arith in
      let left : drop i more ≡ next ∷ drop (i + 1) more = drop-cons more i 0 h ∙ ap (λ (n : ℕ). next ∷ drop n more) index in
      let all : parts_text r (from ∷ drop i more) to ≡ tokens_text r from next ++ (codes " | " ++ rest) = ap (λ (l : List ℕ). parts_text r (from ∷ l) to) left in
      ap (λ o. o ++ rest) (bar ∙ ap (λ o. o ++ codes " | ") part) ∙ append_assoc (out ++ tokens_text r from next) (codes " | ") rest
      ∙ append_assoc out (tokens_text r from next) (codes " | " ++ rest) ∙ ap (λ t. out ++ t) (sym all) ∙ told

  pub parts_end : length more ≤ i → out ++ tokens_text r from to ≡ whole
  parts_end past = ap (λ (l : List ℕ). out ++ parts_text r (from ∷ l) to) (sym (drop_all i more past)) ∙ told
