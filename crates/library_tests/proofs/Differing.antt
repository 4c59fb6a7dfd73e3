-- What 9-3-2 is worth.
use Rattle.std.proofs.Common.{◌≡◌, ◌<◌, ◌^◌, ℕ, ℤ, pos, List, [], ◌∷◌, Result, Ok, Err, refl, sym, ◌∙◌, ap, subst, lit<}
use Rattle.std.specs.Prelude.{IfOk}
use Rattle.std.specs.Int.{w64, int_wrapping_sub}
use Rattle.std.specs.Str.Parse.{IsNumeral, digits_value}
use Rattle.grammar_model.specs.Grammar.{Grammar}
use Rattle.grammar_model.specs.Trees.{Tree}
use Rattle.grammar_model.specs.Values.{Token, token_at}
use Rattle.valuator.specs.Play.{tokens_of}
use Rattle.tree_fold.specs.Values.{HasValue}
use Rattle.slif_parser.specs.Views.{DerivationsOf}
use Rattle.slif_parser.specs.Readings.{ValueBy}
use Rattle.library_tests.specs.Differences.{NumberGives, IsCurrent, difference, the_tokens, number_at, minus_of, left_first, right_first}

abbrev same_result : (E : Type 0) → Result ℤ E → Result ℤ E → Type 0
same_result E r s = r ≡ s

ok_is : (E : Type 0) (v w : ℤ) → same_result E (Ok v) (Ok w) → v ≡ w
ok_is E v w e = cc

abbrev HasDifference : (S E : Type 0) → Grammar → List Token → Tree → S → ℤ → S → Type 0
HasDifference S E g tokens = HasValue {E = E} (λ before after symbol name token r. NumberGives token.text r) (λ before after symbol name r. r ≡ Ok (pos 0)) (λ before after rule name children r. r ≡ Ok (difference children)) g tokens

module _ (S E : Type 0) (g : Grammar) (number minus : ℕ) where
  abbrev Has : Tree → S → ℤ → S → Type 0
  Has = HasDifference S E g the_tokens

  minus_value : (left right : Tree) (at behind from to : ℕ) (before after : S) (v : ℤ) → Has (minus_of number minus left at behind right from to) before v after →
      (l : ℤ) × (r : ℤ) × ((s : S) × (t : S) × Has left s l t) × ((s : S) × (t : S) × Has right s r t) × (v ≡ int_wrapping_sub w64 l r)
  minus_value left right at behind from to before after v (between, vs, (b, ws, r, vs_are, (c, xs, m, ws_are, (d, ys, l, xs_are, (none, same), has_left), has_minus), has_right), gives) =
      let values : vs ≡ l ∷ m ∷ r ∷ [] = cc in
      (l, r, (d, c, has_left), (b, between, has_right), ok_is E v (difference vs) gives ∙ ap difference values)

  number_value : (from to : ℕ) (before after : S) (v : ℤ) (n : ℕ) → IsNumeral 10 ((token_at the_tokens from).text) → digits_value 10 ((token_at the_tokens from).text) ≡ n → n < 2 ^ 63 → Has (number_at number minus from to) before v after → v ≡ pos n
  number_value from to before after v n numeral is small (between, vs, (b, ws, w, vs_are, (none, same), gives_token), gives) =
      let token : w ≡ pos (digits_value 10 ((token_at the_tokens from).text)) = ok_is E w (pos (digits_value 10 ((token_at the_tokens from).text))) (gives_token numeral (subst (λ z. z < 2 ^ 63) (sym is) small)) in
      let values : vs ≡ w ∷ [] = cc in
      ok_is E v (difference vs) gives ∙ ap difference values ∙ token ∙ ap pos is

  pub left_is : (before after : S) (v : ℤ) → Has (left_first number minus) before v after → v ≡ pos 4
  left_is before after v has =
      let (l, r, (s, t, has_left), (s', t', has_right), is) = minus_value (minus_of number minus (number_at number minus 0 1) 1 2 (number_at number minus 2 3) 0 3) (number_at number minus 4 5) 3 4 0 5 before after v has in
      let (x, y, (p, q, has_x), (p', q', has_y), left) = minus_value (number_at number minus 0 1) (number_at number minus 2 3) 1 2 0 3 s t l has_left in
      let nine : x ≡ pos 9 = number_value 0 1 p q x 9 (lit< tt, (lit< tt, tt)) refl (lit< tt) has_x in
      let three : y ≡ pos 3 = number_value 2 3 p' q' y 3 (lit< tt, (lit< tt, tt)) refl (lit< tt) has_y in
      let two : r ≡ pos 2 = number_value 4 5 s' t' r 2 (lit< tt, (lit< tt, tt)) refl (lit< tt) has_right in
      let six : l ≡ pos 6 = left ∙ ap (λ z. int_wrapping_sub w64 z y) nine ∙ ap (int_wrapping_sub w64 (pos 9)) three in
      is ∙ ap (λ z. int_wrapping_sub w64 z r) six ∙ ap (int_wrapping_sub w64 (pos 6)) two

  pub right_is : (before after : S) (v : ℤ) → Has (right_first number minus) before v after → v ≡ pos 8
  right_is before after v has =
      let (l, r, (s, t, has_left), (s', t', has_right), is) = minus_value (number_at number minus 0 1) (minus_of number minus (number_at number minus 2 3) 3 4 (number_at number minus 4 5) 2 5) 1 2 0 5 before after v has in
      let (x, y, (p, q, has_x), (p', q', has_y), right) = minus_value (number_at number minus 2 3) (number_at number minus 4 5) 3 4 2 5 s' t' r has_right in
      let nine : l ≡ pos 9 = number_value 0 1 s t l 9 (lit< tt, (lit< tt, tt)) refl (lit< tt) has_left in
      let three : x ≡ pos 3 = number_value 2 3 p q x 3 (lit< tt, (lit< tt, tt)) refl (lit< tt) has_x in
      let two : y ≡ pos 2 = number_value 4 5 p' q' y 2 (lit< tt, (lit< tt, tt)) refl (lit< tt) has_y in
      let one : r ≡ pos 1 = right ∙ ap (λ z. int_wrapping_sub w64 z y) three ∙ ap (int_wrapping_sub w64 (pos 3)) two in
      is ∙ ap (λ z. int_wrapping_sub w64 z r) nine ∙ ap (int_wrapping_sub w64 (pos 9)) one

-- THE CURRENT DERIVATION

at_tokens : (S E : Type 0) (d : DerivationsOf) (before after : S) (v : ℤ) (t : Tree) → tokens_of d.read.characters d.read.spans ≡ the_tokens → HasDifference S E d.read.grammar.g1 (tokens_of d.read.characters d.read.spans) t before v after →
    HasDifference S E d.read.grammar.g1 the_tokens t before v after
at_tokens S E d before after v t are has = subst (λ ts. HasDifference S E d.read.grammar.g1 ts t before v after) are has

abbrev ValueOf : (S E : Type 0) → DerivationsOf → S → ℤ → S → Type 0
ValueOf S E = ValueBy {E = E} (λ before after symbol name token r. NumberGives token.text r) (λ before after symbol name r. r ≡ Ok (pos 0)) (λ before after rule name children r. r ≡ Ok (difference children))

pub left_told : (S E F : Type 0) (d : DerivationsOf) (result : Result ℤ F) (before after : S) → IfOk result (λ v. ValueOf S E d before v after) →
    IfOk result (λ v. (number minus : ℕ) → IsCurrent d the_tokens (left_first number minus) → v ≡ pos 4)
left_told S E F d (Ok v) before after value = λ number minus is.
    left_is S E d.read.grammar.g1 number minus before after v (at_tokens S E d before after v (left_first number minus) is.tokens_are (value (left_first number minus) is.tree_is))
left_told S E F d (Err e) before after value = tt

pub right_told : (S E F : Type 0) (d : DerivationsOf) (result : Result ℤ F) (before after : S) → IfOk result (λ v. ValueOf S E d before v after) →
    IfOk result (λ v. (number minus : ℕ) → IsCurrent d the_tokens (right_first number minus) → v ≡ pos 8)
right_told S E F d (Ok v) before after value = λ number minus is.
    right_is S E d.read.grammar.g1 number minus before after v (at_tokens S E d before after v (right_first number minus) is.tokens_are (value (right_first number minus) is.tree_is))
right_told S E F d (Err e) before after value = tt
