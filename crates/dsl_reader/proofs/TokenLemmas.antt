-- The tokens of a piece, one by one.
use Rattle.std.proofs.Common.{◌≡◌, ◌∙◌, sym, ap, refl, ℕ, zero, suc, ◌+◌, ◌-◌, ◌<◌, ◌≤◌, List, [], ◌∷◌, length, drop, take, get_or, map, arith}
use Rattle.std.proofs.lemmas.List.{drop-map, take_rest, length-map, drop_more}
use Rattle.std.proofs.Math.ListN.{drop_of_length-le}
use Rattle.language_model.specs.declared.token.Token.{Token}
use Rattle.language_model.specs.Tokens.{Spelled, spelled_at}
use Rattle.dsl_reader.specs.Pieces.{spelled_tokens}

pub len_is : (text : List ℕ) (tokens : List Token) (now : List Spelled) → spelled_tokens text tokens ≡ now → length tokens ≡ length now
unfolding spelled_tokens
len_is text tokens now e = sym (length-map tokens (spelled_at text)) ∙ ap length e

cell_here : {A : Type 0} (xs : List A) (i : ℕ) (d : A) → i < length xs → drop i xs ≡ get_or xs i d ∷ drop (suc i) xs
cell_here [] i d h = absurd (omega arith)
cell_here (x ∷ xs) zero d h = refl
cell_here (x ∷ xs) (suc i) d h = cell_here xs i d (omega arith)

pub here_is : (text : List ℕ) (tokens : List Token) (now : List Spelled) (i : ℕ) (d : Token) → spelled_tokens text tokens ≡ now → i < length tokens → drop i now ≡ spelled_at text (get_or tokens i d) ∷ drop (i + 1) now
unfolding spelled_tokens
here_is text tokens now i d e h =
    ap (drop i) (sym e) ∙ drop-map (spelled_at text) i tokens ∙ ap (map (spelled_at text)) (drop_more tokens i d h)
    ∙ ap (λ l. spelled_at text (get_or tokens i d) ∷ l) (sym (drop-map (spelled_at text) (i + 1) tokens) ∙ ap (drop (i + 1)) e)

pub past_is : (text : List ℕ) (tokens : List Token) (now : List Spelled) (i : ℕ) → spelled_tokens text tokens ≡ now → length tokens ≤ i → drop i now ≡ []
past_is text tokens now i e h = drop_of_length-le now (omega (arith, len_is text tokens now e))

pub behind_is : (text : List ℕ) (tokens : List Token) (now : List Spelled) (n : ℕ) → spelled_tokens text tokens ≡ now → spelled_tokens text (take (length tokens - n) (drop n tokens)) ≡ drop n now
unfolding spelled_tokens
behind_is text tokens now n e = ap (map (spelled_at text)) (take_rest tokens n) ∙ sym (drop-map (spelled_at text) n tokens) ∙ ap (drop n) e

pub take-map : {A B : Type 0} (f : A → B) (n : ℕ) (xs : List A) → map f (take n xs) ≡ take n (map f xs)
take-map f zero xs = refl
take-map f (suc n) [] = refl
take-map f (suc n) (x ∷ xs) = ap (λ l. f x ∷ l) (take-map f n xs)

pub prefix_is : (text : List ℕ) (tokens : List Token) (now : List Spelled) (n : ℕ) → spelled_tokens text tokens ≡ now → spelled_tokens text (take n tokens) ≡ take n now
unfolding spelled_tokens
prefix_is text tokens now n e = take-map (spelled_at text) n tokens ∙ ap (take n) e
