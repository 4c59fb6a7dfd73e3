-- Reading on after a piece.
use Rattle.std.proofs.Common.{◌≡◌, ℕ, zero, suc, ◌+◌, ◌-◌, ◌<◌, ◌≤◌, List, [], ◌∷◌, length, drop, refl, sym, subst, ap, ◌∙◌, arith, drop-drop, append_assoc, take, ◌++◌}
use Rattle.std.proofs.lemmas.List.{take_rest, length-drop}
use Rattle.std.proofs.Math.ListN.{drop_of_length-le}
use Rattle.language_model.specs.declared.class.Piece.{Piece}
use Rattle.language_model.specs.Classes.{piece_at, pieces_behind, pieces_of}

pub pieces_behind-drop : (text : List ℕ) (n : ℕ) → pieces_behind text n ≡ pieces_of (drop n text)
unfolding pieces_behind
pieces_behind-drop [] zero = refl
pieces_behind-drop [] (suc n) = refl
pieces_behind-drop (c ∷ cs) zero = refl
pieces_behind-drop (c ∷ cs) (suc n) = pieces_behind-drop cs n

tail-drop : (c : ℕ) (cs : List ℕ) (n : ℕ) → 0 < n → drop (n - 1) cs ≡ drop n (c ∷ cs)
tail-drop c cs zero h = absurd (omega arith)
tail-drop c cs (suc n) h = ap (λ k. drop k cs) (omega arith)

pub pieces_of-step : (text : List ℕ) → 0 < length text → 0 < (piece_at text).1 → pieces_of text ≡ (piece_at text).0 ∷ pieces_of (drop (piece_at text).1 text)
unfolding pieces_behind
pieces_of-step [] h k = absurd (omega arith)
pieces_of-step (c ∷ cs) h k = ap (λ ps. (piece_at (c ∷ cs)).0 ∷ ps) (pieces_behind-drop cs ((piece_at (c ∷ cs)).1 - 1) ∙ ap pieces_of (tail-drop c cs (piece_at (c ∷ cs)).1 k))

pub pieces_of-past : (text : List ℕ) (at : ℕ) → length text ≤ at → pieces_of (drop at text) ≡ []
unfolding pieces_behind
pieces_of-past text at h = ap (λ t. pieces_behind t 0) (drop_of_length-le text h)

-- a step of the loop
pub pieces_next : (text : List ℕ) (at : ℕ) (prefix : List Piece) (found : Piece × ℕ) → at < length text → found ≡ piece_at (take (length text - at) (drop at text)) → 0 < found.1 → prefix ++ pieces_of (drop at text) ≡ pieces_of text → (prefix ++ found.0 ∷ []) ++ pieces_of (drop (at + found.1) text) ≡ pieces_of text
pieces_next text at prefix found within is moves so_far =
    let here : found ≡ piece_at (drop at text) = is ∙ ap piece_at (take_rest text at) in
    let some : 0 < length (drop at text) = omega (arith, length-drop at text) in
    let step : pieces_of (drop at text) ≡ found.0 ∷ pieces_of (drop (at + found.1) text) =
    subst (λ (f : Piece × ℕ). 0 < f.1 → pieces_of (drop at text) ≡ f.0 ∷ pieces_of (drop (at + f.1) text)) (sym here)
    (λ m. pieces_of-step (drop at text) some m ∙ ap (λ t. (piece_at (drop at text)).0 ∷ pieces_of t) (drop-drop _ _ text)) moves in
    append_assoc prefix (found.0 ∷ []) (pieces_of (drop (at + found.1) text)) ∙ ap (λ ps. prefix ++ ps) (sym step) ∙ so_far
