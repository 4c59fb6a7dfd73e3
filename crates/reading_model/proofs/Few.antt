-- What is supplied at one character are different ones of those given, so there are few tokens.
use Rattle.std.proofs.Common.{arith, ◌≡◌, inl, inr, ℕ, zero, suc, ◌+◌, ◌*◌, ◌<◌, ◌≤◌, List, [], ◌∷◌, ◌++◌, length, length-append, Contains, sym, ap, subst, ◌∙◌}
use Rattle.std.proofs.Math.Nat.{add-mul}
use Rattle.finite_sets.proofs.Members.{Among, Once, among_from, contains_from, among_either, once_pairs, once_append, once_most}
use Rattle.language_model.specs.Building.{Built}
use Rattle.reading_model.specs.Reading.{Piece, earleme_after}
use Rattle.reading_model.specs.Reading.{supplied, supplied_behind, ReadsWith, Begin, Take, Skip, Supply}
use Rattle.reading_model.specs.Laws.{SuppliedOnce, TokensAreFew}
use Rattle.reading_model.proofs.Behind.{behind_supplied, behind_token, behind_skipped, place_token, place_skipped}
use Rattle.reading_model.proofs.One.{contains_first}

-- the same by structure
abbrev pub AreSome : (given xs : List ℕ) → Type 0
AreSome given xs = Once xs × ((x : ℕ) → Among x xs → Among x given)

pub some_of : {b : Built} {given text : List ℕ} {at : ℕ} {pieces : List Piece} → ReadsWith b given text at pieces → AreSome given (supplied_behind pieces)
some_of {given = given} Begin = (tt, λ x m. absurd m)
some_of {given = given} (Take {n = n} {pieces = pieces} first others r lt longest sorted exact) =
    subst (AreSome given) (sym (behind_token pieces n (first ∷ others) longest.some)) (tt, λ x m. absurd m)
some_of {given = given} (Skip {n = n} {pieces = pieces} r lt longest none skipped) = subst (AreSome given) (sym (behind_skipped pieces n)) (tt, λ x m. absurd m)
some_of {given = given} (Supply {pieces = pieces} symbol r stuck first) =
    let (once, among) = some_of r in
    subst (AreSome given) (sym (behind_supplied pieces symbol)) (
      once_append (supplied_behind pieces) (symbol ∷ []) once ((λ m. m), tt) (λ x m n. elim n [ inl e ↦ first.has.once (subst (Contains (supplied_behind pieces)) (sym e) (contains_from (supplied_behind pieces) x m)) | inr none ↦ none ]),
      λ x m. elim (among_either x (supplied_behind pieces) (symbol ∷ []) m) [
        | inl old ↦ among x old
        | inr new ↦ elim new [ inl e ↦ subst (λ z. Among z given) e (among_from given symbol (contains_first first)) | inr none ↦ absurd none ]
      ],
    )

pub supplied_once : SuppliedOnce
supplied_once b given text at pieces r =
    let (once, among) = some_of r in
    record { differ = once_pairs (supplied_behind pieces) once; among = λ x c. contains_from given x (among x (among_from (supplied_behind pieces) x c)) }

few_supplied : {b : Built} {given text : List ℕ} {at : ℕ} {pieces : List Piece} → ReadsWith b given text at pieces → length (supplied_behind pieces) ≤ length given
few_supplied {given = given} {pieces = pieces} r = let (once, among) = some_of r in once_most (supplied_behind pieces) given once among

-- a character more has room for a token, and for all that are given
more_room : (at n g : ℕ) → 0 < n → at + at * g + g + 1 ≤ at + n + (at + n) * g
more_room at zero g some = absurd (omega (arith, some))
more_room at (suc n) g some = let e : (at + suc n) * g ≡ at * g + suc n * g = add-mul at (suc n) g in let f : suc n * g ≡ 1 * g + n * g = ap (λ k. k * g) (let h : suc n ≡ 1 + n = omega arith in h) ∙ add-mul 1 n g in omega (arith, e, f)

few : {b : Built} {given text : List ℕ} {at : ℕ} {pieces : List Piece} → ReadsWith b given text at pieces → earleme_after pieces ≤ at + at * length given + length (supplied_behind pieces)
few Begin = omega arith
few {given = given} (Take {at = at} {n = n} {pieces = pieces} first others r lt longest sorted exact) =
    let le = few r in let s = few_supplied r in let e = place_token pieces n (first ∷ others) in let room = more_room at n (length given) longest.some in omega (arith, le, s, e, room)
few {given = given} (Skip {at = at} {n = n} {pieces = pieces} r lt longest none skipped) =
    let le = few r in let s = few_supplied r in let e = place_skipped pieces n in let room = more_room at n (length given) longest.some in omega (arith, le, s, e, room)
few {given = given} (Supply {at = at} {pieces = pieces} symbol r stuck first) =
    let le = few r in
    let e = place_token pieces 0 (symbol ∷ []) in
    let more : length (supplied_behind (pieces ++ supplied symbol ∷ [])) ≡ length (supplied_behind pieces) + 1 = ap length (behind_supplied pieces symbol) ∙ length-append (supplied_behind pieces) (symbol ∷ []) in
    omega (arith, le, e, more)

pub tokens_are_few : TokensAreFew
tokens_are_few b given text at pieces r = (few r, few_supplied r)
