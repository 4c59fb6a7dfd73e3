-- How many characters pieces have.
use Rattle.std.proofs.Common.{arith, ◌≡◌, ℕ, ◌+◌, List, [], ◌∷◌, ◌++◌, zero-add, refl, sym}
use Rattle.language_model.specs.Building.{Built}
use Rattle.reading_model.specs.Reading.{Piece, Token, Skipped, supplied, ReadsWith, Begin, Take, Skip, Supply}

abbrev pub characters : List Piece → ℕ
characters [] = 0
characters (Token n ss ∷ ps) = n + characters ps
characters (Skipped n ∷ ps) = n + characters ps

pub characters_more : (ps : List Piece) (p : Piece) → characters (ps ++ p ∷ []) ≡ characters ps + characters (p ∷ [])
characters_more [] p = sym (zero-add (characters (p ∷ [])))
characters_more (Token n ss ∷ ps) p = let e = characters_more ps p in omega (arith, e)
characters_more (Skipped n ∷ ps) p = let e = characters_more ps p in omega (arith, e)

-- reading is before the character after them
pub characters_are : {b : Built} {given text : List ℕ} {at : ℕ} {pieces : List Piece} → ReadsWith b given text at pieces → characters pieces ≡ at
characters_are Begin = refl
characters_are (Take {at = at} {n = n} {pieces = pieces} first others r lt longest sorted exact) =
    let e = characters_more pieces (Token n (first ∷ others)) in let f = characters_are r in omega (arith, e, f)
characters_are (Skip {at = at} {n = n} {pieces = pieces} r lt longest none skipped) =
    let e = characters_more pieces (Skipped n) in let f = characters_are r in omega (arith, e, f)
characters_are (Supply {at = at} {pieces = pieces} symbol r stuck first) =
    let e = characters_more pieces (supplied symbol) in let f = characters_are r in omega (arith, e, f)
