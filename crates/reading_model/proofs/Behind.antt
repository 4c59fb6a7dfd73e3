-- What is supplied after pieces, with one piece more.
use Rattle.std.proofs.Common.{◌≡◌, ℕ, zero, suc, ◌<◌, List, [], ◌∷◌, ◌++◌, refl, ap, arith}
use Rattle.reading_model.specs.Reading.{Piece, Token, Skipped, earleme_after}
use Rattle.reading_model.specs.Reading.{supplied, supplied_from, supplied_behind}

from_supplied : (before : List ℕ) (ps : List Piece) (s : ℕ) → supplied_from before (ps ++ supplied s ∷ []) ≡ supplied_from before ps ++ s ∷ []
from_supplied before [] s = refl
from_supplied before (Token zero symbols ∷ ps) s = from_supplied (before ++ symbols) ps s
from_supplied before (Token (suc n) symbols ∷ ps) s = from_supplied [] ps s
from_supplied before (Skipped n ∷ ps) s = from_supplied [] ps s

from_token : (before : List ℕ) (ps : List Piece) (n : ℕ) (symbols : List ℕ) → supplied_from before (ps ++ Token (suc n) symbols ∷ []) ≡ []
from_token before [] n symbols = refl
from_token before (Token zero others ∷ ps) n symbols = from_token (before ++ others) ps n symbols
from_token before (Token (suc k) others ∷ ps) n symbols = from_token [] ps n symbols
from_token before (Skipped k ∷ ps) n symbols = from_token [] ps n symbols

from_skipped : (before : List ℕ) (ps : List Piece) (n : ℕ) → supplied_from before (ps ++ Skipped n ∷ []) ≡ []
from_skipped before [] n = refl
from_skipped before (Token zero others ∷ ps) n = from_skipped (before ++ others) ps n
from_skipped before (Token (suc k) others ∷ ps) n = from_skipped [] ps n
from_skipped before (Skipped k ∷ ps) n = from_skipped [] ps n

pub behind_supplied : (ps : List Piece) (s : ℕ) → supplied_behind (ps ++ supplied s ∷ []) ≡ supplied_behind ps ++ s ∷ []
behind_supplied ps s = from_supplied [] ps s

pub behind_token : (ps : List Piece) (n : ℕ) (symbols : List ℕ) → 0 < n → supplied_behind (ps ++ Token n symbols ∷ []) ≡ []
behind_token ps zero symbols some = absurd (omega (arith, some))
behind_token ps (suc n) symbols some = from_token [] ps n symbols

pub behind_skipped : (ps : List Piece) (n : ℕ) → supplied_behind (ps ++ Skipped n ∷ []) ≡ []
behind_skipped ps n = from_skipped [] ps n

pub place_token : (ps : List Piece) (n : ℕ) (ss : List ℕ) → earleme_after (ps ++ Token n ss ∷ []) ≡ suc (earleme_after ps)
place_token [] n ss = refl
place_token (Token k qs ∷ ps) n ss = ap suc (place_token ps n ss)
place_token (Skipped k ∷ ps) n ss = place_token ps n ss

pub place_skipped : (ps : List Piece) (n : ℕ) → earleme_after (ps ++ Skipped n ∷ []) ≡ earleme_after ps
place_skipped [] n = refl
place_skipped (Token k qs ∷ ps) n = ap suc (place_skipped ps n)
place_skipped (Skipped k ∷ ps) n = place_skipped ps n
