-- Where the lines of characters begin.
use Rattle.std.specs.Prelude.{◌≡◌, ◌==◌, ℕ, suc, Bool, true, false, List, [], ◌∷◌, ◌++◌, length}
use Rattle.slif_glades.specs.declared.lines.Lines.{Lines}

-- a line begins at the place behind a character, where that is an LF
abbrev pub behind : (is_end : Bool) (place : ℕ) → List ℕ
behind true place = place ∷ []
behind false place = []

-- where lines begin behind characters, of which the first stands at a place
abbrev pub starts_from : (at : ℕ) → List ℕ → List ℕ
starts_from at [] = []
starts_from at (c ∷ cs) = behind (c == 10) (suc at) ++ starts_from (suc at) cs

abbrev pub line_starts : List ℕ → List ℕ
line_starts cs = 0 ∷ starts_from 0 cs

pub record AreLinesOf (cs : List ℕ) (lines : Lines) : Type 0 where
  pub starts_are : lines.starts.items ≡ line_starts cs
  pub end_is : lines.end ≡ length cs
