-- The characters of a text: where each begins, and which bytes are refused.
use Rattle.std.specs.Prelude.{ℕ, ◌+◌, List, [], ◌∷◌, IsUtf8}
use Rattle.std.specs.Char.{len_utf8}
use Rattle.std.specs.Str.{IsValidUpTo}
use Rattle.slif_base.specs.declared.chars.TextRefusal.{TextRefusal}
use Rattle.slif_base.specs.declared.chars.TextRefusal.TheVariants.{NotUtf8, NoMemory}

-- the byte where each character begins, and where the last one ends
abbrev pub starts_from : ℕ → List ℕ → List ℕ
starts_from at [] = at ∷ []
starts_from at (c ∷ cs) = at ∷ starts_from (at + len_utf8 c) cs

-- bytes are refused where they are not UTF-8, with the length of their longest prefix that is; or for want of memory
abbrev pub RefusesText : List ℕ → TextRefusal → Type 0
RefusesText bytes (NotUtf8 at) = ¬ (IsUtf8 bytes) × IsValidUpTo bytes at
RefusesText bytes NoMemory = Unit {0}
