-- A step over one character of layout.
use Rattle.std.proofs.Common.{◌≡◌, ap, ℕ, ◌+◌, ◌<◌, ◌≤◌, ◌==◌, Bool, true, false, not, List, length, drop, get_or}
use Rattle.std.specs.Prelude.{if◌then◌else◌}
use Rattle.std.proofs.Math.ListN.{drop_of_length-le}
use Rattle.std.proofs.lemmas.List.{drop_more}
use Rattle.unicode.specs.Binary.{is_white_space}
use Rattle.language_model.specs.Layout.{layout_len}

-- what the next character does
abbrev pub one_more : ℕ → Bool → (Bool → ℕ) → ℕ
one_more c true rest = 1 + rest (not (c == 10))
one_more c false rest = if is_white_space c then 1 + rest false else (if c == 35 then 1 + rest true else 0)

pub layout_here : (text : List ℕ) (at : ℕ) (b : Bool) → at < length text → layout_len (drop at text) b ≡ one_more (get_or text at 0) b (layout_len (drop (at + 1) text))
unfolding layout_len
layout_here text at true h = ap (λ t. layout_len t true) (drop_more text at 0 h)
layout_here text at false h = ap (λ t. layout_len t false) (drop_more text at 0 h)

pub layout_past : (text : List ℕ) (at : ℕ) (b : Bool) → length text ≤ at → layout_len (drop at text) b ≡ 0
unfolding layout_len
layout_past text at b h = ap (λ t. layout_len t b) (drop_of_length-le text h)
