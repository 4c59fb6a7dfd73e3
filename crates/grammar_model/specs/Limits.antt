-- Numbers in texts.
use Rattle.std.specs.Prelude.{ℕ, ◌+◌, ◌*◌, List, fold}
use Rattle.std.specs.Char.{digit_value}

-- the number that ASCII digits spell
abbrev pub digits_number : List ℕ → ℕ
digits_number digits = fold (λ n d. 10 * n + digit_value d) 0 digits
