-- The order of parts that end together.
use Rattle.std.proofs.Common.{ℕ, ◌-◌, ◌<◌, ◌≤◌, List, length, arith}
use Rattle.std.specs.Option.{option_cmp}
use Rattle.std.specs.List.Sorted.{IsNonDecreasingBy, IsStrictlySortedBy}
use Rattle.forest_parts.specs.declared.parts.Part.{Part}
use Rattle.forest_parts.specs.Parts.{part_cmp, key_cmp, part_at, no_part}
use Rattle.forest_parts.proofs.InOrder.{seconds_rise}
use Rattle.first_walk.specs.Place.{EndTogether, IsFrom}

pub symbols_rise : (parts : List Part) → IsStrictlySortedBy part_cmp parts → EndTogether parts → IsNonDecreasingBy (λ (p : Part). p.symbol) parts
symbols_rise parts sorted ends =
    seconds_rise (λ (p : Part). p.end) (λ (p : Part). p.symbol) (λ (p : Part). p.length) (λ (p q : Part). option_cmp key_cmp p.whole q.whole) parts sorted (λ p q h i. ends p q h i)

pub symbols_up : (parts : List Part) → IsStrictlySortedBy part_cmp parts → EndTogether parts → (i j : ℕ) → i ≤ j → j < length parts → (part_at parts i).symbol ≤ (part_at parts j).symbol
symbols_up parts sorted ends i j le lt = symbols_rise parts sorted ends i j no_part le lt

-- those of smaller symbols end where the one before is of such a symbol, and the one there is not
pub from_at : (parts : List Part) → IsStrictlySortedBy part_cmp parts → EndTogether parts → (symbol from : ℕ) → from < length parts → symbol ≤ (part_at parts from).symbol →
    (0 < from → (part_at parts (from - 1)).symbol < symbol) → IsFrom parts symbol from
from_at parts sorted ends symbol from inside here before = (
  λ k lt. (let b = before (omega arith) in let up = symbols_up parts sorted ends k (from - 1) (omega arith) (omega arith) in omega arith),
  λ k le below. (let up = symbols_up parts sorted ends from k le below in omega arith),
)
