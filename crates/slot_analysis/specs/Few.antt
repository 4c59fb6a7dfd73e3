-- How many slots of an analysed grammar can be accessible.
use Rattle.std.specs.Prelude.{◌≢◌, ◌<◌, ◌^◌, List, length, All}
use Rattle.std.specs.List.{AllPairs}
use Rattle.grammar_model.specs.Grammar.{Grammar, Slot}
use Rattle.grammar_model.specs.Analysis.{IsAccessible}

-- accessible slots that differ are fewer than 2^31
abbrev pub FewAreAccessible : Grammar → Type 0
FewAreAccessible g = (slots : List Slot) → AllPairs (λ s t. s ≢ t) slots → All (IsAccessible g) slots → length slots < 2 ^ 31
