-- What the tables of an analysed grammar hold.
use Rattle.std.specs.Prelude.{◌≡◌, ℕ, ◌↔◌, Bool, true, false, List, length, slice_index, slice_index_or, ◌+◌, ◌<◌, ◌^◌}
use Rattle.grammar_model.specs.Grammar.{Grammar}
use Rattle.grammar_model.specs.Checked.{IsLeft}
use Rattle.grammar_core.specs.Written.{IsWritten}
use Rattle.slot_analysis.specs.Packed.{packed, IsLevelTable}
use Rattle.slot_analysis.specs.Slots.{IsNumbering}
use Rattle.slot_analysis.specs.Steps.{IsReach}
use Rattle.slot_analysis.specs.Clauses.{IsAnalysis}

pub record AreTables (g : Grammar) (bases : List ℕ) (lefts : List Bool) (nullables productives reach : List ℕ) : Type 0 where
  pub written : IsWritten g
  pub numbering : IsNumbering g bases
  pub sized : length lefts ≡ length g.names
  pub left : (s : ℕ) → (slice_index_or lefts s false ≡ true) ↔ IsLeft g s
  pub nullable : IsAnalysis true g bases nullables
  pub productive : IsAnalysis false g bases productives
  pub reached : IsReach g bases reach
  pub small : slice_index bases (length g.names) + slice_index bases (length g.names) < 2 ^ 32

-- the tables of a grammar whose levels are packed
pub record IsAnalysed (g : Grammar) (rows : List (List ℕ)) (bases : List ℕ) (lefts : List Bool) (nullables productives reach : List ℕ) : Type 0 where
  pub written : IsWritten g
  pub levels : IsLevelTable g rows
  pub tables : AreTables (packed rows g) bases lefts nullables productives reach
