-- Why a fold of arithmetic has no value.
use Rattle.tree_fold.specs.declared.semantics.FoldError.{FoldError}
use Rattle.tree_fold.specs.declared.semantics.FoldError.TheVariants as fold
use Rattle.calculator.specs.declared.error.CalculationError.{CalculationError}
use Rattle.calculator.specs.declared.error.CalculationError.TheVariants.{NoMemory}

-- the error that is told
abbrev pub fault_of : FoldError CalculationError → CalculationError
fault_of (fold.Semantics e) = e
fault_of fold.NoMemory = NoMemory
