-- Why a fold has no value: P holds of the error that the semantics told, or there was no memory, and Q holds.
use Rattle.tree_fold.specs.declared.semantics.FoldError.{FoldError}
use Rattle.tree_fold.specs.declared.semantics.FoldError.TheVariants.{Semantics, NoMemory}

abbrev pub IsFailure : {E : Type 0} → (E → Type 0) → Type 0 → FoldError E → Type 0
IsFailure P Q (Semantics e) = P e
IsFailure P Q NoMemory = Q
