-- What an error of a fold shows.
use Rattle.std.specs.Prelude.{ℕ, List, Option, Some, codes}
use Rattle.tree_fold.specs.declared.semantics.FoldError.{FoldError}
use Rattle.tree_fold.specs.declared.semantics.FoldError.TheVariants.{Semantics, NoMemory}

module _ {E : Type 0} where
  -- `output` is what the semantics' own error shows
  abbrev pub fold_text : (output : E → Option (List ℕ)) → FoldError E → Option (List ℕ)
  fold_text output (Semantics error) = output error
  fold_text output NoMemory = Some (codes "out of memory")
