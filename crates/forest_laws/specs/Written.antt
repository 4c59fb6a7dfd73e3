-- The steps of a written derivation, from those of the flat one, read one after another: a list's rule writes nothing, and counts for
-- as many children as it has. The counts of what was read and has no rule yet are on a stack, the newest first.
use Rattle.std.specs.Prelude.{◌≡◌, ℕ, zero, suc, ◌+◌, Bool, true, false, cond, List, [], ◌∷◌, ◌++◌}
use Rattle.grammar_model.specs.Grammar.{Grammar}
use Rattle.grammar_model.specs.Trees.{Tree}
use Rattle.grammar_model.specs.Steps.{Step, TokenStep, NulledStep, RuleStep, steps_of}
use Rattle.recognizer_model.specs.declared.flat.FlatSource.{FlatSource}
use Rattle.recognizer_model.specs.declared.flat.FlatSource.TheVariants.{Written, Top as OfStart}
use Rattle.recognizer_model.specs.Flat.{FlatGrammar, lhs_of, source_of}
use Rattle.recognizer_model.specs.FlatForm.{symbol_at, is_list, written_symbol, tree_of}
use Rattle.forest_model.specs.Forest.{Forest, edges_of, top_of, IsDerived}
use Rattle.recognizer_model.specs.FlatDerives.{Derives}

-- the sum of the newest n counts
abbrev pub sum_newest : ℕ → List ℕ → ℕ
sum_newest zero counts = 0
sum_newest (suc n) [] = 0
sum_newest (suc n) (c ∷ counts) = sum_newest n counts + c

-- those after them
abbrev pub older : ℕ → List ℕ → List ℕ
older zero counts = counts
older (suc n) [] = []
older (suc n) (c ∷ counts) = older n counts

abbrev pub is_list_rule : FlatGrammar → ℕ → Bool
is_list_rule g r = is_list (symbol_at g (lhs_of g r))

-- what a flat rule writes: nothing where it is a list's or comes from a start
abbrev pub rule_written : Bool → FlatSource → (count from to : ℕ) → List Step
rule_written true source count from to = []
rule_written false (Written i) count from to = RuleStep i count from to ∷ []
rule_written false (OfStart k) count from to = []

-- what a step writes after these counts, and the counts that it leaves
abbrev pub step_written : Grammar → FlatGrammar → List ℕ → Step → List Step
step_written w g counts (TokenStep x from to) = TokenStep (written_symbol w (symbol_at g x)) from to ∷ []
step_written w g counts (NulledStep x at) = NulledStep (written_symbol w (symbol_at g x)) at ∷ []
step_written w g counts (RuleStep r n from to) = rule_written (is_list_rule g r) (source_of g r) (sum_newest n counts) from to

abbrev pub counts_after : FlatGrammar → List ℕ → Step → List ℕ
counts_after g counts (TokenStep x from to) = 1 ∷ counts
counts_after g counts (NulledStep x at) = 1 ∷ counts
counts_after g counts (RuleStep r n from to) = cond (is_list_rule g r) (sum_newest n counts) 1 ∷ older n counts

-- the steps that are written, one after another
abbrev pub steps_written : Grammar → FlatGrammar → List ℕ → List Step → List Step
steps_written w g counts [] = []
steps_written w g counts (step ∷ steps) = step_written w g counts step ++ steps_written w g (counts_after g counts step) steps

-- the steps of a flat derivation of the start's top are written as the steps of what it stands for
abbrev pub StepsAreWritten : Type 0
StepsAreWritten = (f : Forest) → IsDerived f → (tree : Tree) → Derives f.flat (edges_of f) (lhs_of f.flat (top_of f)) 0 f.place tree →
    steps_written f.written f.flat [] (steps_of tree) ≡ steps_of (tree_of f.written f.flat tree)
