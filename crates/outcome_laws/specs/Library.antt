-- What the library's contracts speak of, of the input `(aa)` and the grammar of job `work`: it is read, its list of all derivations has one, and a
-- fold that numbers the tokens and adds gives 10 of it.
use Rattle.std.specs.Prelude.{◌≡◌, ℕ, suc, List, [], ◌∷◌, Result, Ok, sum, codes}
use Rattle.grammar_model.specs.Trees.{Tree}
use Rattle.grammar_model.specs.Values.{Token}
use Rattle.tree_fold.specs.Values.{HasValue}
use Rattle.valuator.specs.Play.{tokens_of}
use Rattle.language_model.specs.Building.{Built}
use Rattle.run_model.specs.Jobs.{work_grammar}
use Rattle.run_model.specs.Refused.{Accepted}
use Rattle.slif_parser.specs.Views.{DerivationsOf}
use Rattle.slif_parser.specs.Readings.{IsReadAs, AreAll}

-- the state counts tokens; a token is its number, a rule the sum of its children
abbrev pub token_gives : (before after : ℕ) → ℕ → List ℕ → Token → Result ℕ ℕ → Type 0
token_gives before after symbol name token r = (after ≡ suc before) × (r ≡ Ok (suc before))

abbrev pub nulled_gives : (before after : ℕ) → ℕ → List ℕ → Result ℕ ℕ → Type 0
nulled_gives before after symbol name r = (after ≡ before) × (r ≡ Ok 0)

abbrev pub rule_gives : (before after : ℕ) → ℕ → List ℕ → List ℕ → Result ℕ ℕ → Type 0
rule_gives before after rule name children r = (after ≡ before) × (r ≡ Ok (sum children))

pub record LibraryOccurs : Type 0 where
  pub grammar : Built
  pub accepted : Accepted work_grammar grammar
  pub derivations : DerivationsOf
  pub read : IsReadAs grammar [] (codes "(aa)") derivations.read
  pub tree : Tree
  pub all : AreAll derivations (tree ∷ [])
  pub folded : HasValue token_gives nulled_gives rule_gives grammar.g1 (tokens_of derivations.read.characters derivations.read.spans) tree 0 10 4
