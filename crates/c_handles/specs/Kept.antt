-- Which derivations of an input are kept, by their steps and their lines.
use Rattle.std.specs.Prelude.{◌≡◌, ℕ, ◌+◌, ◌<◌, ◌↔◌, List, [], ◌∷◌, Option, Some, None, IsTrue, not, length, map, take, drop}
use Rattle.grammar_model.specs.Trees.{Tree}
use Rattle.grammar_model.specs.Steps.{steps_of}
use Rattle.grammar_model.specs.declared.Ranking.{Ranking}
use Rattle.grammar_model.specs.declared.Show.{Show}
use Rattle.slif_parser.specs.Views.{Read, FirstOf}
use Rattle.slif_parser.specs.Readings.{AreAllOf}
use Rattle.slif_parser.specs.Shown.{shown_line}
use Rattle.c_handles.specs.Steps.{laid}
use Rattle.c_handles.specs.declared.steps.Step.{Step}
use Rattle.c_handles.specs.declared.parse.Parse.{Parse}

abbrev pub laid_tree : Read → Tree → List Step
laid_tree r tree = map (laid r) (steps_of tree)

-- the lines of derivations as they are to be shown, if they are
abbrev pub lines_of : Read → Option Show → List Tree → List (List ℕ)
lines_of r None trees = []
lines_of r (Some show) trees = map (shown_line r show) trees

-- of all derivations, in the declared order, those behind the first `skip` are kept, at most so many, each by its steps, with its line
-- where lines are shown; and whether there are more
pub record AreSome (r : Read) (ranking : Ranking) (shown : Option Show) (skip most : ℕ) (p : Parse) : Type 0 where
  pub trees : List Tree
  pub all : AreAllOf r ranking trees
  pub kept : map (λ steps. steps.items) p.derivations.items ≡ map (laid_tree r) (take most (drop skip trees))
  pub lines : map (λ line. line.items) p.lines.items ≡ lines_of r shown (take most (drop skip trees))
  pub more : IsTrue p.more ↔ (skip + most < length trees)

-- the first derivation is kept alone, and whether there are others
pub record IsOne (r : Read) (shown : Option Show) (f : FirstOf) (p : Parse) : Type 0 where
  pub kept : (t : Tree) → f.steps ≡ steps_of t → map (λ steps. steps.items) p.derivations.items ≡ laid_tree r t ∷ []
  pub lines : (t : Tree) → f.steps ≡ steps_of t → map (λ line. line.items) p.lines.items ≡ lines_of r shown (t ∷ [])
  pub more : p.more ≡ not f.only
