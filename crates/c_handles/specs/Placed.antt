-- The derivations of a scanner as C has them: their places stand for characters and bytes.
use Rattle.std.specs.Prelude.{◌≡◌, ℕ, ◌-◌, [], map}
use Rattle.grammar_model.specs.Steps as steps
use Rattle.grammar_model.specs.Steps.{TokenStep, NulledStep, RuleStep}
use Rattle.grammar_core.specs.Steps.{step_of}
use Rattle.scanning_calls.specs.declared.kept.Kept.{Kept}
use Rattle.c_handles.specs.declared.parse.Parse.{Parse}
use Rattle.c_handles.specs.declared.steps.Step.{Step}

abbrev pub step_between : (kind number children from to : ℕ) → Step
step_between kind number children from to = record {
  kind = kind;
  number = number;
  children = children;
  from = from;
  to = to;
  start = from;
  length = to - from;
  byte = from;
  bytes = to - from;
}

-- 0 is a token, 1 a symbol that spans nothing, 2 a rule
abbrev pub placed : steps.Step → Step
placed (TokenStep symbol from to) = step_between 0 symbol 0 from to
placed (NulledStep symbol at) = step_between 1 symbol 0 at at
placed (RuleStep rule children from to) = step_between 2 rule children from to

-- these derivations are kept for C, without lines
pub record IsPlaced (k : Kept) (p : Parse) : Type 0 where
  pub derivations : map (λ steps. steps.items) p.derivations.items ≡ map (λ steps. map placed (map step_of steps.items)) k.derivations.items
  pub lines : p.lines.items ≡ []
  pub more : p.more ≡ k.more
