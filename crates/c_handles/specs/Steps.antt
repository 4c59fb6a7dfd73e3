-- A step as C has it: what it is, and where its tokens lie in the input.
use Rattle.std.specs.Prelude.{ℕ, ◌-◌, List, length, take, encode_utf8_all}
use Rattle.grammar_model.specs.Steps as steps
use Rattle.grammar_model.specs.Steps.{TokenStep, NulledStep, RuleStep}
use Rattle.slif_parser.specs.Views.{Read}
use Rattle.slif_parser.specs.Readings.{start_at, end_at}
use Rattle.c_handles.specs.declared.steps.Step.{Step}

-- the byte at which a character begins, or the text ends
abbrev pub byte_at : List ℕ → (character : ℕ) → ℕ
byte_at cs character = length (encode_utf8_all (take character cs))

abbrev pub step_over : Read → (kind number children from to : ℕ) → Step
step_over r kind number children from to =
    let start = start_at r.spans from in
    let finish = end_at r.spans to in
    record {
      kind = kind;
      number = number;
      children = children;
      from = from;
      to = to;
      start = start;
      length = finish - start;
      byte = byte_at r.characters start;
      bytes = byte_at r.characters finish - byte_at r.characters start;
    }

-- 0 is a token, 1 a symbol that spans nothing, 2 a rule
abbrev pub laid : Read → steps.Step → Step
laid r (TokenStep symbol from to) = step_over r 0 symbol 0 from to
laid r (NulledStep symbol at) = step_over r 1 symbol 0 at at
laid r (RuleStep rule children from to) = step_over r 2 rule children from to
