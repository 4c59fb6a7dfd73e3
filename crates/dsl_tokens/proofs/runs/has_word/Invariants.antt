use Rattle.std.proofs.Common.{◌≡◌, false, take}
use Rattle.std.specs.List.{list_any}
use Rattle.language_model.specs.Tokens.{is_word}
use Rattle.dsl_tokens.proofs.runs.has_word.Given as goal

abbrev pub invariant-loop-i : goal.invariant-loop-i
invariant-loop-i l = list_any is_word (take l.i l.text) ≡ false
