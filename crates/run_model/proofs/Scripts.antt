-- A script has an outcome, and one only.
use Rattle.std.proofs.Common.{◌≡◌, ℕ, List, ◌++◌, refl, sym, ap, ◌∙◌, arith, codes, decimal}
use Rattle.grammar_model.specs.declared.limits.TheConstants.{LONGEST_INPUT}
use Rattle.run_model.specs.Inputs.{longer_text}
use Rattle.run_model.specs.Outcome.{Outcome, IsScriptOutcome, done, refused}
use Rattle.run_model.specs.Outcome.IsScriptOutcome.{TooLong, NotUtf8, Answered}
use Rattle.run_model.proofs.Texts.{ScriptLaws}
use Rattle.run_model.proofs.Inputs.{IsSomeInput, Long, Broken, Text, some_input, one_broken}

module _ (laws : ScriptLaws) (bytes : List ℕ) where
  by_input : IsSomeInput LONGEST_INPUT bytes → (outcome : Outcome) × IsScriptOutcome bytes outcome
  by_input (Long long) = (refused 1 (longer_text LONGEST_INPUT), TooLong long refl)
  by_input (Broken at broken) = (refused 1 (codes "input is not UTF-8 at byte " ++ decimal at), NotUtf8 at broken refl)
  by_input (Text text) = let (answers, are) = laws.answers bytes in (done answers, Answered answers text are refl)

  pub script_outcome : (outcome : Outcome) × IsScriptOutcome bytes outcome
  script_outcome = by_input (some_input LONGEST_INPUT bytes)

  pub one_script : (x y : Outcome) → IsScriptOutcome bytes x → IsScriptOutcome bytes y → x ≡ y
  one_script x y (TooLong long is) (TooLong long' is') = is ∙ sym is'
  one_script x y (TooLong long is) (NotUtf8 at broken is') = let w = broken.within in absurd (omega (arith, w, long))
  one_script x y (TooLong long is) (Answered answers text are is') = let w = text.within in absurd (omega (arith, w, long))
  one_script x y (NotUtf8 at broken is) (TooLong long is') = let w = broken.within in absurd (omega (arith, w, long))
  one_script x y (NotUtf8 at broken is) (NotUtf8 at' broken' is') =
      is ∙ ap (λ k. refused 1 (codes "input is not UTF-8 at byte " ++ decimal k)) (one_broken LONGEST_INPUT bytes at at' broken broken') ∙ sym is'
  one_script x y (NotUtf8 at broken is) (Answered answers text are is') = absurd (broken.broken text.utf8)
  one_script x y (Answered answers text are is) (TooLong long is') = let w = text.within in absurd (omega (arith, w, long))
  one_script x y (Answered answers text are is) (NotUtf8 at broken is') = absurd (broken.broken text.utf8)
  one_script x y (Answered answers text are is) (Answered answers' text' are' is') = is ∙ ap done (laws.one_list bytes answers answers' are are') ∙ sym is'
