-- A player, and what is known of what it keeps.
use Rattle.std.specs.Prelude.{ℕ, Option, List, length}
use Rattle.grammar_model.specs.Grammar.{Grammar}
use Rattle.grammar_model.specs.Values.{Meaning}
use Rattle.grammar_core.specs.Written.{IsWritten}
use Rattle.grammar_core.specs.declared.steps.Span.{Span}
use Rattle.valuator.specs.Nulling.{AreFirst}
use Rattle.valuator.specs.Play.{IsMeaningOf, AreSpans}

-- what steps are played by
pub record Score : Type 0 where
  pub grammar : Grammar
  pub meaning : Meaning
  pub chars : List ℕ
  pub spans : List Span

-- all steps of derivations by this grammar can be played, with these first rules that null a symbol
pub record IsReady (g : Grammar) (m : Meaning) (chars : List ℕ) (spans : List Span) (nulling : List (Option ℕ)) : Type 0 where
  pub written : IsWritten g
  pub meaning : IsMeaningOf g m
  pub spans_fit : AreSpans (length chars) spans
  pub first : AreFirst g (length g.rules) nulling
