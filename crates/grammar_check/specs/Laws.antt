-- A grammar either passes the check or has one refusal.
use Rattle.std.specs.Prelude.{◌≡◌}
use Rattle.grammar_model.specs.Grammar.{Grammar}
use Rattle.grammar_model.specs.Checked.{IsChecked, Refusal, Refuses}

abbrev pub CheckedIsNotRefused : Type 0
CheckedIsNotRefused = (g : Grammar) (refusal : Refusal) → IsChecked g → Refuses g refusal → ⊥

abbrev pub RefusalIsOne : Type 0
RefusalIsOne = (g : Grammar) (a b : Refusal) → Refuses g a → Refuses g b → a ≡ b
