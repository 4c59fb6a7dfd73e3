-- That the chosen derivations of a start have a list, in the declared order. That they have one list only is a law of derivations.
use Rattle.std.specs.Prelude.{◌≡◌, ℕ, ◌<◌, ◌≤◌, List, length, slice_index_or}
use Rattle.grammar_model.specs.declared.Edge.{Edge}
use Rattle.grammar_model.specs.declared.Ranking.{Ranking}
use Rattle.grammar_model.specs.Grammar.{PlainRule, Plain, Grammar, rule_at, slot_of}
use Rattle.grammar_model.specs.Trees.{Tree}
use Rattle.grammar_model.specs.Derives.{Held}
use Rattle.grammar_model.specs.Chosen.{AreChosen}
use Rattle.grammar_model.specs.Checked.{IsChecked}
use Rattle.recognizer_model.specs.FewRules.{HasFewRules}
use Rattle.grammar_laws.specs.Laws.{GoForward}

-- the right side of each plain rule has at most a thousand parts
abbrev pub HasShortRules : Grammar → Type 0
HasShortRules g = (i : ℕ) (rule : PlainRule) → i < length g.rules → rule_at g i ≡ Plain rule → length rule.rhs ≤ 1000

-- the chosen derivations of the first start of a grammar that is accepted have a list, over edges that go forward
abbrev pub StartsAreListed : Type 0
StartsAreListed = (g : Grammar) (ranking : Ranking) (edges : List Edge) (p q : ℕ) → IsChecked g → HasFewRules g → HasShortRules g → GoForward (Held edges) →
    (trees : List Tree) × AreChosen g (Held edges) ranking (slot_of (slice_index_or g.starts 0 0)) p q trees
