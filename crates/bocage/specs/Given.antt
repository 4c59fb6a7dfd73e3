-- Hidden items that were brought back before the forest is built, and those that it brings back.
use Rattle.std.specs.Prelude.{ℕ, ◌≤◌, List, Contains}
use Rattle.grammar_model.specs.declared.Ranking.{Ranking}
use Rattle.grammar_model.specs.Grammar.{Grammar}
use Rattle.recognizer_model.specs.declared.Item.{Item}
use Rattle.recognizer_model.specs.Nodes.{Placed}
use Rattle.earley_sets.specs.Recognizer.{Recognizer}
use Rattle.forest_parts.specs.Given.{GivenAt, IsBelowTops, IsInGiven}
use Rattle.bocage.specs.Expanded.{IsGivenIn, IsGivenAt}

-- exactly the hidden items below some topmost items, each one that a forest may be given
pub record IsGivenFor (w : Grammar) (ranking : Ranking) (r : Recognizer) (e : GivenAt) : Type 0 where
  pub below : IsBelowTops r e
  pub given : (item : Item) → Contains e.items item → IsGivenAt w ranking r e.place item

abbrev pub AreGivenFor : Grammar → Ranking → Recognizer → List GivenAt → Type 0
AreGivenFor w ranking r given = (e : GivenAt) → Contains given e → IsGivenFor w ranking r e

-- an item that a forest is given, and that was not brought back before
abbrev pub IsGivenAfter : Grammar → Ranking → Recognizer → List GivenAt → Placed → Type 0
IsGivenAfter w ranking r given p = IsGivenIn w ranking r p × (¬ IsInGiven given p)

-- such an item of one place
abbrev pub IsAfterAt : Grammar → Ranking → Recognizer → List GivenAt → (end : ℕ) → Item → Type 0
IsAfterAt w ranking r given end item = IsGivenAfter w ranking r given (record { place = end; item = item })

-- such an item of a place or of one after it
abbrev pub IsAfterFrom : Grammar → Ranking → Recognizer → List GivenAt → (end : ℕ) → Placed → Type 0
IsAfterFrom w ranking r given end p = IsGivenAfter w ranking r given p × (end ≤ p.place)
