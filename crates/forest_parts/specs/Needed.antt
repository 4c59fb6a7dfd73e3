-- Topmost items that nodes ask for, as those tell that were met so far, and the hidden items below them.
use Rattle.std.specs.Prelude.{◌≡◌, ℕ, ◌≤◌, List, Contains, ◌↔◌}
use Rattle.grammar_model.specs.declared.Ranking.{Ranking}
use Rattle.grammar_model.specs.Grammar.{Grammar}
use Rattle.recognizer_model.specs.declared.Item.{Item}
use Rattle.recognizer_model.specs.declared.NodeKey.{NodeKey}
use Rattle.recognizer_model.specs.Items.{IsWhole}
use Rattle.earley_sets.specs.Recognizer.{Recognizer, set_at}
use Rattle.earley_sets.specs.Below.{LeadsUp, StandsBelow}
use Rattle.forest_parts.specs.Unasked.{IsAskedFor}
use Rattle.forest_parts.specs.Given.{GivenAt, IsInGiven}

-- a whole item that begins at `least` or after it, and may be that of a node
abbrev pub MayBeUsed : (unasked : List Item) → (least : ℕ) → Item → Type 0
MayBeUsed unasked least item = (least ≤ item.origin) × (¬ Contains unasked item)

-- the item leads up to one that may be that of a node
abbrev pub LeadsOver : Recognizer → (unasked : List Item) → (end least : ℕ) → (item topmost : Item) → Type 0
LeadsOver r unasked end least item topmost = LeadsUp r end item topmost × MayBeUsed unasked least topmost

-- of the kept items that lead up to such topmost ones, all, with these
pub record AreTops (r : Recognizer) (unasked : List Item) (end least : ℕ) (above below : List Item) : Type 0 where
  pub tops : (topmost : Item) → Contains above topmost ↔ ((item : Item) × (Contains (set_at r end) item × IsWhole r.flat item) × LeadsOver r unasked end least item topmost)
  pub bottoms : (item : Item) → Contains below item ↔ ((other : Item) × (Contains (set_at r end) other × IsWhole r.flat other) × ((item ≡ other) × ((topmost : Item) × LeadsOver r unasked end least other topmost)))

-- a hidden item below a topmost one that begins at `least` or after it, and is asked for
abbrev pub IsBelowAsked : Grammar → Ranking → Recognizer → List NodeKey → (end least : ℕ) → Item → Type 0
IsBelowAsked w ranking r keys end least item =
    (topmost : Item) × StandsBelow r end topmost item ×
    ((least ≤ topmost.origin) × IsAskedFor w ranking r keys end topmost)

-- such an item that was not brought back before
abbrev pub IsAskedAnew : Grammar → Ranking → Recognizer → List NodeKey → List GivenAt → (end least : ℕ) → Item → Type 0
IsAskedAnew w ranking r keys given end least item =
    IsBelowAsked w ranking r keys end least item × (¬ IsInGiven given (record { place = end; item = item }))

-- such an item that is not among some
abbrev pub IsAskedBeside : Grammar → Ranking → Recognizer → List NodeKey → (items : List Item) → (end least : ℕ) → Item → Type 0
IsAskedBeside w ranking r keys items end least item =
    IsBelowAsked w ranking r keys end least item × (¬ Contains items item)
