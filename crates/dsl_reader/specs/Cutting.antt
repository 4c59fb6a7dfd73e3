-- What `parse` answers, and how the pieces are read one after the other.
use Rattle.std.specs.Prelude.{◌≡◌, true, List, [], ◌∷◌, ◌++◌, Some, None}
use Rattle.language_model.specs.Tokens.{Spelled}
use Rattle.language_model.specs.Description.{Statement, IsBadStatement, is_some}
use Rattle.dsl_reader.specs.Pieces.{first_place}
use Rattle.dsl_reader.specs.Forms.{statement_in}
use Rattle.dsl_reader.specs.declared.refusal.StatementRefusal.{StatementRefusal}
use Rattle.dsl_reader.specs.declared.refusal.StatementRefusal.TheVariants.{BadStatement, NoMemory}

-- the statement of the piece is added, if the piece has a token
abbrev pub IsAdded : List Statement → List Spelled → List Statement → Type 0
IsAdded old [] new = new ≡ old
IsAdded old (t ∷ ts) new = (s : Statement) × (statement_in (t ∷ ts) ≡ Some s) × (new ≡ old ++ s ∷ [])

-- the piece, which is told by its first token, is no statement
abbrev pub IsNoStatement : List Spelled → StatementRefusal → Type 0
IsNoStatement piece (BadStatement at) = (is_some piece ≡ true) × (statement_in piece ≡ None) × (first_place piece ≡ at)
IsNoStatement piece NoMemory = Unit {0}

abbrev pub Refuses : List Spelled → StatementRefusal → Type 0
Refuses tokens (BadStatement at) = IsBadStatement tokens at
Refuses tokens NoMemory = Unit {0}
