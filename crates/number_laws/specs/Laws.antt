-- That a reading has its four numbers: whatever the pieces are that an accepted grammar reads, and whether they have a derivation or not.
use Rattle.std.specs.Prelude.{◌≡◌, List}
use Rattle.grammar_model.specs.declared.Ranking.{Ranking}
use Rattle.language_model.specs.Building.{Built}
use Rattle.language_model.specs.Texts.{IsBuilt}
use Rattle.reading_model.specs.Accepted.{IsAccepted}
use Rattle.reading_model.specs.Reading.{Piece}
use Rattle.run_model.specs.Numbers.{Numbers, HasNumbers}

-- a reading has its numbers
abbrev pub NumbersExist : Type 0
NumbersExist = (b : Built) (ranking : Ranking) (pieces : List Piece) → IsBuilt b → IsAccepted b → (n : Numbers) × HasNumbers b ranking pieces n

-- and only these
abbrev pub NumbersAreOne : Type 0
NumbersAreOne = (b : Built) (ranking : Ranking) (pieces : List Piece) (m n : Numbers) → HasNumbers b ranking pieces m → HasNumbers b ranking pieces n → m ≡ n
