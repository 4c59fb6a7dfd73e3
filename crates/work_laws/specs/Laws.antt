-- Job `work` always works: whatever its size, where its input of 3 * size + 1 bytes is not too long, its grammar is accepted, its
-- input is read to its end, with a token for each byte, and the tokens have exactly one derivation.
use Rattle.std.specs.Prelude.{◌≡◌, ℕ, ◌+◌, ◌*◌, ◌<◌, List, [], ◌∷◌}
use Rattle.grammar_model.specs.declared.Ranking.{Ranking}
use Rattle.grammar_model.specs.Trees.{Tree}
use Rattle.grammar_model.specs.declared.limits.TheConstants.{LONGEST_INPUT}
use Rattle.language_model.specs.Building.{Built}
use Rattle.reading_model.specs.Reading.{Piece, earleme_after}
use Rattle.run_model.specs.Jobs.{work_grammar, work_input}
use Rattle.run_model.specs.Refused.{Accepted}
use Rattle.run_model.specs.Inputs.{IsRead}
use Rattle.run_model.specs.Listing.{AreDerivations}

abbrev pub WorkHasOne : Type 0
WorkHasOne = (size : ℕ) → 3 * size < LONGEST_INPUT →
    (b : Built) × Accepted work_grammar b × ((pieces : List Piece) × IsRead b [] (work_input size) pieces × (earleme_after pieces ≡ 3 * size + 1) ×
    ((ranking : Ranking) → (tree : Tree) × AreDerivations b ranking pieces (tree ∷ [])))
