-- An input that is read has few characters.
use Rattle.std.proofs.Common.{ℕ, ◌≤◌, List, [], length, chars, ap, arith}
use Rattle.std.proofs.lemmas.Str.{length-le-encodes, encodes-chars}
use Rattle.grammar_model.specs.declared.limits.TheConstants.{LONGEST_INPUT}
use Rattle.language_model.specs.Building.{Built}
use Rattle.slif_parser.specs.Views.{Read}
use Rattle.slif_parser.specs.Readings.{IsReadAs}

pub few_characters : (b : Built) (bytes : List ℕ) (r : Read) → IsReadAs b [] bytes r → length r.characters ≤ LONGEST_INPUT
few_characters b bytes r p =
    let text = p.is.text in
    omega (arith, text.within, ap length p.characters_are, length-le-encodes (chars bytes), ap length (encodes-chars bytes text.utf8))
