-- What was noted of pairs of a set and a symbol.
use Rattle.std.specs.Prelude.{Bool, ◌==◌, ◌&&◌, List, Option}
use Rattle.std.specs.Map.{lookup, keys_of}
use Rattle.recognizer_model.specs.declared.Item.{Item}
use Rattle.recognizer_model.specs.declared.Pair.{Pair}

abbrev pub Note : Type 0
Note = Pair × Item

abbrev pub same_pair : Pair → Pair → Bool
same_pair x y = (x.set == y.set) && (x.symbol == y.symbol)

-- the item that was noted of a pair
abbrev pub noted : List Note → Pair → Option Item
noted notes pair = lookup (same_pair pair) notes

-- the pairs of which something was noted
abbrev pub pairs_of : List Note → List Pair
pairs_of notes = keys_of notes
