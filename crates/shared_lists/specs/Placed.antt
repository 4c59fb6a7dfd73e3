-- Places that are noted by the numbers of shapes and of symbols.
use Rattle.std.specs.Prelude.{◌≡◌, ℕ, List, Some, slice_get}
use Rattle.std.specs.declared.vec.Vec.{Vec}
use Rattle.std.specs.declared.alloc.Global.{Global}
use Rattle.shared_lists.specs.declared.places.Places.{Places}

abbrev pub HasPlaces : List (Vec Places Global) → (kind symbol : ℕ) → Places → Type 0
HasPlaces blocks kind symbol p = (block : Vec Places Global) × (slice_get blocks kind ≡ Some block) × (slice_get block.items symbol ≡ Some p)
