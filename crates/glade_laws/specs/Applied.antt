-- The laws at a reading with two derivations: lists of numbers with a comma between them, where a last comma may stand.
use Rattle.std.specs.Prelude.{◌≢◌, List, []}
use Rattle.flat_model.specs.Lists.{lists}
use Rattle.glade_model.specs.Glades.{Glade, AreGlades}
use Rattle.glade_model.specs.Laws.{HaveLists}
use Rattle.forest_laws.specs.Applied.{tokens}

-- it has a report, in which something stands
pub record GladesApply : Type 0 where
  pub have : HaveLists lists tokens 0 3
  pub glades : List Glade
  pub are : AreGlades lists tokens 0 3 glades
  pub some : glades ≢ []
