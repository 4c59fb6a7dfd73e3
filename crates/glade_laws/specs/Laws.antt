-- Laws of glades and forests.
use Rattle.std.specs.Prelude.{◌≡◌, List}
use Rattle.grammar_model.specs.declared.Ranking.TheVariants.{Rule as RuleRanks}
use Rattle.forest_model.specs.Forest.{Forest, IsDerived, IsForest}
use Rattle.glade_model.specs.Glades.{Glade, AreGlades}
use Rattle.glade_model.specs.Laws.{HaveLists}
use Rattle.glade_laws.specs.Groups.{start_of, AreByGroups}

-- what the groups of a forest tell is the report
abbrev pub GladesAreByGroups : Type 0
GladesAreByGroups = (f : Forest) (glades : List Glade) → IsForest f → f.ranking ≡ RuleRanks → AreByGroups f glades →
    AreGlades f.written f.edges (start_of f) f.place glades

-- the trees of each slot over a span that a derivation of a checked grammar uses have a list
abbrev pub UsedHaveLists : Type 0
UsedHaveLists = (f : Forest) → IsForest f → f.ranking ≡ RuleRanks → HaveLists f.written f.edges (start_of f) f.place

-- each reading with a derivation has a report
abbrev pub ReportsExist : Type 0
ReportsExist = (f : Forest) → IsDerived f → f.ranking ≡ RuleRanks → (glades : List Glade) × AreGlades f.written f.edges (start_of f) f.place glades
