-- Laws of glades.
use Rattle.std.specs.Prelude.{◌≡◌, ℕ, ◌↔◌, List, []}
use Rattle.grammar_model.specs.declared.Edge.{Edge}
use Rattle.grammar_model.specs.declared.Ranking.{Ranking}
use Rattle.grammar_model.specs.Grammar.{Grammar, Slot, slot_of}
use Rattle.grammar_model.specs.Trees.{Tree}
use Rattle.grammar_model.specs.Derives.{Held, Derives}
use Rattle.grammar_model.specs.declared.Ranking.TheVariants.{Rule as RuleRanks}
use Rattle.grammar_model.specs.Order.{rank_order, Before}
use Rattle.grammar_model.specs.All.{IsAll}
use Rattle.glade_model.specs.Glades.{Glade, shape_of, IsUsedSpan, AreGlades}

-- all trees of one shape stand together: what stands between two of them has their shape, too
abbrev pub ShapesStandTogether : Type 0
ShapesStandTogether = (g : Grammar) (edges : List Edge) (ranking : Ranking) (slot : Slot) (p q : ℕ) (t u v : Tree) →
    Derives g (Held edges) slot p q t → Derives g (Held edges) slot p q u → Derives g (Held edges) slot p q v →
    Before (rank_order g ranking) t u → Before (rank_order g ranking) u v → shape_of t ≡ shape_of v → shape_of u ≡ shape_of t

abbrev pub GladesAreOne : Type 0
GladesAreOne = (g : Grammar) (edges : List Edge) (start place : ℕ) (xs ys : List Glade) →
    AreGlades g edges start place xs → AreGlades g edges start place ys → xs ≡ ys

-- the trees of each place where a node of a derivation stands have a list, as those of a checked grammar have
abbrev pub HaveLists : Grammar → List Edge → (start place : ℕ) → Type 0
HaveLists g edges start place = (slot : Slot) (p q : ℕ) → IsUsedSpan g (Held edges) start place slot p q →
    (trees : List Tree) × IsAll g (Held edges) (rank_order g RuleRanks) slot p q trees

-- the start's derivations have one, too
abbrev pub GladesExist : Type 0
GladesExist = (g : Grammar) (edges : List Edge) (start place : ℕ) (all : List Tree) → HaveLists g edges start place →
    IsAll g (Held edges) (rank_order g RuleRanks) (slot_of start) 0 place all → (glades : List Glade) × AreGlades g edges start place glades

-- there is none exactly where there is one derivation at most
abbrev pub NoGladeMeansOneDerivation : Type 0
NoGladeMeansOneDerivation = (g : Grammar) (edges : List Edge) (start place : ℕ) (glades : List Glade) →
    HaveLists g edges start place → AreGlades g edges start place glades →
    (glades ≡ []) ↔ ((t u : Tree) → Derives g (Held edges) (slot_of start) 0 place t → Derives g (Held edges) (slot_of start) 0 place u → t ≡ u)
