-- Steps of the walks that pass shapes.
use Rattle.std.specs.Prelude.{◌≡◌, ℕ, ◌<◌, true, cond, List, [], ◌∷◌, length, Option, Some, None, slice_get}
use Rattle.forest_model.specs.Forest.{ForestNode, Forest}
use Rattle.bocage.specs.Readers.{node_at}
use Rattle.glade_laws.specs.Walks.{is_list_part, end_of, options, HasSecond, IsOnly}
use Rattle.glades.specs.declared.links.Link.{Link}
use Rattle.glades.specs.declared.links.Link.TheVariants.{End, Next, Fork}
use Rattle.glades.specs.declared.shapes.Course.{Course}
use Rattle.glades.specs.declared.shapes.Course.TheVariants.{On, Over}

-- the start that is passed on the way to where a choice leads, if there is one
abbrev pub passed_here : Forest → ForestNode → (next : ℕ) → List ℕ
passed_here f node next = cond (is_list_part f node.key) [] (end_of (slice_get f.nodes next) ∷ [])

abbrev pub next_of : Option Link → Option ℕ
next_of None = None
next_of (Some End) = None
next_of (Some (Next next)) = Some next
next_of (Some (Fork next fork)) = Some next

-- on by the first choice, which has a second one after it, or over by the second, where it has none
abbrev pub IsCourse : Forest → ℕ → Course → Type 0
IsCourse f n (On next) = (more : List ℕ) × (options f (node_at f n) ≡ next ∷ more) × (next < length f.nodes) × HasSecond f next true
IsCourse f n (Over fork) = (next : ℕ) × (more : List ℕ) × (options f (node_at f n) ≡ next ∷ fork ∷ more) × (fork < length f.nodes) × ((starts : List ℕ) × IsOnly f next starts)
