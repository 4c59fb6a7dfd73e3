-- Each reading with a derivation has a report.
use Rattle.std.proofs.Common.{List, map, flat_map, subst}
use Rattle.grammar_model.specs.Grammar.{slot_of}
use Rattle.grammar_model.specs.Trees.{Tree}
use Rattle.grammar_model.specs.Derives.{Held}
use Rattle.grammar_model.specs.Order.{rank_order}
use Rattle.grammar_model.specs.All.{IsAll}
use Rattle.grammar_model.specs.Chosen.{AreChosen}
use Rattle.grammar_model.specs.declared.Ranking.TheVariants.{Rule as RuleRanks}
use Rattle.recognizer_model.specs.FlatForm.{tree_of}
use Rattle.forest_model.specs.Forest.{Forest}
use Rattle.forest_laws.specs.Lists.{whole_by, trees_by}
use Rattle.forest_laws.specs.Laws.{with_nodes}
use Rattle.forest_laws.proofs.Exact.{forests_have_lists}
use Rattle.forest_laws.proofs.Existing.{forests_exist}
use Rattle.glade_model.proofs.Reports.{glades_exist}
use Rattle.glade_laws.specs.Groups.{start_of}
use Rattle.glade_laws.specs.Laws.{UsedHaveLists, ReportsExist}
use Rattle.glade_laws.proofs.Listed.{written_trees}
use Rattle.glade_laws.proofs.Used.{used_group}

pub used_have_lists : UsedHaveLists
used_have_lists f is rule slot p q used =
    let (nodes, group) = used_group f is rule slot p q used in (
      map (tree_of f.written f.flat) (flat_map (whole_by f (forests_have_lists f is).0 p q) nodes),
      subst (λ r. IsAll f.written (Held f.edges) (rank_order f.written r) slot p q (map (tree_of f.written f.flat) (flat_map (whole_by f (forests_have_lists f is).0 p q) nodes))) rule
          (written_trees f is rule slot p q nodes group (forests_have_lists f is).0 (forests_have_lists f is).1),
    )

-- under this ranking all are chosen
all_chosen : (f : Forest) (trees : List Tree) → AreChosen f.written (Held f.edges) RuleRanks (slot_of (start_of f)) 0 f.place trees → IsAll f.written (Held f.edges) (rank_order f.written RuleRanks) (slot_of (start_of f)) 0 f.place trees
all_chosen f trees are = record { sorted = are.sorted; each = λ t. ((λ c. ((are.each t).0 c).0), (λ d. (are.each t).1 (d, tt))) }

pub reports_exist : ReportsExist
reports_exist f derived rule =
    let (nodes, root, forest) = forests_exist f derived in
    let (lists, all) = forests_have_lists (with_nodes f nodes root) forest in
    let chosen = subst (λ r. AreChosen f.written (Held f.edges) r (slot_of (start_of f)) 0 f.place (trees_by (with_nodes f nodes root) lists)) rule all.listing in
    glades_exist f.written f.edges (start_of f) f.place (used_have_lists (with_nodes f nodes root) forest rule) (trees_by (with_nodes f nodes root) lists) (all_chosen f (trees_by (with_nodes f nodes root) lists) chosen)
