-- The laws at a reading with two derivations.
use Rattle.std.proofs.Common.{◌≡◌, refl}
use Rattle.grammar_model.specs.Grammar.{slot_of}
use Rattle.grammar_model.specs.Trees.{Tree, Children, Leaf, Nulled, Node, NoChild, Child}
use Rattle.grammar_model.specs.Derives.{Held, Derives}
use Rattle.grammar_model.specs.declared.Ranking.TheVariants.{Rule as RuleRanks}
use Rattle.flat_model.specs.Lists.{lists}
use Rattle.forest_model.specs.Forest.{Forest, IsDerived}
use Rattle.forest_laws.specs.Laws.{with_nodes}
use Rattle.forest_laws.specs.Applied.{tokens, reading, two_lists, one_list}
use Rattle.forest_laws.proofs.Applied.{forests_apply}
use Rattle.forest_laws.proofs.Existing.{forests_exist}
use Rattle.glade_model.proofs.Reports.{none_where_one}
use Rattle.glade_laws.specs.Applied.{GladesApply}
use Rattle.glade_laws.proofs.Existing.{used_have_lists, reports_exist}

-- by ranks
abbrev ranked : Forest
ranked = record reading { ranking = RuleRanks }

derived : IsDerived ranked
derived =
    let d = forests_apply.derived in
    record { checked = d.checked; flat = d.flat; flat_of = d.flat_of; start = d.start; forward = d.forward; tree = d.tree; derives = d.derives }

derives : (t : Tree) → Rattle.std.specs.Prelude.Contains (Rattle.forest_laws.specs.Lists.trees_by (with_nodes reading forests_apply.nodes forests_apply.root) forests_apply.lists) t → Derives lists (Held tokens) (slot_of 0) 0 3 t
derives t h = ((forests_apply.all.listing.each t).0 h).0

-- children under the root
children_in : Tree → Children
children_in (Leaf s p q) = NoChild
children_in (Nulled s p) = NoChild
children_in (Node r cs p q) = cs

shorter : Children → Children
shorter NoChild = NoChild
shorter (Child prefix last) = prefix

differ : two_lists ≡ one_list → ⊥
differ e = cc

pub glades_apply : GladesApply
glades_apply =
    let (nodes, root, forest) = forests_exist ranked derived in
    let have = used_have_lists (with_nodes ranked nodes root) forest refl in
    let (glades, are) = reports_exist ranked derived refl in
    record {
      have = have;
      glades = glades;
      are = are;
      some = λ none. differ (none_where_one lists tokens 0 3 have glades are none two_lists one_list (derives two_lists forests_apply.has_two) (derives one_list forests_apply.has_one));
    }
