-- A reading by an accepted grammar has the counts that bound its steps, and no others.
use Rattle.std.specs.Prelude.{slice_index_or}
use Rattle.std.proofs.Common.{◌≡◌, ℕ, List, length, Some, slice_get, sym, ◌∙◌, subst}
use Rattle.std.proofs.lemmas.Option.{same_Some}
use Rattle.grammar_model.specs.Derives.{Held}
use Rattle.recognizer_model.specs.declared.Item.{Item}
use Rattle.grammar_model.specs.Grammar.{Grammar}
use Rattle.grammar_model.specs.declared.Ranking.{Ranking}
use Rattle.grammar_model.specs.declared.Ranking.TheVariants.{None as NoRanks}
use Rattle.recognizer_model.specs.Flat.{FlatGrammar}
use Rattle.recognizer_model.specs.Chosen.{allowed_by}
use Rattle.recognizer_model.specs.FlatForm.{FlatEdges}
use Rattle.recognizer_model.specs.Items.{InSet}
use Rattle.recognizer_model.specs.Counts.{IsListOf, IsCountOf}
use Rattle.recognizer_model.specs.Nodes.{IsExpanded}
use Rattle.grammar_laws.proofs.ItemSets.{flat_forward, flat_decided, held_decided, item_sets_exist}
use Rattle.language_model.specs.Building.{Built}
use Rattle.reading_model.specs.Reading.{Piece, edges_of, earleme_after}
use Rattle.reading_laws.proofs.Candidates.{pieces_forward}
use Rattle.reading_laws.proofs.Short.{built_are_short}
use Rattle.recognizer_model.specs.Below.{IsHiddenNode}
use Rattle.recognizer_model.specs.Links.{IsPlacedLink, IsLeoPair}
use Rattle.number_laws.specs.Counts.{Counts, HasCounts, LinksAreCounted, CountsExist, CountsAreOne, CountsBoundSteps}
use Rattle.number_laws.proofs.Exist.{told, top_is}
use Rattle.number_laws.proofs.Flat.{flattened, is_flat}
use Rattle.number_laws.proofs.Linked.{link_list, pair_list}
use Rattle.number_laws.proofs.Lists.{count_of}
use Rattle.renaming_laws.proofs.Alike.{counts_of_any_form}
use Rattle.number_laws.proofs.Placed.{hidden_list}
use Rattle.number_laws.proofs.Used.{used_list}
use Rattle.recognizer_model.proofs.Counting.{one_count}

pub links_are_counted : LinksAreCounted
links_are_counted f edges top place is_top forward =
    let E = FlatEdges f (Held edges) in
    let goes = flat_forward f (Held edges) forward in
    let edge = flat_decided f (Held edges) (held_decided edges) in
    let sets : (j : ℕ) → (items : List Item) × IsListOf (InSet f E top j) items = λ j. item_sets_exist f edges top j forward in
    let (links, links_are) = link_list f E top is_top goes edge sets place in
    let (pairs, pairs_are) = pair_list f E top is_top goes edge sets place in
    ((length links, count_of (IsPlacedLink f E top place) links links_are), (length pairs, count_of (IsLeoPair f E top place) pairs pairs_are))

pub counts_exist : CountsExist
counts_exist b ranking pieces built accepted =
    let checked = accepted.checked.structural in
    let (f, is) = flattened b.g1 checked accepted.structural in
    let flat = is_flat b.g1 checked accepted.structural (built_are_short b built) f is in
    let edges = edges_of pieces in
    let E = FlatEdges f (Held edges) in
    let top = slice_index_or f.tops 0 0 in
    let place = earleme_after pieces in
    let top_is = top_is b.g1 checked f flat is.made edges (pieces_forward pieces) ranking place in
    let is_top = (flat.tops 0 top top_is).is_top in
    let goes = flat_forward f (Held edges) (pieces_forward pieces) in
    let edge = flat_decided f (Held edges) (held_decided edges) in
    let sets : (j : ℕ) → (items : List Item) × IsListOf (InSet f E top j) items = λ j. item_sets_exist f edges top j (pieces_forward pieces) in
    let (n, stats) = told b.g1 checked f flat is.made edges (pieces_forward pieces) ranking place in
    let (keys, used) = used_list b.g1 checked f flat is.made edges (pieces_forward pieces) NoRanks place in
    let (links, links_are) = link_list f E top is_top goes edge sets place in
    let (pairs, pairs_are) = pair_list f E top is_top goes edge sets place in
    let (hidden, hidden_are) = hidden_list f E top is_top goes edge sets (allowed_by b.g1 NoRanks f E) place keys used in (
      record { links = length links; pairs = length pairs; expanded = n.expanded; hidden = length hidden },
      record {
        flat = f;
        is = flat;
        of = is.made;
        top = top;
        top_is = top_is;
        links = count_of (IsPlacedLink f E top place) links links_are;
        pairs = count_of (IsLeoPair f E top place) pairs pairs_are;
        expanded = stats.hidden_items;
        hidden = count_of (IsHiddenNode b.g1 f E top place) hidden hidden_are;
      },
    )

pub counts_are_one : CountsAreOne
counts_are_one b ranking pieces m n x y =
    let moved = counts_of_any_form b.g1 (edges_of pieces) ranking 0 (earleme_after pieces) x.flat y.flat x.top y.top
    (record { flat = x.is; of = x.of; top_is = x.top_is; other_flat = y.is; other_of = y.of; other_is = y.top_is }) in
    let E = FlatEdges y.flat (Held (edges_of pieces)) in
    let links : m.links ≡ n.links = one_count (IsPlacedLink y.flat E y.top (earleme_after pieces)) m.links n.links (moved.links m.links x.links) y.links in
    let pairs : m.pairs ≡ n.pairs = one_count (IsLeoPair y.flat E y.top (earleme_after pieces)) m.pairs n.pairs (moved.pairs m.pairs x.pairs) y.pairs in
    let expanded : m.expanded ≡ n.expanded = one_count (IsExpanded y.flat E (allowed_by b.g1 ranking y.flat E) y.top (earleme_after pieces)) m.expanded n.expanded (moved.expanded m.expanded x.expanded) y.expanded in
    let hidden : m.hidden ≡ n.hidden = one_count (IsHiddenNode b.g1 y.flat E y.top (earleme_after pieces)) m.hidden n.hidden (moved.hidden m.hidden x.hidden) y.hidden in
    λ i. record { links = links i; pairs = pairs i; expanded = expanded i; hidden = hidden i }

pub counts_bound_steps : CountsBoundSteps
counts_bound_steps b ranking pieces n looks before after x within =
    let moved = counts_of_any_form b.g1 (edges_of pieces) ranking 0 (earleme_after pieces) x.flat within.flat x.top within.top
    (record { flat = x.is; of = x.of; top_is = x.top_is; other_flat = within.is; other_of = within.of; other_is = within.top_is }) in
    let links = moved.links n.links x.links in
    let pairs = moved.pairs n.pairs x.pairs in
    (within.few n.links n.pairs n.expanded links pairs (moved.expanded n.expanded x.expanded), within.needed n.links n.pairs n.hidden links pairs (moved.hidden n.hidden x.hidden))
