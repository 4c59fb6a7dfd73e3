-- A reading by an accepted grammar has its numbers.
use Rattle.std.proofs.Common.{arith, ◌≡◌, ℕ, List, length, Some, slice_get, refl}
use Rattle.std.specs.Prelude.{slice_index_or}
use Rattle.std.proofs.lemmas.Option.{slice_get-get_or}
use Rattle.grammar_model.specs.declared.Edge.{Edge}
use Rattle.grammar_model.specs.Derives.{Edges, Held}
use Rattle.grammar_model.specs.Grammar.{Grammar}
use Rattle.grammar_model.specs.Checked.{IsChecked}
use Rattle.grammar_model.specs.declared.Ranking.{Ranking}
use Rattle.recognizer_model.specs.Chosen.{allowed_by}
use Rattle.recognizer_model.specs.declared.Item.{Item}
use Rattle.recognizer_model.specs.Flat.{FlatGrammar}
use Rattle.recognizer_model.specs.FlatForm.{FlatEdges, IsFlatOf}
use Rattle.recognizer_model.specs.Items.{InSet}
use Rattle.recognizer_model.specs.Contexts.{IsTop}
use Rattle.recognizer_model.specs.Counts.{IsListOf}
use Rattle.recognizer_model.specs.Invariant.{IsFlat}
use Rattle.recognizer_model.specs.Nodes.{IsStats}
use Rattle.grammar_laws.specs.Laws.{GoForward}
use Rattle.grammar_laws.proofs.ItemSets.{flat_forward, flat_decided, held_decided, item_sets_exist}
use Rattle.reading_model.specs.Reading.{edges_of, earleme_after}
use Rattle.reading_laws.proofs.Candidates.{pieces_forward}
use Rattle.reading_laws.proofs.Short.{built_are_short}
use Rattle.run_model.specs.Numbers.{Numbers}
use Rattle.number_laws.specs.Laws.{NumbersExist}
use Rattle.number_laws.proofs.Flat.{flattened, is_flat}
use Rattle.number_laws.proofs.Lists.{count_of}
use Rattle.number_laws.proofs.Placed.{kept_list, expanded_list}
use Rattle.number_laws.proofs.Used.{used_list}

module _ (w : Grammar) (checked : IsChecked w) (f : FlatGrammar) (flat : IsFlat f) (made : IsFlatOf f w) (edges : List Edge) (forward : GoForward (Held edges)) (ranking : Ranking) (place : ℕ) where
  abbrev E : Edges
  E = FlatEdges f (Held edges)

  abbrev top : ℕ
  top = slice_index_or f.tops 0 0

  pub top_is : slice_get f.tops 0 ≡ Some (slice_index_or f.tops 0 0)
  top_is = slice_get-get_or f.tops 0 0 (let some = checked.some_start in let all = made.tops_all in omega (arith, some, all))

  is_top : IsTop f (slice_index_or f.tops 0 0)
  is_top = (flat.tops 0 top top_is).is_top

  sets : (j : ℕ) → (items : List Item) × IsListOf (InSet f (FlatEdges f (Held edges)) (slice_index_or f.tops 0 0) j) items
  sets j = item_sets_exist f edges top j forward

  pub told : (n : Numbers) × IsStats f (FlatEdges f (Held edges)) (allowed_by w ranking f (FlatEdges f (Held edges))) (slice_index_or f.tops 0 0) place n.tokens n.kept n.nodes n.expanded
  told =
      let goes = flat_forward f (Held edges) forward in
      let edge = flat_decided f (Held edges) (held_decided edges) in
      let (keys, used) = used_list w checked f flat made edges forward ranking place in
      let (kept, kept_are) = kept_list f E top is_top goes edge sets place in
      let (expanded, expanded_are) = expanded_list f E top is_top goes edge sets (allowed_by w ranking f E) place keys used in (
        record { tokens = place; kept = length kept; nodes = length keys; expanded = length expanded },
        record { places = refl; kept_items = count_of _ kept kept_are; used_nodes = count_of _ keys used; hidden_items = count_of _ expanded expanded_are },
      )

pub numbers_exist : NumbersExist
numbers_exist b ranking pieces built accepted =
    let checked = accepted.checked.structural in
    let (f, is) = flattened b.g1 checked accepted.structural in
    let flat = is_flat b.g1 checked accepted.structural (built_are_short b built) f is in
    let (n, stats) = told b.g1 checked f flat is.made (edges_of pieces) (pieces_forward pieces) ranking (earleme_after pieces) in
    (n, record { flat = f; is = flat; of = is.made; top = slice_index_or f.tops 0 0; top_is = top_is b.g1 checked f flat is.made (edges_of pieces) (pieces_forward pieces) ranking (earleme_after pieces); numbers = stats })
