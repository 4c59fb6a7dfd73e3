use Rattle.std.proofs.Common.{ℕ, ◌≢◌, ◌≡◌, ◌↔◌, List, Contains, get_or, length, sym, subst}
use Rattle.std.specs.Prelude.{AllPairs}
use Rattle.std.proofs.lemmas.Option.{slice_get-get_or}
use Rattle.finite_sets.proofs.Lists.{got_item}
use Rattle.grammar_model.specs.declared.Edge.{Edge as HeldEdge}
use Rattle.earley_sets.proofs.Scanning.{scanned_none, scanned_more, scanned_all, has_ending}
use Rattle.earley_sets.proofs.Trying.{scans_none, scans_more, scans_all, scans_ending}
use Rattle.earley_sets.proofs.close.list_scanned.Goals as goal

-- those that are listed are those that end at the place
are_ending : (earleme : ℕ) (held ending listed : List HeldEdge) → listed ≡ ending → ((e : HeldEdge) → Contains ending e ↔ (Contains held e × (e.to ≡ earleme))) → (e : HeldEdge) → Contains listed e ↔ (Contains held e × (e.to ≡ earleme))
are_ending earleme held ending listed same exact e = subst (λ (l : List HeldEdge). Contains l e ↔ (Contains held e × (e.to ≡ earleme))) (sym same) (exact e)

pub loop-edge-init : goal.loop-edge-init
loop-edge-init c = record {
  listed = scanned_none c.args.flat.now c.args.rows.now.sets c.args.earleme c.deref-edge-items.result.now c.args.next.now.items;
  links = scans_none c.args.flat.now c.args.rows.now.sets c.args.earleme c.deref-edge-items.result.now (length c.args.next.now.items);
}

pub list_by_edge-requires-clause-from : goal.list_by_edge-requires-clause-from
list_by_edge-requires-clause-from c =
    let listed = c.deref-edge-items.result.now in
    let edge = get_or listed c.loop-edge.edge-index (record { symbol = 0; from = 0; to = 0 }) in
    c.requires.begun edge ((are_ending c.args.earleme c.args.edges.now c.list_to.new.edges.items c.deref-edge-items.result.now c.deref-edge-items.ensures.value c.in_ok-list_to.ensures.exact edge).0 (got_item listed c.loop-edge.edge-index edge (sym (slice_get-get_or listed c.loop-edge.edge-index (record { symbol = 0; from = 0; to = 0 }) c.loop-edge-test.true)))).0

pub loop-edge-preserved : goal.loop-edge-preserved
loop-edge-preserved c =
    let g = c.args.flat.now in
    let rows = c.args.rows.now.sets in
    let earleme = c.args.earleme in
    let listed = c.deref-edge-items.result.now in
    let k = c.loop-edge.edge-index in
    let edge = get_or listed k (record { symbol = 0; from = 0; to = 0 }) in
    let at = slice_get-get_or listed k (record { symbol = 0; from = 0; to = 0 }) c.loop-edge-test.true in
    let ends = ((are_ending c.args.earleme c.args.edges.now c.list_to.new.edges.items c.deref-edge-items.result.now c.deref-edge-items.ensures.value c.in_ok-list_to.ensures.exact edge).0 (got_item listed k edge (sym at))).1 in
    let once = subst (AllPairs (λ (d e : HeldEdge). d ≢ e)) (sym c.deref-edge-items.ensures.value) c.in_ok-list_to.ensures.once in
    record {
      listed = scanned_more g rows earleme listed c.args.next.now.items c.loop-edge.next.items c.list_by_edge.new.next.items k edge at ends c.loop-edge.invariant.listed c.in_ok-list_by_edge.ensures.listed;
      links = scans_more g rows earleme listed k edge (length c.args.next.now.items) (length c.loop-edge.next.items) (length c.list_by_edge.new.next.items) once at ends c.loop-edge.invariant.links c.in_ok-list_by_edge.ensures.links;
    }

pub returns-clause-listed : goal.returns-clause-listed
returns-clause-listed c =
    let listed = c.deref-edge-items.result.now in
    has_ending c.args.flat.now c.args.rows.now.sets c.args.earleme c.args.edges.now listed c.args.next.now.items c.loop-edge.next.items (are_ending c.args.earleme c.args.edges.now c.list_to.new.edges.items c.deref-edge-items.result.now c.deref-edge-items.ensures.value c.in_ok-list_to.ensures.exact)
    (scanned_all c.args.flat.now c.args.rows.now.sets c.args.earleme listed c.args.next.now.items c.loop-edge.next.items c.loop-edge.edge-index c.loop-edge-test.false c.loop-edge.invariant.listed)

pub returns-clause-links : goal.returns-clause-links
returns-clause-links c =
    let listed = c.deref-edge-items.result.now in
    scans_ending c.args.flat.now c.args.rows.now.sets c.args.earleme c.args.edges.now listed (length c.args.next.now.items) (length c.loop-edge.next.items) (are_ending c.args.earleme c.args.edges.now c.list_to.new.edges.items c.deref-edge-items.result.now c.deref-edge-items.ensures.value c.in_ok-list_to.ensures.exact)
    (scans_all c.args.flat.now c.args.rows.now.sets c.args.earleme listed c.loop-edge.edge-index (length c.args.next.now.items) (length c.loop-edge.next.items) c.loop-edge-test.false c.loop-edge.invariant.links)
