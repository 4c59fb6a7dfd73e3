use Rattle.std.proofs.Common.{◌≡◌, ◌∙◌, ◌<◌, List, Some, length, map, slice_get, refl, sym, subst}
use Rattle.std.proofs.lemmas.Result.{on_ok_weaker}
use Rattle.finite_sets.proofs.Lists.{got_at}
use Rattle.recognizer_model.specs.declared.NodeKey.{NodeKey}
use Rattle.bocage.specs.declared.rows.AlternativeRow.{AlternativeRow}
use Rattle.bocage.specs.Ends.{SetsRow}
use Rattle.bocage.proofs.Visiting.{ready_key, one_visited}
use Rattle.bocage.proofs.ends.visit.Goals as goal

pub key_at-key-requires : goal.key_at-key-requires
key_at-key-requires c = let n = c.requires.node in subst (λ (l : List NodeKey). c.args.node < length l) (sym c.as_slice.ensures.keys) (got_at c.args.found.now.keys.keys c.args.node n.key n.key (sym n.at)).0

pub put_key-requires-clause-used : goal.put_key-requires-clause-used
put_key-requires-clause-used c = (ready_key c.args.known.now c.args.found.now.keys.keys c.args.node c.key_at-key.result c.requires.node (subst (λ (l : List NodeKey). slice_get l c.args.node ≡ Some c.key_at-key.result) c.as_slice.ensures.keys c.key_at-key.ensures)).0

pub put_key-requires-clause-end : goal.put_key-requires-clause-end
put_key-requires-clause-end c = (ready_key c.args.known.now c.args.found.now.keys.keys c.args.node c.key_at-key.result c.requires.node (subst (λ (l : List NodeKey). slice_get l c.args.node ≡ Some c.key_at-key.result) c.as_slice.ensures.keys c.key_at-key.ensures)).1

pub put_key-requires-clause-least : goal.put_key-requires-clause-least
put_key-requires-clause-least c = (ready_key c.args.known.now c.args.found.now.keys.keys c.args.node c.key_at-key.result c.requires.node (subst (λ (l : List NodeKey). slice_get l c.args.node ≡ Some c.key_at-key.result) c.as_slice.ensures.keys c.key_at-key.ensures)).2

pub put_key-requires-clause-noted : goal.put_key-requires-clause-noted
put_key-requires-clause-noted c = record { long = c.requires.noted.long; each = c.requires.noted.each }

pub returns : goal.returns
returns c =
    let at = subst (λ (l : List NodeKey). slice_get l c.args.node ≡ Some c.key_at-key.result) c.as_slice.ensures.keys c.key_at-key.ensures in
    let (used, end, least) = ready_key c.args.known.now c.args.found.now.keys.keys c.args.node c.key_at-key.result c.requires.node at in
    on_ok_weaker c.set_row.result
    (λ sets. one_visited c.args.known.now c.requires.knows c.args.node c.key_at-key.result c.args.found.now _ c.put_key.new.found (map (λ r. r.now) c.args.table.now.items) (map (λ r. r.now) c.set_row.new.table.items) at used end
    refl refl c.truncate.ensures.items c.in_ok-put_key.ensures
    (subst (λ (l : List AlternativeRow). SetsRow (map (λ r. r.now) c.args.table.now.items) (map (λ r. r.now) c.set_row.new.table.items) c.args.node l) (c.in_ok-rows.ensures ∙ c.as_slice-2.ensures) sets))
    c.set_row.ensures
