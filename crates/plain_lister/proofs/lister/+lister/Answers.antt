use Rattle.std.proofs.Common.{◌≡◌, ℕ, suc, ◌<◌, ◌-◌, inl, inr, true, cond, [], ◌++◌, length, map, refl, sym, ap, ◌∙◌, subst, arith}
use Rattle.std.specs.List.{flat_map}
use Rattle.plain_lister.proofs.Arena.{within_keeps}
use Rattle.plain_lister.proofs.Held.{grows_none, grows_then, holds_grow}
use Rattle.grammar_model.specs.Grammar.{lhs_of, rule_at, child_slot, slot_of}
use Rattle.grammar_model.specs.Trees.{NoChild, Child}
use Rattle.grammar_model.specs.Simple.{part_count, places, is_terminal}
use Rattle.plain_lister.specs.Adding.{as_tree, as_prefix}
use Rattle.plain_lister.specs.declared.store.Store.{Store}
use Rattle.plain_lister.specs.Table.{IsKey, Grows, IsListed, weight, rank, listed, prefixes_listed, prefixes_from, nodes_below}
use Rattle.plain_lister.proofs.Building.{built_none, built_cells, built_same, built_list, nodes_value, firsts_value, pairs_value, prefix_value, nodes_listed, nodes_more, nodes_as_before, firsts_listed, slot_is, pairs_more, pairs_as_before, no_last, no_prefix, places_none, within_read, told_read, in_lists, first_rank, weight_less, rank_low, rank_high, whole_rank, whole_key, key_before, key_rule, prefixes_step, starts_end}
use Rattle.std.specs.Prelude.{not}
use Rattle.std.proofs.lemmas.Bool.{eqb-true}
use Rattle.std.proofs.lemmas.Result.{IfOk-weaker}
use Rattle.std.proofs.lemmas.List.{nil_from_length}
use Rattle.grammar_model.proofs.Simple.{simple_parts}
use Rattle.plain_lister.proofs.lister.+lister.Goals as goal
use Rattle.plain_lister.proofs.lister.+lister.Goals.{list_at-in-0+then-is_inner+in_ok-places-in-0, list_at-in-0+else-is_inner+in_ok-places-in-0-2, list_at-in-1+in_ok-places-in-1, list_at-in_default-n+in_ok-places-in_default-n}

pub firsts_at-list_at-requires : goal.firsts_at-list_at-requires
firsts_at-list_at-requires t c =
    let less = first_rank c.args.w.now c.args.i (c.requires.simple c.args.i c.requires.key.0) c.requires.key.1 in
    let less' : rank c.args.w.now c.part_of.result 0 < rank c.args.w.now c.args.i 1 = subst (λ z. rank c.args.w.now z 0 < rank c.args.w.now c.args.i 1) (sym c.part_of.ensures.part) less in
    let w = weight_less (c.args.q - c.args.p) (rank c.args.w.now c.part_of.result 0) (rank c.args.w.now c.args.i 1) less' in
    (omega (arith, w, c.decreases), (c.requires.simple, (c.requires.sound, (c.part_of.ensures.known, (c.requires.spans, (c.requires.within, c.requires.short))))))

pub firsts_at-index-requires : goal.firsts_at-index-requires
firsts_at-index-requires t c = omega (arith, c.list_at.new.store.lists.ok, in_lists c.args.w.now c.args.input.now c.list_at.new.store c.in_ok-k.k c.part_of.result 0 c.args.p c.args.q c.in_ok-k.ensures.holds)

pub firsts_at-add_firsts-requires-clause-lasts : goal.firsts_at-add_firsts-requires-clause-lasts
firsts_at-add_firsts-requires-clause-lasts t c =
    within_read c.args.w.now c.args.input.now c.list_at.new.store c.in_ok-k.k c.part_of.result 0 c.args.p c.args.q c.index.result.now c.as_slice.result.now c.in_ok-k.ensures.holds c.index.ensures c.as_slice.ensures

abbrev firsts_after : (t : ℕ) (c : goal.firsts_at-In_ok-add_firsts t) → Store
firsts_after t c = record { cells = c.add_firsts.new.cells; lists = c.list_at.new.store.lists; memo = c.list_at.new.store.memo }

pub firsts_at-returns : goal.firsts_at-returns
firsts_at-returns t c =
    let g = c.args.w.now in
    let input = c.args.input.now in
    let s = c.list_at.new.store in
    let slot = slot_is g (rule_at g c.args.i) 0 (c.requires.simple c.args.i c.requires.key.0) in
    let told = told_read g input s c.in_ok-k.k c.part_of.result 0 c.args.p c.args.q c.index.result.now c.as_slice.result.now c.in_ok-k.ensures.holds c.index.ensures c.as_slice.ensures in
    built_same g input c.args.store.now (firsts_after t c) c.add_firsts.new.out.items _ _
    (firsts_value s.cells.items c.as_slice.result.now (listed g input (slot_of c.part_of.result) c.args.p c.args.q) told
    ∙ ap (λ z. map as_prefix (map (Child NoChild) (listed g input z c.args.p c.args.q))) (ap slot_of c.part_of.ensures.part ∙ sym slot)
    ∙ sym (ap (map as_prefix) (firsts_listed g input c.args.i c.args.p c.args.q c.requires.spans)))
    (built_cells g input c.args.store.now s (firsts_after t c) c.new-out.result.items c.add_firsts.new.out.items [] _ refl refl
    (built_list g input c.args.store.now c.args.store.now s c.new-out.result.items [] c.in_ok-k.k c.part_of.result 0 c.args.p c.args.q
    (built_none g input c.args.store.now c.new-out.result.items [] c.requires.sound c.new-out.ensures.items refl) c.in_ok-k.ensures) c.in_ok-add_firsts.ensures)

pub nodes_at-loop-i-preserved : goal.nodes_at-loop-i-preserved
nodes_at-loop-i-preserved t c =
    let g = c.args.w.now in
    let input = c.args.input.now in
    let i = c.loop-i.i in
    let p = c.args.p in
    let q = c.args.q in
    let s = c.list_at.new.store in
    let lt : i < length g.rules = omega (arith, c.rule_count-i-end.ensures.count) in
    let some : 0 < c.parts_of.result = omega (arith, c.parts_of.ensures, simple_parts g (rule_at g i) (c.requires.simple i lt)) in
    let left : lhs_of (rule_at g i) ≡ c.args.x = omega (arith, c.lhs-in-loop-i.view_is, c.lhs.ensures.is) in
    let told = told_read g input s c.in_ok-k.k i c.parts_of.result p q c.index.result.now c.as_slice.result.now c.in_ok-k.ensures.holds c.index.ensures c.as_slice.ensures
    ∙ prefix_value g input i c.parts_of.result p q some ∙ ap (λ n. map as_prefix (prefixes_listed g input i n p q)) c.parts_of.ensures in
    built_same g input c.args.store.now (record { cells = c.add_nodes.new.cells; lists = s.lists; memo = s.memo }) c.add_nodes.new.out.items _ _
    (ap (λ l. map as_tree (nodes_below g input c.args.x p q i) ++ l) (nodes_value s.cells.items c.as_slice.result.now (prefixes_listed g input i (part_count (rule_at g i)) p q) i p q told) ∙ nodes_more g input c.args.x p q i left)
    (built_cells g input c.args.store.now s (record { cells = c.add_nodes.new.cells; lists = s.lists; memo = s.memo }) c.loop-i.out.items c.add_nodes.new.out.items _ _ refl refl
    (built_list g input c.args.store.now c.loop-i.store s c.loop-i.out.items _ c.in_ok-k.k i c.parts_of.result p q c.loop-i.invariant c.in_ok-k.ensures) c.in_ok-add_nodes.ensures)

pub nodes_at-returns : goal.nodes_at-returns
nodes_at-returns t c =
    let g = c.args.w.now in
    let all : c.loop-i.i ≡ length g.rules = omega (arith, c.rule_count-i-end.ensures.count) in
    built_same g c.args.input.now c.args.store.now c.loop-i.store c.loop-i.out.items _ _
    (ap (map as_tree) (ap (nodes_below g c.args.input.now c.args.x c.args.p c.args.q) all ∙ sym (nodes_listed g c.args.input.now c.args.x c.args.p c.args.q c.requires.simple c.requires.inner c.requires.spans c.requires.within)))
    c.loop-i.invariant

pub pairs_at-loop-r-init : goal.pairs_at-loop-r-init
pairs_at-loop-r-init t c = (
  inr refl,
  omega arith,
  omega arith,
  built_none c.args.w.now c.args.input.now c.args.store.now c.new-out.result.items _ c.requires.sound c.new-out.ensures.items
      (ap (λ l. map as_prefix (flat_map (prefixes_from c.args.w.now c.args.input.now c.args.i (c.args.n - 1) c.args.p c.args.q) l)) (places_none c.args.q c.args.q (omega arith))),
)

pub pairs_at-index-requires : goal.pairs_at-index-requires
pairs_at-index-requires t c = omega (arith, c.list_at.new.store.lists.ok, in_lists c.args.w.now c.args.input.now c.list_at.new.store c.in_ok-a.a c.args.i (c.args.n - 1) c.args.p (c.loop-r.r - 1) c.in_ok-a.ensures.holds)

pub pairs_at-list_at-requires-then-not-is_empty : goal.pairs_at-list_at-requires-then-not-is_empty
pairs_at-list_at-requires-then-not-is_empty t c = (
  omega (arith, c.decreases, rank_low c.args.w.now c.part_of-last.result),
  (c.requires.simple, (c.in_ok-a.ensures.sound, (c.part_of-last.ensures.known, (omega arith, (c.requires.within, c.requires.short))))),
)

pub pairs_at-index-requires-then-not-is_empty : goal.pairs_at-index-requires-then-not-is_empty
pairs_at-index-requires-then-not-is_empty t c =
    let s = c.list_at-then-not-is_empty.new.store in
    let h = holds_grow c.args.w.now c.args.input.now c.list_at.new.store s c.in_ok-a.a c.args.i (c.args.n - 1) c.args.p (c.loop-r.r - 1) c.in_ok-b.ensures.grows c.in_ok-a.ensures.holds in
    omega (arith, s.lists.ok, in_lists c.args.w.now c.args.input.now s c.in_ok-a.a c.args.i (c.args.n - 1) c.args.p (c.loop-r.r - 1) h)

pub pairs_at-index-requires-then-not-is_empty-2 : goal.pairs_at-index-requires-then-not-is_empty-2
pairs_at-index-requires-then-not-is_empty-2 t c =
    let s = c.list_at-then-not-is_empty.new.store in
    omega (arith, s.lists.ok, in_lists c.args.w.now c.args.input.now s c.in_ok-b.b c.part_of-last.result 0 (c.loop-r.r - 1) c.args.q c.in_ok-b.ensures.holds)

pub pairs_at-add_pairs-requires-clause-prefixes : goal.pairs_at-add_pairs-requires-clause-prefixes
pairs_at-add_pairs-requires-clause-prefixes t c =
    let s = c.list_at-then-not-is_empty.new.store in
    let h = holds_grow c.args.w.now c.args.input.now c.list_at.new.store s c.in_ok-a.a c.args.i (c.args.n - 1) c.args.p (c.loop-r.r - 1) c.in_ok-b.ensures.grows c.in_ok-a.ensures.holds in
    within_read c.args.w.now c.args.input.now s c.in_ok-a.a c.args.i (c.args.n - 1) c.args.p (c.loop-r.r - 1) c.index-then-not-is_empty.result.now c.as_slice-then-not-is_empty.result.now h c.index-then-not-is_empty.ensures c.as_slice-then-not-is_empty.ensures

pub pairs_at-add_pairs-requires-clause-lasts : goal.pairs_at-add_pairs-requires-clause-lasts
pairs_at-add_pairs-requires-clause-lasts t c =
    within_read c.args.w.now c.args.input.now c.list_at-then-not-is_empty.new.store c.in_ok-b.b c.part_of-last.result 0 (c.loop-r.r - 1) c.args.q
    c.index-then-not-is_empty-2.result.now c.as_slice-then-not-is_empty-2.result.now c.in_ok-b.ensures.holds c.index-then-not-is_empty-2.ensures c.as_slice-then-not-is_empty-2.ensures

pub pairs_at-loop-r-preserved-in_ok-add_pairs : goal.pairs_at-loop-r-preserved-in_ok-add_pairs
pairs_at-loop-r-preserved-in_ok-add_pairs t c =
    let g = c.args.w.now in
    let input = c.args.input.now in
    let i = c.args.i in
    let m = c.args.n - 1 in
    let p = c.args.p in
    let q = c.args.q in
    let r = c.loop-r.r - 1 in
    let s1 = c.list_at.new.store in
    let s = c.list_at-then-not-is_empty.new.store in
    let lt : r < q = omega (arith, c.loop-r.invariant.2) in
    let next : c.loop-r.r ≡ suc r = omega arith in
    let some : 0 < m = omega arith in
    let rule = c.requires.simple i (key_rule g i c.args.n c.requires.key (omega arith)) in
    let h = holds_grow g input s1 s c.in_ok-a.a i m p r c.in_ok-b.ensures.grows c.in_ok-a.ensures.holds in
    let prefixes = told_read g input s c.in_ok-a.a i m p r c.index-then-not-is_empty.result.now c.as_slice-then-not-is_empty.result.now h c.index-then-not-is_empty.ensures c.as_slice-then-not-is_empty.ensures ∙ prefix_value g input i m p r some in
    let lasts = told_read g input s c.in_ok-b.b c.part_of-last.result 0 r q c.index-then-not-is_empty-2.result.now c.as_slice-then-not-is_empty-2.result.now c.in_ok-b.ensures.holds c.index-then-not-is_empty-2.ensures c.as_slice-then-not-is_empty-2.ensures
    ∙ ap (λ z. map as_tree (listed g input z r q)) (ap slot_of c.part_of-last.ensures.part ∙ sym (slot_is g (rule_at g i) m rule)) in (
      inl (omega arith),
      omega arith,
      omega (arith, c.loop-r.invariant.2),
      built_same g input c.args.store.now (record { cells = c.add_pairs.new.cells; lists = s.lists; memo = s.memo }) c.add_pairs.new.out.items _ _
          (ap (λ l. map as_prefix (flat_map (prefixes_from g input i m p q) (places c.loop-r.r q)) ++ l)
          (pairs_value s.cells.items c.as_slice-then-not-is_empty.result.now c.as_slice-then-not-is_empty-2.result.now (prefixes_listed g input i m p r) (listed g input (child_slot (rule_at g i) m) r q) prefixes lasts)
          ∙ pairs_more g input i m p q c.loop-r.r r next lt)
          (built_cells g input c.args.store.now s (record { cells = c.add_pairs.new.cells; lists = s.lists; memo = s.memo }) c.loop-r.out.items c.add_pairs.new.out.items _ _ refl refl
          (built_list g input c.args.store.now s1 s c.loop-r.out.items _ c.in_ok-b.b c.part_of-last.result 0 r q
          (built_list g input c.args.store.now c.loop-r.store s1 c.loop-r.out.items _ c.in_ok-a.a i m p r c.loop-r.invariant.3 c.in_ok-a.ensures) c.in_ok-b.ensures) c.in_ok-add_pairs.ensures),
    )

pub pairs_at-loop-r-preserved-else-not-is_empty : goal.pairs_at-loop-r-preserved-else-not-is_empty
pairs_at-loop-r-preserved-else-not-is_empty t c =
    let g = c.args.w.now in
    let input = c.args.input.now in
    let i = c.args.i in
    let m = c.args.n - 1 in
    let p = c.args.p in
    let q = c.args.q in
    let r = c.loop-r.r - 1 in
    let s = c.list_at.new.store in
    let ps = c.as_slice.result.now in
    let lt : r < q = omega (arith, c.loop-r.invariant.2) in
    let next : c.loop-r.r ≡ suc r = omega arith in
    let some : 0 < m = omega arith in
    let empty : ps ≡ [] = nil_from_length ps (eqb-true (length ps) 0 (sym c.if-not-is_empty.ensures)) in
    let prefixes = told_read g input s c.in_ok-a.a i m p r c.index.result.now ps c.in_ok-a.ensures.holds c.index.ensures c.as_slice.ensures ∙ prefix_value g input i m p r some in (
      inl (omega arith),
      omega arith,
      omega (arith, c.loop-r.invariant.2),
      built_same g input c.args.store.now s c.loop-r.out.items _ _
          (pairs_as_before g input i m p q c.loop-r.r r next lt (no_prefix g input i m p q r s.cells.items ps empty prefixes))
          (built_list g input c.args.store.now c.loop-r.store s c.loop-r.out.items _ c.in_ok-a.a i m p r c.loop-r.invariant.3 c.in_ok-a.ensures),
    )

pub pairs_at-loop-r-preserved : goal.pairs_at-loop-r-preserved
pairs_at-loop-r-preserved t c =
    let g = c.args.w.now in
    let input = c.args.input.now in
    let i = c.args.i in
    let m = c.args.n - 1 in
    let q = c.args.q in
    let r = c.loop-r.r - 1 in
    let lt : r < q = omega (arith, c.loop-r.invariant.2) in
    let next : c.loop-r.r ≡ suc r = omega arith in
    let rule = c.requires.simple i (key_rule g i c.args.n c.requires.key (omega arith)) in
    let terminal : is_terminal g (child_slot (rule_at g i) m).symbol ≡ true = subst (λ z. is_terminal g z ≡ true) c.part_of-last.ensures.part (ap not (sym c.if-inner.ensures)) in (
      inl (omega arith),
      omega arith,
      omega (arith, c.loop-r.invariant.2),
      built_same g input c.args.store.now c.loop-r.store c.loop-r.out.items _ _
          (pairs_as_before g input i m c.args.p q c.loop-r.r r next lt (no_last g input i m c.args.p q r rule terminal lt (λ e. c.if-r-q.false (omega arith))))
          c.loop-r.invariant.3,
    )

pub pairs_at-returns : goal.pairs_at-returns
pairs_at-returns t c =
    let g = c.args.w.now in
    built_same g c.args.input.now c.args.store.now c.loop-r.store c.loop-r.out.items _ _
    (ap (λ l. map as_prefix (flat_map (prefixes_from g c.args.input.now c.args.i (c.args.n - 1) c.args.p c.args.q) l)) (starts_end c.args.i c.args.p c.args.q c.loop-r.r (c.args.n - 1) c.loop-r.invariant.0 (omega arith) c.loop-r.invariant.2)
    ∙ sym (ap (map as_prefix) (prefixes_step g c.args.input.now c.args.i c.args.n c.args.p c.args.q (omega arith))) ∙ sym (prefix_value g c.args.input.now c.args.i c.args.n c.args.p c.args.q (omega arith)))
    c.loop-r.invariant.3

pub list_at-returns-in-Some : goal.list_at-returns-in-Some
list_at-returns-in-Some t c = record {
  sound = c.requires.sound;
  grows = grows_none c.args.store.now;
  holds = c.requires.sound c.args.x c.args.n c.args.p c.args.q c.in-Some.k (sym c.find_list.ensures ∙ c.in-Some.is);
}

pub list_at-nodes_at-requires : goal.list_at-nodes_at-requires
list_at-nodes_at-requires t c =
    let same = ap (λ n. weight c.args.w.now c.args.x n c.args.p c.args.q) c.in-0.is in
    (omega (arith, c.decreases, same), (c.requires.simple, (c.requires.sound, (ap not (sym c.if-is_inner.ensures), (c.requires.spans, (c.requires.within, c.requires.short))))))

pub list_at-firsts_at-requires : goal.list_at-firsts_at-requires
list_at-firsts_at-requires t c =
    let same = ap (λ n. weight c.args.w.now c.args.x n c.args.p c.args.q) c.in-1.is in
    (omega (arith, c.decreases, same), (c.requires.simple, (c.requires.sound, (subst (IsKey c.args.w.now c.args.x) c.in-1.is c.requires.key, (c.requires.spans, (c.requires.within, c.requires.short))))))

pub list_at-pairs_at-requires : goal.list_at-pairs_at-requires
list_at-pairs_at-requires t c =
    (omega (arith, c.decreases), (c.requires.simple, (c.requires.sound, (c.requires.key, (omega arith, (c.requires.spans, (c.requires.within, c.requires.short)))))))

pub list_at-keep_list-requires-clause-sound : goal.list_at-keep_list-requires-clause-sound
list_at-keep_list-requires-clause-sound t c =
    elim c.match-n.branch [
      | list_at-in-0+then-is_inner+in_ok-places-in-0 w ↦ rw w.store-is w.in_ok-places-in-0.ensures.sound
      | list_at-in-0+else-is_inner+in_ok-places-in-0-2 w ↦ rw w.store-is w.in_ok-places-in-0-2.ensures.sound
      | list_at-in-1+in_ok-places-in-1 w ↦ rw w.store-is w.in_ok-places-in-1.ensures.sound
      | list_at-in_default-n+in_ok-places-in_default-n w ↦ rw w.store-is w.in_ok-places-in_default-n.ensures.sound
    ]

pub list_at-keep_list-requires-clause-within : goal.list_at-keep_list-requires-clause-within
list_at-keep_list-requires-clause-within t c =
    elim c.match-n.branch [
      | list_at-in-0+then-is_inner+in_ok-places-in-0 w ↦ rw (w.store-is, w.places-is) w.in_ok-places-in-0.ensures.within
      | list_at-in-0+else-is_inner+in_ok-places-in-0-2 w ↦ rw (w.store-is, w.places-is) w.in_ok-places-in-0-2.ensures.within
      | list_at-in-1+in_ok-places-in-1 w ↦ rw (w.store-is, w.places-is) w.in_ok-places-in-1.ensures.within
      | list_at-in_default-n+in_ok-places-in_default-n w ↦ rw (w.store-is, w.places-is) w.in_ok-places-in_default-n.ensures.within
    ]

pub list_at-keep_list-requires-clause-told : goal.list_at-keep_list-requires-clause-told
list_at-keep_list-requires-clause-told t c =
    elim c.match-n.branch [
      | list_at-in-0+then-is_inner+in_ok-places-in-0 w ↦ rw (w.store-is, w.places-is, w.in-0.is) w.in_ok-places-in-0.ensures.told
      | list_at-in-0+else-is_inner+in_ok-places-in-0-2 w ↦ rw (w.store-is, w.places-is, w.in-0.is) w.in_ok-places-in-0-2.ensures.told
      | list_at-in-1+in_ok-places-in-1 w ↦ rw (w.store-is, w.places-is, w.in-1.is) w.in_ok-places-in-1.ensures.told
      | list_at-in_default-n+in_ok-places-in_default-n w ↦ rw (w.store-is, w.places-is) w.in_ok-places-in_default-n.ensures.told
    ]

pub list_at-returns : goal.list_at-returns
list_at-returns t c =
    let grows : Grows c.args.store.now c.match-n.store =
    elim c.match-n.branch [
      | list_at-in-0+then-is_inner+in_ok-places-in-0 w ↦ rw w.store-is w.in_ok-places-in-0.ensures.grows
      | list_at-in-0+else-is_inner+in_ok-places-in-0-2 w ↦ rw w.store-is w.in_ok-places-in-0-2.ensures.grows
      | list_at-in-1+in_ok-places-in-1 w ↦ rw w.store-is w.in_ok-places-in-1.ensures.grows
      | list_at-in_default-n+in_ok-places-in_default-n w ↦ rw w.store-is w.in_ok-places-in_default-n.ensures.grows
    ] in
    IfOk-weaker c.keep_list.result (λ k. IsListed c.args.w.now c.args.input.now c.match-n.store c.keep_list.new.store k c.args.x c.args.n c.args.p c.args.q) _
    (λ k listed. record { sound = listed.sound; grows = grows_then c.args.store.now c.match-n.store c.keep_list.new.store grows listed.grows; holds = listed.holds })
    c.keep_list.ensures

pub nodes_at-loop-i-init : goal.nodes_at-loop-i-init
nodes_at-loop-i-init t c = built_none c.args.w.now c.args.input.now c.args.store.now c.new-out.result.items [] c.requires.sound c.new-out.ensures.items refl

pub nodes_at-loop-i-preserved-then-lhs-x : goal.nodes_at-loop-i-preserved-then-lhs-x
nodes_at-loop-i-preserved-then-lhs-x t c =
    built_same c.args.w.now c.args.input.now c.args.store.now c.loop-i.store c.loop-i.out.items _ _
    (nodes_as_before c.args.w.now c.args.input.now c.args.x c.args.p c.args.q c.loop-i.i (λ e. c.if-lhs-x.true (c.lhs-in-loop-i.view_is ∙ c.lhs.ensures.is ∙ e)))
    c.loop-i.invariant

pub nodes_at-list_at-requires : goal.nodes_at-list_at-requires
nodes_at-list_at-requires t c =
    let g = c.args.w.now in
    let i = c.loop-i.i in
    let lt : i < length g.rules = omega (arith, c.rule_count-i-end.ensures.count) in
    let some : 0 < c.parts_of.result = omega (arith, c.parts_of.ensures, simple_parts g (rule_at g i) (c.requires.simple i lt)) in
    let inner : rank g c.args.x 0 ≡ 2 = ap (λ b. cond b 0 2) c.requires.inner in
    let w = weight_less (c.args.q - c.args.p) (rank g i c.parts_of.result) (rank g c.args.x 0) (omega (arith, inner, whole_rank g i c.parts_of.result c.parts_of.ensures some)) in
    (omega (arith, w, c.decreases), (c.requires.simple, (c.loop-i.invariant.sound, (whole_key g i c.parts_of.result lt c.parts_of.ensures some, (c.requires.spans, (c.requires.within, c.requires.short))))))

pub nodes_at-index-requires : goal.nodes_at-index-requires
nodes_at-index-requires t c = omega (arith, c.list_at.new.store.lists.ok, in_lists c.args.w.now c.args.input.now c.list_at.new.store c.in_ok-k.k c.loop-i.i c.parts_of.result c.args.p c.args.q c.in_ok-k.ensures.holds)

pub nodes_at-add_nodes-requires-clause-out : goal.nodes_at-add_nodes-requires-clause-out
nodes_at-add_nodes-requires-clause-out t c = within_keeps c.loop-i.store.cells.items c.list_at.new.store.cells.items c.loop-i.out.items c.in_ok-k.ensures.grows.keeps c.loop-i.invariant.within

pub nodes_at-add_nodes-requires-clause-prefixes : goal.nodes_at-add_nodes-requires-clause-prefixes
nodes_at-add_nodes-requires-clause-prefixes t c =
    within_read c.args.w.now c.args.input.now c.list_at.new.store c.in_ok-k.k c.loop-i.i c.parts_of.result c.args.p c.args.q c.index.result.now c.as_slice.result.now c.in_ok-k.ensures.holds c.index.ensures c.as_slice.ensures

pub pairs_at-list_at-requires : goal.pairs_at-list_at-requires
pairs_at-list_at-requires t c =
    let high = rank_high c.args.w.now c.args.i (c.args.n - 1) in
    let r = c.loop-r.invariant.2 in
    (omega (arith, high, r, c.decreases), (c.requires.simple, (c.loop-r.invariant.3.sound, (key_before c.args.w.now c.args.i c.args.n c.requires.key c.requires.more, (omega arith, (omega (arith, r, c.requires.within), c.requires.short))))))

pub pairs_at-add_pairs-requires-clause-out : goal.pairs_at-add_pairs-requires-clause-out
pairs_at-add_pairs-requires-clause-out t c =
    within_keeps c.list_at.new.store.cells.items c.list_at-then-not-is_empty.new.store.cells.items c.loop-r.out.items c.in_ok-b.ensures.grows.keeps
    (within_keeps c.loop-r.store.cells.items c.list_at.new.store.cells.items c.loop-r.out.items c.in_ok-a.ensures.grows.keeps c.loop-r.invariant.3.within)
