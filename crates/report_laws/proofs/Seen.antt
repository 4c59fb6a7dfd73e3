-- Each node of a derivation of the start is seen in the reports of the places that it comes by.
use Rattle.std.proofs.Common.{◌≡◌, ℕ, ◌<◌, Some, refl, sym, subst, arith}
use Rattle.std.specs.Prelude.{slice_get}
use Rattle.grammar_model.specs.Grammar.{Grammar, Slot, slot_of, rule_at, child_slot}
use Rattle.grammar_model.specs.Trees.{Tree, Children, Node, NoChild, Child, child_count}
use Rattle.grammar_model.specs.Derives.{Edges, Derives, DerivesPrefix}
use Rattle.grammar_model.proofs.Total.{from_is}
use Rattle.grammar_model.proofs.Productive.{node_live}
use Rattle.recognizer_model.specs.Nodes.{Has, All, Fewer, Inside}
use Rattle.report_model.specs.Report.{AreFirst, MayStand, AtStart, Next}
use Rattle.report_laws.specs.Laws.{DerivationsAreSeen}

module _ (g : Grammar) (edge : Edges) (start : ℕ) where
  -- the rule stands somewhere, and these are its first children
  record IsSeen (i p q : ℕ) (cs : Children) : Type 0 where
    slot : Slot
    stands : MayStand g edge start slot p
    all : ℕ
    first : AreFirst g edge slot i all p q cs

  some_child : (i p q : ℕ) (cs : Children) → p < q → DerivesPrefix g edge (rule_at g i) p q cs → 0 < child_count cs
  some_child i p q NoChild lt e = absurd (omega (arith, lt, e))
  some_child i p q (Child prefix last) lt d = omega arith

  node_seen : (slot : Slot) (p q i a b : ℕ) (cs : Children) → MayStand g edge start slot p → Derives g edge slot p q (Node i cs a b) → IsSeen i a b cs
  node_seen slot p q i a b cs m d =
      subst (λ z. IsSeen i z b cs) (sym d.from_is) (subst (λ z. IsSeen i p z cs) (sym d.to_is) (record {
        slot = slot;
        stands = m;
        all = child_count cs;
        first = record {
          in_range = d.in_range;
          fits = d.fits;
          live = node_live g edge (rule_at g i) p q cs d.complete d.prefix;
          complete = d.complete;
          some = some_child i p q cs d.spans d.prefix;
          first = omega arith;
          prefix = d.prefix;
        };
      }))

  module _ (symbol place : ℕ) (at : slice_get g.starts start ≡ Some symbol) where
    seen : {t : Tree} {i p q : ℕ} {cs : Children} → Derives g edge (slot_of symbol) 0 place t → Has t i p q cs → IsSeen i p q cs
    seen d (All {r = i} {p = a} {q = b} {cs = cs}) = node_seen (slot_of symbol) 0 place i a b cs (AtStart at) d
    seen d (Fewer {last = last} {r = i} {p = p} {q = q} {prefix = prefix} h) =
        let s = seen d h in
        let (m, fr, l) = s.first.prefix in
        let le = s.first.first in
        subst (λ z. IsSeen i p z prefix) (sym (from_is g edge (child_slot (rule_at g i) (child_count prefix)) m q last l)) (record {
          slot = s.slot;
          stands = s.stands;
          all = s.all;
          first = record {
            in_range = s.first.in_range;
            fits = s.first.fits;
            live = s.first.live;
            complete = s.first.complete;
            some = s.first.some;
            first = omega (arith, le);
            prefix = fr;
          };
        })
    seen d (Inside {r = i} {p = p} {q = q} {r' = i'} {p' = a} {q' = b} {prefix = prefix} {cs = cs} h) =
        let s = seen d h in
        let (m, fr, l) = s.first.prefix in
        let le = s.first.first in
        let before : AreFirst g edge s.slot i s.all p m prefix = record {
          in_range = s.first.in_range;
          fits = s.first.fits;
          live = s.first.live;
          complete = s.first.complete;
          some = s.first.some;
          first = omega (arith, le);
          prefix = fr;
        } in
        node_seen (child_slot (rule_at g i) (child_count prefix)) m q i' a b cs (Next s.stands before (omega (arith, le))) l

pub derivations_are_seen : DerivationsAreSeen
derivations_are_seen g edges start symbol place tree rule from to children at d h =
    let s = seen g (Rattle.grammar_model.specs.Derives.Held edges) start symbol place at d h in
    record { slot = s.slot; stands = s.stands; all = s.all; children = children; first = s.first; dot_is = refl }
