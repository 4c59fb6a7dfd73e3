use Rattle.std.proofs.Common.{◌/◌, ◌++◌, ◌∷◌, [], ◌∙◌, sym, ap, subst, ℕ, List, map, Contains, arith}
use Rattle.kernels.specs.Slots.{Rises}
use Rattle.item_rows.specs.Rows.{ItemRows}
use Rattle.item_rows.specs.Kept.{AreItems}
use Rattle.item_rows.specs.Dotted.{dotted_at}
use Rattle.item_rows.specs.Held.{AreHeld}
use Rattle.item_rows.specs.Noted.{ArePlacesNoted}
use Rattle.item_rows.proofs.Noting.{noted_shared}
use Rattle.item_rows.proofs.Joined.{list_dotted, list_items}
use Rattle.item_rows.proofs.Holding.{seen, held_shared, seen_shared}
use Rattle.item_rows.proofs.rows.Rows.share.Goals as goal

pub pack_row-requires-clause-items : goal.pack_row-requires-clause-items
pack_row-requires-clause-items c = subst (λ (r : ItemRows). AreItems r.flat c.args.items.now) (sym c.self.view_is) c.requires.items

pub list_dotted-requires : goal.list_dotted-requires
list_dotted-requires c n h = let lt = c.in_ok-pack_row.ensures.row.within n (subst (λ (l : List ℕ). Contains l n) c.deref.ensures.value h) in let few = c.known.ensures.few in omega arith

pub push-requires : goal.push-requires
push-requires c =
    subst Rises (sym (c.deref-2.ensures.value ∙ (c.in_ok-list_dotted.ensures ∙ ap (λ (l : List ℕ). map (λ n. n / 4294967296) l) c.deref.ensures.value)))
    (list_dotted c.self.inside.dotted.rules c.args.items.now c.pack_row.new.packed.items c.in_ok-pack_row.ensures.row c.in_ok-pack_row.ensures.same c.known.ensures.zero c.requires.zero).rises

pub invariant_of-self-2 : goal.invariant_of-self-2
invariant_of-self-2 c =
    let same = sym (c.in_ok-push.ensures.ok ∙ ap (λ (l : List ℕ). c.self.inside.lists ++ l ∷ []) (c.deref-2.ensures.value ∙ (c.in_ok-list_dotted.ensures ∙ ap (λ (l : List ℕ). map (λ n. n / 4294967296) l) c.deref.ensures.value))) in (
      subst (λ (l : List (List ℕ)). AreHeld c.self.inside.dotted.rules l c.self.inside.kernels c.self.inside.count) same
          (held_shared c.self.inside.dotted.flat c.self.inside.dotted.rules c.self.inside.lists c.self.inside.kernels c.args.self.now c.self.view_is c.self.inside.count c.self.invariant.0 (map (λ n. n / 4294967296) c.pack_row.new.packed.items) (list_dotted c.self.inside.dotted.rules c.args.items.now c.pack_row.new.packed.items c.in_ok-pack_row.ensures.row c.in_ok-pack_row.ensures.same c.known.ensures.zero c.requires.zero)),
      subst (λ (l : List (List ℕ)). ArePlacesNoted c.self.inside.dotted.flat c.self.inside.dotted.rules l c.self.inside.kernels c.self.inside.noted.blocks.items) same
          (noted_shared c.self.inside.dotted.flat c.self.inside.dotted.rules c.self.inside.lists c.self.inside.kernels _ c.self.invariant.1 (map (λ n. n / 4294967296) c.pack_row.new.packed.items) c.self.inside.count c.self.invariant.0),
    )

pub returns-clause-ok : goal.returns-clause-ok
returns-clause-ok c = (
  map (dotted_at c.self.inside.dotted.rules) (map (λ n. n / 4294967296) c.pack_row.new.packed.items),
  ap (λ (l : List (List ℕ)). seen c.self.inside.dotted.flat c.self.inside.dotted.rules l c.self.inside.kernels)
      (c.in_ok-push.ensures.ok ∙ ap (λ (l : List ℕ). c.self.inside.lists ++ l ∷ []) (c.deref-2.ensures.value ∙ (c.in_ok-list_dotted.ensures ∙ ap (λ (l : List ℕ). map (λ n. n / 4294967296) l) c.deref.ensures.value)))
      ∙ seen_shared c.self.inside.dotted.flat c.self.inside.dotted.rules c.self.inside.lists c.self.inside.kernels c.args.self.now c.self.view_is c.self.inside.count c.self.invariant.0 (map (λ n. n / 4294967296) c.pack_row.new.packed.items) (list_dotted c.self.inside.dotted.rules c.args.items.now c.pack_row.new.packed.items c.in_ok-pack_row.ensures.row c.in_ok-pack_row.ensures.same c.known.ensures.zero c.requires.zero),
  list_items c.self.inside.dotted.rules c.args.items.now c.pack_row.new.packed.items c.in_ok-pack_row.ensures.row c.in_ok-pack_row.ensures.same c.known.ensures.zero c.requires.zero,
)
