use Rattle.std.proofs.Common.{◌≡◌, ◌∙◌, ◌+◌, ℕ, List, Some, slice_get, sym, ap, subst, arith, Contains}
use Rattle.std.proofs.lemmas.List.Elements.{Contains-get_or}
use Rattle.finite_sets.proofs.Lists.{got_at}
use Rattle.earley_sets.proofs.Membership.{found_at}
use Rattle.forest_parts.specs.declared.parts.Part.{Part}
use Rattle.forest_parts.specs.declared.groups.Group.{Group}
use Rattle.forest_parts.specs.Parts.{no_part, part_at}
use Rattle.forest_parts.proofs.Spans.{more_are, more_all, more_order, more_longer}
use Rattle.forest_parts.proofs.groups.list_groups.Goals as goal

pub overflow_sub-end : goal.overflow_sub-end
overflow_sub-end c = (c.requires.ends _ (Contains-get_or c.args.parts.now c.loop-k.k no_part c.loop-k-test.true)).1

pub loop-k-preserved : goal.loop-k-preserved
loop-k-preserved c =
    let e = c.end_of_span-past.ensures in
    let f = c.end_of_kept.ensures in
    let i = c.loop-k.invariant in
    let grown = c.in_ok-push.ensures.items in
    record {
      within = e.bound;
      are = λ g h. more_are c.args.ranking c.args.end c.args.parts.now c.requires.sorted c.requires.ranks c.requires.ends c.loop-k.k c.end_of_span-past.result c.loop-k-test.true e.order e.bound e.same e.other c.end_of_kept.result f.order f.bound f.kept f.other c.loop-k.groups.items i.are i.all i.order i.longer g (subst (λ (l : List Group). Contains l g) grown h);
      all = λ n lt. subst (λ (l : List Group). (m : ℕ) × (g : Group) × (slice_get l m ≡ Some g) × (g.symbol ≡ (part_at c.args.parts.now n).symbol) × (g.start + (part_at c.args.parts.now n).length ≡ c.args.end)) (sym grown) (more_all c.args.ranking c.args.end c.args.parts.now c.requires.sorted c.requires.ranks c.requires.ends c.loop-k.k c.end_of_span-past.result c.loop-k-test.true e.order e.bound e.same e.other c.end_of_kept.result f.order f.bound f.kept f.other c.loop-k.groups.items i.are i.all i.order i.longer n lt);
      order = λ m n g h lt a b. more_order c.args.ranking c.args.end c.args.parts.now c.requires.sorted c.requires.ranks c.requires.ends c.loop-k.k c.end_of_span-past.result c.loop-k-test.true e.order e.bound e.same e.other c.end_of_kept.result f.order f.bound f.kept f.other c.loop-k.groups.items i.are i.all i.order i.longer m n g h lt (subst (λ (l : List Group). slice_get l m ≡ Some g) grown a) (subst (λ (l : List Group). slice_get l n ≡ Some h) grown b);
      longer = λ g j h. more_longer c.args.ranking c.args.end c.args.parts.now c.requires.sorted c.requires.ranks c.requires.ends c.loop-k.k c.end_of_span-past.result c.loop-k-test.true e.order e.bound e.same e.other c.end_of_kept.result f.order f.bound f.kept f.other c.loop-k.groups.items i.are i.all i.order i.longer g j (subst (λ (l : List Group). Contains l g) grown h);
    }

pub returns : goal.returns
returns c =
    let i = c.loop-k.invariant in
    record {
      are = i.are;
      all = λ p h. (
          let (n, at) = found_at c.args.parts.now p h in
          let (lt, same) = got_at c.args.parts.now n p no_part (sym at) in
          let f = c.loop-k-test.false in
          let (m, g, held, s, l) = i.all n (omega arith) in
          (m, g, held, s ∙ ap (λ (z : Part). z.symbol) same, ap (λ (z : Part). g.start + z.length) (sym same) ∙ l)
          );
      order = i.order;
    }
