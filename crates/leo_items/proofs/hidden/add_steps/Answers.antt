use Rattle.std.proofs.Common.{◌≡◌, ◌∙◌, ◌+◌, ◌++◌, [], List, sym, ap, refl, subst, append-nil, append_assoc}
use Rattle.finite_sets.proofs.Lists.{got_item}
use Rattle.recognizer_model.specs.declared.Item.{Item}
use Rattle.leo_items.specs.Hidden.{IsSingleStep}
use Rattle.leo_items.specs.Closed.{IsClosedTo}
use Rattle.leo_items.proofs.Growing.{Adds-begins}
use Rattle.leo_items.proofs.Hiding.{step_added, none_added}
use Rattle.leo_items.proofs.Loops.{closed_init, closed_done, got_none}
use Rattle.leo_items.proofs.hidden.add_steps.Goals.{in-Some-single_step+in_ok-insert, in_default-single_step}
use Rattle.leo_items.proofs.hidden.add_steps.Goals as goal

pub loop-k-init : goal.loop-k-init
loop-k-init c = (closed_init c.args.flat.now (IsSingleStep c.args.flat.now c.args.rows.now.sets c.args.earleme c.args.from) c.args.set.now c.requires.items, ([], sym (append-nil c.args.set.now)))

pub returns-in_default-clause-begins : goal.returns-in_default-clause-begins
returns-in_default-clause-begins c = c.loop-k.invariant.1

pub returns-in_default-clause-closed : goal.returns-in_default-clause-closed
returns-in_default-clause-closed c =
    closed_done c.args.flat.now (IsSingleStep c.args.flat.now c.args.rows.now.sets c.args.earleme c.args.from) c.args.set.now c.loop-k.set c.loop-k.k c.loop-k.invariant.0
    (got_none c.loop-k.set c.loop-k.k c.in_default.ensures.item)

pub single_step-requires-clause-rule : goal.single_step-requires-clause-rule
single_step-requires-clause-rule c = (c.loop-k.invariant.0.items c.in-Some.item (got_item c.loop-k.set c.loop-k.k c.in-Some.item c.in-Some.ensures.item)).is_rule

pub loop-k-preserved : goal.loop-k-preserved
loop-k-preserved c =
    let at = c.in-Some.ensures.item in
    let (more, e) = c.loop-k.invariant.1 in
    elim c.match-single_step.branch [
      | in-Some-single_step+in_ok-insert w ↦
          let adds = w.in_ok-insert.ensures.ok in
          let (more', e') = Adds-begins c.loop-k.set w.insert.new.self w.in-Some-single_step.step adds in
          subst (λ (keys : List Item). IsClosedTo c.args.flat.now (IsSingleStep c.args.flat.now c.args.rows.now.sets c.args.earleme c.args.from) c.args.set.now keys (c.loop-k.k + 1) × ((more : List Item) × (keys ≡ c.args.set.now ++ more)))
          (sym w.set-is) (
            step_added c.args.flat.now c.args.rows.now.sets c.requires.rows.are c.args.earleme c.args.from c.args.set.now c.loop-k.set c.loop-k.k c.loop-k.invariant.0 c.in-Some.item at w.in-Some-single_step.step w.insert.new.self w.in-Some-single_step.ensures.some adds,
            (more ++ more', e' ∙ (ap (λ l. l ++ more') e ∙ append_assoc c.args.set.now more more')),
          )
      | in_default-single_step w ↦
          subst (λ (keys : List Item). IsClosedTo c.args.flat.now (IsSingleStep c.args.flat.now c.args.rows.now.sets c.args.earleme c.args.from) c.args.set.now keys (c.loop-k.k + 1) × ((more : List Item) × (keys ≡ c.args.set.now ++ more)))
          (sym w.set-is) (
            none_added c.args.flat.now c.args.rows.now.sets c.requires.rows.are c.args.earleme c.args.from c.args.set.now c.loop-k.set c.loop-k.k c.loop-k.invariant.0 c.in-Some.item at (w.in_default-single_step.ensures.none refl),
            (more, e),
          )
    ]
