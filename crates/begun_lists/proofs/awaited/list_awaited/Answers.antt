use Rattle.std.proofs.Common.{sym, ap, refl, subst, ℕ, ◌+◌, Vec, Global}
use Rattle.std.proofs.lemmas.Option.{slice_get-get_or}
use Rattle.finite_sets.proofs.Lists.{got_item}
use Rattle.recognizer_model.specs.declared.Item.{Item}
use Rattle.begun_lists.proofs.Symbols.{AwaitedTo, awaited_none, awaited_more, awaited_same, awaited_all}
use Rattle.begun_lists.proofs.awaited.list_awaited.Goals.{in-Some+in_ok-push, in_default}
use Rattle.begun_lists.proofs.awaited.list_awaited.Goals as goal

abbrev no_item : Item
no_item = record { rule = 0; dot = 0; origin = 0 }

pub loop-item-init : goal.loop-item-init
loop-item-init c = awaited_none c.args.flat.now c.args.items.now c.clear.new.self.items c.clear.ensures.items

pub awaited-requires-clause-item : goal.awaited-requires-clause-item
awaited-requires-clause-item c = c.requires.items _ (got_item c.args.items.now c.loop-item.item-index _ (sym (slice_get-get_or c.args.items.now c.loop-item.item-index no_item c.loop-item-test.true)))

pub loop-item-preserved : goal.loop-item-preserved
loop-item-preserved c =
    let at = sym (slice_get-get_or c.args.items.now c.loop-item.item-index no_item c.loop-item-test.true) in
    elim c.match-awaited.branch [
      | in-Some+in_ok-push w ↦
          subst (λ l. AwaitedTo c.args.flat.now c.args.items.now l (c.loop-item.item-index + 1)) (ap (λ (v : Vec ℕ Global). v.items) (sym w.symbols-is))
          (awaited_more c.args.flat.now c.args.items.now c.loop-item.symbols.items c.loop-item.item-index _ at c.loop-item.invariant w.push.new.self.items w.in-Some.symbol w.in_ok-push.ensures.items w.in-Some.ensures.some.0 w.in-Some.ensures.some.1)
      | in_default w ↦
          subst (λ l. AwaitedTo c.args.flat.now c.args.items.now l (c.loop-item.item-index + 1)) (ap (λ (v : Vec ℕ Global). v.items) (sym w.symbols-is))
          (awaited_same c.args.flat.now c.args.items.now c.loop-item.symbols.items c.loop-item.item-index _ at c.loop-item.invariant (w.in_default.ensures.none refl))
    ]

pub returns-clause-exact : goal.returns-clause-exact
returns-clause-exact c = awaited_all c.args.flat.now c.args.items.now c.loop-item.symbols.items c.sort.new.symbols.items c.loop-item.item-index c.loop-item-test.false c.loop-item.invariant c.sort.ensures.same
