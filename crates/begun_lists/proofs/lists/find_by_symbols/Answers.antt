use Rattle.std.proofs.Common.{rules, sym, subst}
use Rattle.std.proofs.lemmas.Result.{IfOk-weaker}
use Rattle.std.proofs.lemmas.List.{nil_from_length}
use Rattle.item_rows.specs.Rows.{shared_at}
use Rattle.item_rows.specs.Kept.{IsAwaited}
use Rattle.begun_lists.specs.Begun.{AreBegun, IsNoted}
use Rattle.begun_lists.proofs.Begins.{begun_awaited, none_begun}
use Rattle.begun_lists.proofs.Sharing.{first_list}
use Rattle.begun_lists.proofs.lists.find_by_symbols.Goals as goal

pub returns-then-is_empty-clause-begun : goal.returns-then-is_empty-clause-begun
returns-then-is_empty-clause-begun g c =
    subst (AreBegun c.args.flat.now (IsAwaited c.args.flat.now c.args.items.now)) (sym (first_list c.args.flat.now c.args.rows.now.shared c.args.lists.now.numbers.entries c.requires.lists).1)
    (none_begun c.args.flat.now c.args.items.now c.list_awaited.new.symbols.items c.in_ok-list_awaited.ensures.exact (nil_from_length c.list_awaited.new.symbols.items (let t = c.if-is_empty.ensures in search rules)))

pub returns-in-Some-clause-there : goal.returns-in-Some-clause-there
returns-in-Some-clause-there g c = (c.requires.lists.noted c.list_awaited.new.symbols.items c.in-Some.number (subst (λ l. IsNoted c.args.lists.now.numbers.entries l c.in-Some.number) c.deref.ensures.value c.in-Some.ensures)).0

pub returns-in-Some-clause-begun : goal.returns-in-Some-clause-begun
returns-in-Some-clause-begun g c =
    begun_awaited c.args.flat.now c.args.items.now c.list_awaited.new.symbols.items c.in_ok-list_awaited.ensures.exact (shared_at c.args.rows.now.shared c.in-Some.number)
    (c.requires.lists.noted c.list_awaited.new.symbols.items c.in-Some.number (subst (λ l. IsNoted c.args.lists.now.numbers.entries l c.in-Some.number) c.deref.ensures.value c.in-Some.ensures)).1

pub returns-in-None-clause-begun : goal.returns-in-None-clause-begun
returns-in-None-clause-begun g c =
    IfOk-weaker c.make_list.result _ _
    (λ number begun. begun_awaited c.args.flat.now c.args.items.now c.list_awaited.new.symbols.items c.in_ok-list_awaited.ensures.exact (shared_at c.make_list.new.rows.shared number) begun)
    c.make_list.ensures.begun
