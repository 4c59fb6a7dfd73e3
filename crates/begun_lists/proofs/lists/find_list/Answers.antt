use Rattle.std.proofs.Common.{◌<◌, length, sym, subst}
use Rattle.item_rows.specs.Rows.{shared_at}
use Rattle.item_rows.specs.Kept.{IsAwaited}
use Rattle.jagged.specs.Rows.{row_at as list_at}
use Rattle.begun_lists.specs.Begun.{AreBegun}
use Rattle.begun_lists.specs.Met.{AreMet}
use Rattle.begun_lists.specs.declared.met.Met.{Met}
use Rattle.begun_lists.proofs.Meeting.{begun_same, met_more}
use Rattle.begun_lists.proofs.lists.find_list.Goals as goal

pub returns-in-Some-clause-there : goal.returns-in-Some-clause-there
returns-in-Some-clause-there g c =
    let (k, lt, same, is) = c.in-Some.ensures in
    subst (λ n. n < length c.args.rows.now.shared) is (c.requires.lists.by_items.there k lt)

pub returns-in-Some-clause-begun : goal.returns-in-Some-clause-begun
returns-in-Some-clause-begun g c =
    let (k, lt, same, is) = c.in-Some.ensures in
    subst (λ n. AreBegun c.args.flat.now (IsAwaited c.args.flat.now c.args.items.now) (shared_at c.args.rows.now.shared n)) is
    (begun_same c.args.flat.now (list_at c.args.lists.now.met.lists k) c.args.items.now (shared_at c.args.rows.now.shared _) same (c.requires.lists.by_items.begun k lt))

pub returns-clause-lists : goal.returns-clause-lists
returns-clause-lists g c =
    let told = c.in_ok-number.ensures in
    let before = c.args.lists.now.met in
    let shared = c.find_by_symbols.new.rows.shared in
    record {
      by_symbols = told.lists;
      by_items = c.note_met.ensures c.args.flat.now shared
          (subst (λ (m : Met). AreMet c.args.flat.now shared m.lists m.numbers.items) (sym told.met) (met_more c.args.flat.now c.args.rows.now.shared shared before.lists before.numbers.items told.more c.requires.lists.by_items))
          told.there told.begun;
    }
