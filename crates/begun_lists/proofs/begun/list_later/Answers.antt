use Rattle.std.proofs.Common.{sym, length}
use Rattle.begun_lists.proofs.Beginning.{later_only, later_all, later_none}
use Rattle.begun_lists.proofs.Trying.{links_later}
use Rattle.begun_lists.proofs.begun.list_later.Goals as goal

pub returns-in_ok-list_skipped-clause-only : goal.returns-in_ok-list_skipped-clause-only
returns-in_ok-list_skipped-clause-only c =
    later_only c.args.flat.now c.args.item c.in-Some.symbol (sym c.in-Some.ensures.value) c.args.set.now c.list_unbegun.new.next.items c.list_skipped.new.next.items c.in_ok-list_skipped.ensures.listed c.in_ok-list_unbegun.ensures.only

pub returns-in_ok-list_skipped-clause-all : goal.returns-in_ok-list_skipped-clause-all
returns-in_ok-list_skipped-clause-all c =
    later_all c.args.flat.now c.args.item c.in-Some.symbol (sym c.in-Some.ensures.value) c.args.set.now c.list_unbegun.new.next.items c.list_skipped.new.next.items c.in_ok-list_skipped.ensures.listed c.in_ok-list_unbegun.ensures.all

pub returns-in_ok-list_skipped-clause-links : goal.returns-in_ok-list_skipped-clause-links
returns-in_ok-list_skipped-clause-links c =
    links_later c.args.flat.now c.args.item c.in-Some.symbol 0 (length c.list_unbegun.new.next.items) (length c.list_skipped.new.next.items) (sym c.in-Some.ensures.value) c.in_ok-list_unbegun.ensures.links c.in_ok-list_skipped.ensures.links

pub returns-in_default-clause-all : goal.returns-in_default-clause-all
returns-in_default-clause-all c = λ other f. absurd (later_none c.args.flat.now c.args.item (sym c.in_default.ensures.value) c.requires.origin other f)
