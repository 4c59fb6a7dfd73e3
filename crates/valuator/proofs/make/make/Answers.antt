use Rattle.std.proofs.Common.{sym, subst}
use Rattle.std.proofs.lemmas.Result.{IfOk-from_err}
use Rattle.value_text.specs.Pool.{AreIds}
use Rattle.valuator.proofs.Grown.{grown_same, grown_through, grown_tried, ids_none}
use Rattle.valuator.proofs.make.make.Goals as goal

pub add_items-requires-clause-ids : goal.add_items-requires-clause-ids
add_items-requires-clause-ids c = subst (AreIds _) (sym c.clear.ensures.items) (ids_none _)

pub list-requires-in-Items : goal.list-requires-in-Items
list-requires-in-Items c = subst (AreIds _) (sym c.as_slice-in-Items.ensures.value) c.add_items.ensures.ids

pub returns-in-Array-clause-grown : goal.returns-in-Array-clause-grown
returns-in-Array-clause-grown c = grown_tried _ _ _ c.list.result c.list.ensures.ok c.list.ensures.err

pub returns-in-Some-clause-grown : goal.returns-in-Some-clause-grown
returns-in-Some-clause-grown c = grown_same _

pub returns-in-None-clause-grown : goal.returns-in-None-clause-grown
returns-in-None-clause-grown c = grown_tried _ _ _ c.undef.result c.undef.ensures.ok c.undef.ensures.err

pub returns-in-Undef-clause-grown : goal.returns-in-Undef-clause-grown
returns-in-Undef-clause-grown c = grown_tried _ _ _ c.undef-in-Undef.result c.undef-in-Undef.ensures.ok c.undef-in-Undef.ensures.err

pub returns-in_err-add_items-in-Items-clause-ok : goal.returns-in_err-add_items-in-Items-clause-ok
returns-in_err-add_items-in-Items-clause-ok c = IfOk-from_err _ _ c.from_residual.ensures.0

pub returns-in_err-add_items-in-Items-clause-grown : goal.returns-in_err-add_items-in-Items-clause-grown
returns-in_err-add_items-in-Items-clause-grown c = c.add_items.ensures.grown

pub returns-in_ok-add_items-in-Items-clause-grown : goal.returns-in_ok-add_items-in-Items-clause-grown
returns-in_ok-add_items-in-Items-clause-grown c = grown_through _ _ _ c.add_items.ensures.grown (grown_tried _ _ _ c.list-in-Items.result c.list-in-Items.ensures.ok c.list-in-Items.ensures.err)
