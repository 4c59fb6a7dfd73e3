use Rattle.std.proofs.Common.{Bool, sym, subst}
use Rattle.std.specs.Prelude.{IfOk}
use Rattle.slif_glades.specs.Telling.{AreMarked}
use Rattle.slif_glades.proofs.telling.marked.Goals as goal

pub returns-then-all : goal.returns-then-all
returns-then-all c = subst (λ (b : Bool). IfOk c.single_marks.result (λ marks. AreMarked b c.args.glades.now marks.items)) (sym c.if-all.true) c.single_marks.ensures

pub returns-else-all : goal.returns-else-all
returns-else-all c = subst (λ (b : Bool). IfOk c.marks_of.result (λ marks. AreMarked b c.args.glades.now marks.items)) (sym c.if-all.false) c.marks_of.ensures
