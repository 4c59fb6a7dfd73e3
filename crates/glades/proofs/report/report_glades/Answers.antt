use Rattle.std.proofs.Common.{List, Contains, subst}
use Rattle.glades.specs.declared.heads.Head.{Head}
use Rattle.glades.specs.Heads.{AreGladesOf}
use Rattle.glades.proofs.Reporting.{report_of, heads_moved}
use Rattle.glades.proofs.report.report_glades.Goals as goal

pub glades_of-requires-clause-heads : goal.glades_of-requires-clause-heads
glades_of-requires-clause-heads g c = λ head h.
    c.in_ok-heads.ensures.heads.each head ((c.in_ok-sort.ensures.same head).0 (subst (λ (l : List Head). Contains l head) c.deref-5.ensures.value h))

pub returns-clause-report : goal.returns-clause-report
returns-clause-report g c =
    report_of c.args.forest.now c.known.ensures c.requires.ranking c.sort.new.heads.items c.in_ok-glades.glades.items c.in_ok-sort.ensures.sorted
    (heads_moved c.args.forest.now c.in_ok-heads.heads.items c.sort.new.heads.items c.in_ok-heads.ensures.heads c.in_ok-sort.ensures.same)
    (subst (λ (hs : List Head). AreGladesOf c.args.forest.now hs c.in_ok-glades.glades.items) c.deref-5.ensures.value c.in_ok-glades.ensures)
