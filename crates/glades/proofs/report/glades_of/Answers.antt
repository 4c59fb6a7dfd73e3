use Rattle.std.proofs.Common.{◌≡◌, ◌+◌, ◌++◌, ◌∷◌, [], ◌∙◌, List, take, sym, ap, subst, arith}
use Rattle.std.proofs.lemmas.List.{take_more, take_all}
use Rattle.finite_sets.proofs.Lists.{get_index, get_item}
use Rattle.glade_model.specs.Glades.{Glade}
use Rattle.glades.specs.declared.heads.Head.{Head}
use Rattle.glades.specs.Heads.{AreGladesOf}
use Rattle.glades.proofs.Reporting.{glades_push}
use Rattle.glades.proofs.report.glades_of.Goals as goal

pub next_of-next-requires-clause-head : goal.next_of-next-requires-clause-head
next_of-next-requires-clause-head c = c.requires.heads c.head_at-head.result (get_item c.args.heads.now c.loop-k.k c.head_at-head.result c.head_at-head.ensures)

pub glade_of-requires-clause-head : goal.glade_of-requires-clause-head
glade_of-requires-clause-head c = c.requires.heads c.head_at-head.result (get_item c.args.heads.now c.loop-k.k c.head_at-head.result c.head_at-head.ensures)

pub loop-k-preserved : goal.loop-k-preserved
loop-k-preserved c =
    let (lt, same) = get_index c.args.heads.now c.loop-k.k c.head_at-head.result c.head_at-head.result c.head_at-head.ensures in
    let taken : take (c.loop-k.k + 1) c.args.heads.now ≡ take c.loop-k.k c.args.heads.now ++ c.head_at-head.result ∷ [] =
    take_more c.args.heads.now c.loop-k.k c.head_at-head.result lt ∙ ap (λ (h : Head). take c.loop-k.k c.args.heads.now ++ h ∷ []) same in
    record {
      glades = subst (λ (hs : List Head). AreGladesOf c.args.forest.now hs c.push.new.self.items) (sym taken)
          (subst (λ (gs : List Glade). AreGladesOf c.args.forest.now (take c.loop-k.k c.args.heads.now ++ c.head_at-head.result ∷ []) gs) (sym c.in_ok-push.ensures.items)
          (glades_push c.args.forest.now (take c.loop-k.k c.args.heads.now) c.loop-k.glades.items c.head_at-head.result _ c.loop-k.invariant.glades c.in_ok-glade.ensures.glade));
      known = c.glade_of.ensures.known;
      empty = c.in_ok-glade.ensures.empty;
    }

pub returns : goal.returns
returns c =
    let end = c.loop-k-test.false in
    subst (λ (hs : List Head). AreGladesOf c.args.forest.now hs c.loop-k.glades.items) (take_all c.loop-k.k c.args.heads.now (omega (arith, end))) c.loop-k.invariant.glades
