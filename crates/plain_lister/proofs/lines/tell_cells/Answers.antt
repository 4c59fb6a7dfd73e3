use Rattle.std.proofs.Common.{◌<◌, [], ◌∷◌, ◌++◌, List, length, take, sym, ap, ◌∙◌, subst, arith}
use Rattle.std.proofs.lemmas.List.{take_more}
use Rattle.plain_lister.specs.declared.lines.Told.{Told}
use Rattle.plain_lister.specs.declared.Cell.{Cell}
use Rattle.plain_lister.specs.Told.{AllTold, IsTold}
use Rattle.plain_lister.specs.Arena.{meant, meanings}
use Rattle.plain_lister.proofs.Pooled.{all_more}
use Rattle.plain_lister.proofs.lines.tell_cells.Goals as goal

pub told_of-requires : goal.told_of-requires
told_of-requires c =
    let i = c.loop-i.i in
    subst (λ (cs : List Cell). AllTold c.args.list.now c.loop-i.pool c.deref-in-loop-i.result.now (take i cs)) (sym c.deref.ensures.value)
    (subst (λ (l : List Told). AllTold c.args.list.now c.loop-i.pool l (take i c.args.list.now.cells.items)) (sym c.deref-in-loop-i.ensures.value) c.loop-i.invariant)

pub loop-i-preserved : goal.loop-i-preserved
loop-i-preserved c =
    let cells = c.args.list.now.cells.items in
    let i = c.loop-i.i in
    let cell = c.index.result.now in
    let lt : i < length cells = omega (arith, c.args.list.now.cells.ok, c.len-i-end.ensures) in
    let more = take_more cells i cell lt ∙ ap (λ (z : Cell). take i cells ++ z ∷ []) (sym c.index.ensures) in
    subst (AllTold c.args.list.now c.told_of.new.pool c.push.new.self.items) (sym more)
    (subst (λ (l : List Told). AllTold c.args.list.now c.told_of.new.pool l (take i cells ++ cell ∷ [])) (sym c.in_ok-push.ensures.items)
    (all_more c.args.list.now c.loop-i.pool c.told_of.new.pool c.loop-i.told.items c.in_ok-x.x (take i cells) cell c.loop-i.invariant c.in_ok-x.ensures.0
    (subst (λ (cs : List Cell). IsTold c.args.list.now c.told_of.new.pool c.in_ok-x.x (meant (meanings (take i cs)) cell)) c.deref.ensures.value c.in_ok-x.ensures.1)))
