use Rattle.std.proofs.Common.{◌<◌, [], ◌∷◌, ◌++◌, List, ℕ, length, take, get_or, subst, sym, arith}
use Rattle.std.proofs.lemmas.List.{take_all, take_more}
use Rattle.plain_lister.specs.Told.{AreValuesTold}
use Rattle.plain_lister.proofs.Listed.{values_none, values_more}
use Rattle.plain_lister.proofs.list.values_of.Goals as goal

pub loop-i-init : goal.loop-i-init
loop-i-init c = values_none c.args.told.now c.new-ids.result.items c.new-ids.ensures.items

pub loop-i-preserved : goal.loop-i-preserved
loop-i-preserved c =
    let told = c.args.told.now in
    let trees = c.args.trees.now in
    let i = c.loop-i.i in
    let lt : i < length trees = omega arith in
    subst (λ (l : List ℕ). AreValuesTold told l c.push.new.self.items) (sym (take_more trees i 0 lt))
    (subst (λ (l : List ℕ). AreValuesTold told (take i trees ++ get_or trees i 0 ∷ []) l) (sym c.in_ok-push.ensures.items)
    (values_more told (take i trees) c.loop-i.ids.items (get_or trees i 0) c.in_ok-id.id c.loop-i.invariant c.in_ok-id.ensures))

pub returns : goal.returns
returns c = subst (λ (l : List ℕ). AreValuesTold c.args.told.now l c.loop-i.ids.items) (take_all c.loop-i.i c.args.trees.now c.loop-i-test.false) c.loop-i.invariant
