use Rattle.std.proofs.Common.{ℕ, List, subst}
use Rattle.plain_lister.specs.declared.lines.Told.{Told}
use Rattle.plain_lister.specs.Told.{AreValuesTold}
use Rattle.plain_lister.proofs.Listed.{lines_are, ids_are}
use Rattle.plain_lister.proofs.list.list_lines.Goals as goal

pub invariant_of-result : goal.invariant_of-result
invariant_of-result c =
    let told = subst (λ (l : List ℕ). AreValuesTold c.in_ok-told.told.items l c.in_ok-values.values.items) c.deref-2.ensures.value
    (subst (λ (l : List Told). AreValuesTold l c.deref-2.result.now c.in_ok-values.values.items) c.deref.ensures.value c.in_ok-values.ensures) in
    ids_are c.args.derivations.now c.tell_cells.new.pool c.in_ok-told.told.items c.in_ok-values.values.items c.in_ok-told.ensures told

pub returns : goal.returns
returns c =
    let told = subst (λ (l : List ℕ). AreValuesTold c.in_ok-told.told.items l c.in_ok-values.values.items) c.deref-2.ensures.value
    (subst (λ (l : List Told). AreValuesTold l c.deref-2.result.now c.in_ok-values.values.items) c.deref.ensures.value c.in_ok-values.ensures) in
    lines_are c.args.derivations.now c.tell_cells.new.pool c.in_ok-told.told.items c.in_ok-values.values.items c.in_ok-told.ensures told
