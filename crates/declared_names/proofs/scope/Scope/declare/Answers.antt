use Rattle.std.proofs.Common.{refl, subst}
use Rattle.std.specs.Prelude.{None, Some}
use Rattle.declared_names.specs.Scope.{IsFound}
use Rattle.declared_names.proofs.Found.{found_none, is_put}
use Rattle.declared_names.proofs.scope.Scope.declare.Goals as goal

pub returns-in-Some : goal.returns-in-Some
returns-in-Some c = (refl, refl, refl, subst (λ n. IsFound c.args.self.now n (Some c.in-Some.first)) c.deref.ensures c.in-Some.ensures)

pub returns : goal.returns
returns c =
    let missing = subst (λ n. IsFound c.args.self.now n None) c.deref.ensures (found_none c.args.self.now c.deref.result.now c.find.result c.in_default.not-Some c.find.ensures) in
    (refl, missing, is_put c.args.self.now (record { alloc = c.args.self.now.alloc; declared = c.insert.new.self }) c.args.name c.args.start c.in_ok-insert.field-0 missing c.in_ok-insert.ensures.old c.in_ok-insert.ensures.entries)
