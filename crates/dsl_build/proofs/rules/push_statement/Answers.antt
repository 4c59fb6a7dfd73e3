use Rattle.std.proofs.Common.{subst, sym, map, List, Vec, Global}
use Rattle.std.specs.Prelude.{All}
use Rattle.std.proofs.lemmas.List.Elements.{recursion_from_All}
use Rattle.dsl_statement.specs.declared.statement.Alternative.{Alternative as HeldAlternative}
use Rattle.dsl_statement.specs.declared.statement.Statement.{Statement as HeldStatement}
use Rattle.dsl_statement.specs.Statements.{statement_of}
use Rattle.dsl_build.specs.Ready.{IsReady, IsReadyAlternative}
use Rattle.dsl_build.proofs.Granting.{held_all}
use Rattle.dsl_build.proofs.rules.push_statement.Goals as goal

pub push_groups-requires-clause-ready : goal.push_groups-requires-clause-ready
push_groups-requires-clause-ready c =
    let names = c.args.names.now in
    let groups = c.in-Rules.groups.items in
    let ready = subst (λ (s : HeldStatement). IsReady names (statement_of s)) c.in-Rules.is c.requires.ready in
    let held = held_all (All (IsReadyAlternative names)) (λ (g : Vec HeldAlternative Global). g.items) groups (recursion_from_All (All (IsReadyAlternative names)) (map (λ g. g.items) groups) ready.2) in
    subst (λ (gs : List (Vec HeldAlternative Global)). All (λ g. All (IsReadyAlternative names) g.items) gs) (sym c.deref-in-Rules.ensures.value) held
