use Rattle.std.proofs.Common.{◌∙◌, [], ap, subst, sym, map, List, ℕ}
use Rattle.grammar_model.specs.Grammar.{Grammar}
use Rattle.language_model.specs.Building.{set_names}
use Rattle.grammar_core.specs.Written.{rule_of}
use Rattle.dsl_build.specs.Ready.{IsWritable}
use Rattle.dsl_build.specs.Rules.{grammar_with}
use Rattle.dsl_build.proofs.Differing.{prefix_new}
use Rattle.dsl_build.proofs.writing.written.Goals as goal

pub named-requires-clause-differ : goal.named-requires-clause-differ
named-requires-clause-differ c = prefix_new [] c.args.names.now (set_names c.args.sets) c.requires.differ

pub fill-requires-clause-writable : goal.fill-requires-clause-writable
fill-requires-clause-writable c =
    let names = ap (λ (g : Grammar). g.names) c.in_ok-w.ensures in
    subst (λ (ns : List (List ℕ)). IsWritable (grammar_with ns c.args.sets (map rule_of c.args.rules.items) c.args.starts.now)) (sym names) c.requires

pub returns-in-Ok : goal.returns-in-Ok
returns-in-Ok c =
    let names = ap (λ (g : Grammar). g.names) c.in_ok-w.ensures in
    c.in-Ok.ensures ∙ ap (λ (ns : List (List ℕ)). grammar_with ns c.args.sets (map rule_of c.args.rules.items) c.args.starts.now) names
