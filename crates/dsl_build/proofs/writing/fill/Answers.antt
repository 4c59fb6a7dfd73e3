use Rattle.std.proofs.Common.{◌≡◌, ◌∙◌, ◌++◌, ◌<◌, arith, ap, subst, sym, map, length, length-append, List, ℕ}
use Rattle.std.specs.Prelude.{All, OnOk}
use Rattle.std.proofs.lemmas.List.{length-map}
use Rattle.grammar_model.specs.Grammar.{Grammar, WrittenRule}
use Rattle.language_model.specs.Building.{set_names}
use Rattle.grammar_core.specs.Written.{rule_of}
use Rattle.dsl_build.specs.Ready.{IsGood}
use Rattle.dsl_build.specs.Rules.{with_rules, with_starts}
use Rattle.dsl_build.proofs.SetNames.{sets_long}
use Rattle.dsl_build.proofs.writing.fill.Goals as goal

pub add_sets-requires-clause-differ : goal.add_sets-requires-clause-differ
add_sets-requires-clause-differ c = c.requires.writable.differ

pub add_sets-requires-clause-room : goal.add_sets-requires-clause-room
add_sets-requires-clause-room c =
    let both = length-append c.args.w.now.names (set_names c.args.sets) in
    let count = sets_long c.args.sets in
    let few = c.requires.writable.symbols in
    omega (arith, both, count, few)

pub add_rules-requires-clause-good : goal.add_rules-requires-clause-good
add_rules-requires-clause-good c = subst (λ (g : Grammar). All (IsGood (length g.names)) (map rule_of c.args.rules.items)) (sym c.in_ok-add_sets.ensures) c.requires.writable.good

pub add_rules-requires-clause-room : goal.add_rules-requires-clause-room
add_rules-requires-clause-room c =
    let none : length c.add_sets.new.w.rules ≡ 0 = ap (λ (g : Grammar). length g.rules) c.in_ok-add_sets.ensures ∙ ap (λ (rs : List WrittenRule). length rs) c.requires.no_rules in
    let long = length-map c.args.rules.items rule_of in
    let few = c.requires.writable.rules in
    omega (arith, none, long, few)

pub add_starts-requires-clause-known : goal.add_starts-requires-clause-known
add_starts-requires-clause-known c =
    let names = ap (λ (g : Grammar). g.names) c.in_ok-add_rules.ensures ∙ ap (λ (g : Grammar). g.names) c.in_ok-add_sets.ensures in
    subst (λ (ns : List (List ℕ)). All (λ s. s < length ns) c.args.starts.now) (sym names) c.requires.writable.known

pub add_starts-requires-clause-room : goal.add_starts-requires-clause-room
add_starts-requires-clause-room c =
    let none : length c.add_rules.new.w.starts ≡ 0 =
    ap (λ (g : Grammar). length g.starts) c.in_ok-add_rules.ensures ∙ ap (λ (g : Grammar). length g.starts) c.in_ok-add_sets.ensures ∙ ap (λ (ss : List ℕ). length ss) c.requires.no_starts in
    let few = c.requires.writable.starts in
    omega (arith, none, few)

pub returns : goal.returns
returns c =
    let names = c.args.w.now.names ++ set_names c.args.sets in
    let rules = map rule_of c.args.rules.items in
    let starts = c.args.starts.now in
    let filled = ap (λ (g : Grammar). with_starts g starts) (c.in_ok-add_rules.ensures ∙ ap (λ (g : Grammar). with_rules g rules) c.in_ok-add_sets.ensures)
    ∙ ap (λ (rs : List WrittenRule). record { names = names; rules = rs ++ rules; starts = c.args.w.now.starts ++ starts }) c.requires.no_rules
    ∙ ap (λ (ss : List ℕ). record { names = names; rules = rules; starts = ss ++ starts }) c.requires.no_starts in
    subst (λ (g : Grammar). OnOk c.add_starts.result (c.add_starts.new.w ≡ g)) filled c.add_starts.ensures
