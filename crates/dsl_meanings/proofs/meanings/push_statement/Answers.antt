use Rattle.std.proofs.Common.{◌≡◌, [], ◌++◌, sym, ◌∙◌, ap, subst, map, cond}
use Rattle.std.specs.Prelude.{flat_map, OnOk}
use Rattle.value_text.specs.Meaning.{action_of, rule_meaning_of}
use Rattle.dsl_statement.specs.Statements.{is_lexical, statement_of}
use Rattle.dsl_meanings.specs.Meanings.{meaning_of_alternative, meanings_of}
use Rattle.dsl_meanings.proofs.MeaningLemmas.{alternatives_flat}
use Rattle.dsl_meanings.proofs.meanings.push_statement.Goals as goal

pub returns-in-Rules : goal.returns-in-Rules
returns-in-Rules c =
    let default = action_of c.args.default.now in
    let e : meanings_of default (statement_of c.args.s.now) ≡ cond (is_lexical c.in-Rules.level) [] (flat_map (λ g. map (meaning_of_alternative default) g.items) c.deref-in-Rules.result.now) =
    ap (λ s. meanings_of default (statement_of s)) c.in-Rules.is
    ∙ ap (λ ms. cond (is_lexical c.in-Rules.level) [] ms) (alternatives_flat default c.in-Rules.groups.items ∙ ap (flat_map (λ g. map (meaning_of_alternative default) g.items)) (sym c.deref-in-Rules.ensures.value)) in
    subst (λ ms. OnOk c.push_rules.result (map rule_meaning_of c.push_rules.new.out.items ≡ map rule_meaning_of c.args.out.now.items ++ ms)) (sym e) c.push_rules.ensures
