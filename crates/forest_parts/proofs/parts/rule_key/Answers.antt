use Rattle.std.proofs.Common.{rules, ◌≡◌, ◌∙◌, length, ap, sym, w32}
use mir.Val.{SFits}
use Rattle.std.proofs.lemmas.Int.{to_z-of_z}
use Rattle.grammar_model.specs.Grammar.{has_trailing}
use Rattle.grammar_model.specs.Order.{rank_by}
use Rattle.grammar_core.specs.Written.{rule_of}
use Rattle.recognizer_model.specs.Flat.{source_of}
use Rattle.recognizer_model.specs.FlatForm.{source_number}
use Rattle.forest_parts.proofs.Sources.{rule_is}
use Rattle.forest_parts.proofs.parts.rule_key.Goals as goal
use Rattle.recognizer_model.proofs.Sources.{source_within}

pub written_rule-written-requires : goal.written_rule-written-requires
written_rule-written-requires c = source_within c.args.flat.now c.args.w.now c.args.rule c.in-Written.source c.requires.flat c.requires.rule (sym c.in-Written.ensures)

pub returns-in-Written : goal.returns-in-Written
returns-in-Written c =
    let rule = rule_is c.args.w.now (source_of c.args.flat.now c.args.rule) c.in-Written.source (rule_of c.written_rule-written.result.now) (sym c.in-Written.ensures) c.written_rule-written.ensures in
    let fits : SFits w32 c.rank.result = search rules in
    let rank = to_z-of_z w32 c.rank.result fits ∙ c.rank.ensures ∙ ap (rank_by c.args.ranking) rule in
    let number : c.source.inside.0 ≡ source_number c.args.w.now (source_of c.args.flat.now c.args.rule) = c.source.view_is ∙ ap (source_number c.args.w.now) c.in-Written.ensures in
    let trailing = c.ends_with_separator.ensures ∙ (λ i. has_trailing (rule i) (length (c.rhs.ensures i))) in
    (λ i. record { length = record { 0 = c.list_length.ensures i }; rank = record { 0 = rank i }; source = number i; trailing = trailing i; rule = c.args.rule })
