use Rattle.std.proofs.Common.{◌∙◌, ap}
use Rattle.std.specs.Prelude.{is_some, option_map}
use Rattle.language_model.specs.Building.{is_one_of}
use Rattle.dsl_faults.specs.Found.{fault_of}
use Rattle.dsl_faults.specs.Adverbs.{names_of}
use Rattle.dsl_faults.proofs.Repeats.{value_named, copied_some, repeat_told}
use Rattle.dsl_faults.proofs.checks.repeated_adverb.Goals as goal

pub returns-in-Pair : goal.returns-in-Pair
returns-in-Pair c =
    let again = c.is_some-again.ensures ∙ copied_some c.value_of.result ∙ ap is_some c.value_of.ensures ∙ value_named c.as_str.result.now c.args.before.now
    ∙ ap (λ t. is_one_of (names_of c.args.before.now) t) (c.as_str.ensures.value ∙ ap (λ n. n.content) c.name.view_is) in
    ap (option_map fault_of) c.then_some.ensures ∙ repeat_told c.args.before.now c.args.adverb.now c.in-Pair.name c.in-Pair.value c.fault_at.result c.is_some-again.result c.in-Pair.is again c.fault_at.ensures
