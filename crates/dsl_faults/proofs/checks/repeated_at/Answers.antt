use Rattle.std.proofs.Common.{sym, ap, ◌∙◌, Some, take}
use Rattle.std.proofs.lemmas.Option.{slice_get-get_or}
use Rattle.dsl_faults.specs.Adverbs.{repeat_of}
use Rattle.dsl_faults.specs.Found.{first_of}
use Rattle.dsl_faults.proofs.checks.repeated_at.Goals as goal

pub returns : goal.returns
returns c =
    let there = slice_get-get_or c.args.adverbs.now c.args.place c.index-adverbs-place.result c.requires ∙ ap Some (sym c.index-adverbs-place.is) in
    c.repeated_adverb.ensures ∙ ap (λ o. first_of (repeat_of (take c.args.place c.args.adverbs.now) o)) (sym there)
