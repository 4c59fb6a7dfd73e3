use Rattle.std.proofs.Common.{◌∙◌, [], ◌∷◌, ◌++◌, ap}
use Rattle.grammar_model.specs.Values.{value_of}
use Rattle.value_text.specs.Meaning.{meaning_of}
use Rattle.valuator.specs.Play.{tokens_of}
use Rattle.base_tests.proofs.RowLemmas.{one_more, two_held}
use Rattle.base_tests.proofs.plays.line_of_two.Goals as goal

pub list_of_two-requires : goal.list_of_two-requires
list_of_two-requires g c =
    let old = c.in_ok-push.ensures.items ∙ ap (λ ts. ts ++ c.args.teller ∷ []) c.new-tellers.ensures.items in
    let told = c.in_ok-play.ensures.ok c.requires.list.tree c.requires.list.are in
    let more = one_more (λ t. (goal.Teller-dyn g (t.vtable, t.value)).shows t.value) (λ t. (goal.Teller-dyn g (t.vtable, t.value)).held t.value)
    (λ show. value_of show c.args.w.now (meaning_of c.args.meaning.now) (tokens_of c.args.chars.now c.args.spans.now) c.requires.list.tree)
    _ _ c.args.teller c.index_mut-teller.result.now old told in
    two_held _ _ _ c.requires.one (ap (λ t. (goal.Teller-dyn g (t.vtable, t.value)).held t.value) c.index_mut-teller.ensures.value ∙ more)
