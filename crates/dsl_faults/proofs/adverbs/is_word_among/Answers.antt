use Rattle.std.proofs.Common.{ap, sym, ◌∙◌, map, List, ℕ, Bor}
use Rattle.std.specs.Prelude.{bytes_eq}
use Rattle.std.specs.List.{list_any}
use Rattle.grammar_core.proofs.Growth.{list_any-map}
use Rattle.dsl_faults.proofs.adverbs.is_word_among.Goals as goal

pub returns-in-Word : goal.returns-in-Word
returns-in-Word c =
    let content = c.as_str.result.now in
    rw (← c.token.view_is, c.in-Word.is)
    (c.is_among.ensures ∙ sym (list_any-map (λ u. bytes_eq u content) (λ (t : Bor (List ℕ)). t.now) c.args.texts.now)
    ∙ ap (λ s. list_any (λ u. bytes_eq u s) (map (λ (t : Bor (List ℕ)). t.now) c.args.texts.now)) c.as_str.ensures.value)
