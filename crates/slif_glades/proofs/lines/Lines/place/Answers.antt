use Rattle.std.proofs.Common.{◌≡◌, ℕ, min, ◌≤◌, ◌∙◌, ◌-◌, ap, arith, take, length, get_or}
use Rattle.std.proofs.lemmas.List.{take_min}
use Rattle.outside_model.specs.Places.{column_after}
use Rattle.slif_glades.proofs.LineStarts.{column_from}
use Rattle.slif_glades.proofs.lines.Lines.place.Goals as goal

pub returns-clause-column : goal.returns-clause-column
returns-clause-column c cs lines =
    let within : c.min-at.result ≤ length cs = omega (arith, lines.end_is, c.min-at.ensures) in
    let same : take c.min-at.result cs ≡ take c.args.character cs = ap (λ (n : ℕ). take n cs) (c.min-at.ensures ∙ ap (min c.args.character) lines.end_is) ∙ take_min c.args.character cs in
    column_from cs c.min-at.result c.line-line.result c.start-start.result c.saturating_sub.result within (c.line-line.ensures cs lines within)
    (c.start-start.ensures ∙ ap (λ xs. get_or xs (c.line-line.result - 1) 0) lines.starts_are) c.saturating_sub.ensures ∙ ap column_after same
