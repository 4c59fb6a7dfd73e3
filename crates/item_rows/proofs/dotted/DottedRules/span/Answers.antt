use Rattle.std.proofs.Common.{◌∙◌, sym, ap, subst, List, slice_get}
use Rattle.item_rows.specs.declared.dotted.Span.{Span}
use Rattle.item_rows.specs.Dotted.{Dotted, IsSpan}
use Rattle.item_rows.proofs.Listed.{no_span}
use Rattle.item_rows.proofs.dotted.DottedRules.span.Goals as goal

pub returns-in-None : goal.returns-in-None
returns-in-None c =
    subst (λ (d : Dotted). IsSpan d.flat d.rules c.args.symbol (record { start = 0; end = 0 })) c.self.view_is
    (no_span c.self.inside.flat.now c.self.inside.dots.rules.items c.self.inside.dots.spans.items c.args.symbol c.known.ensures.flat c.self.invariant.by_symbol
    (sym (c.span_at.ensures ∙ ap (λ (l : List Span). slice_get l c.args.symbol) c.deref.ensures.value) ∙ c.in-None.is))
