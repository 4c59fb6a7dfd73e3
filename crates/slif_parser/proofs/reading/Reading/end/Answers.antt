use Rattle.std.proofs.Common.{List, All, length, ◌+◌, ◌<◌, sym, subst}
use Rattle.grammar_core.specs.declared.steps.Span.{Span}
use Rattle.slif_parser.proofs.Firsts.{ends_small, spans_held}
use Rattle.slif_parser.proofs.reading.Reading.end.Goals as goal

pub end_of-requires : goal.end_of-requires
end_of-requires c =
    let cs = c.self.inside.chars in
    let spans = c.self.inside.tokens.spans.items in
    subst (λ (l : List Span). All (λ (s : Span). s.start + s.length < 4294967296) l) (sym c.deref.ensures.value)
    (ends_small (length cs) spans (spans_held c.self.inside.prepared.now c.self.inside.lexemes.items cs c.self.inside.tokens.recce spans c.self.invariant))
