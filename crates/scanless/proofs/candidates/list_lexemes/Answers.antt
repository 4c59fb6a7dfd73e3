use Rattle.std.proofs.Common.{◌++◌, ap, subst, ◌∙◌}
use Rattle.earley_sets.specs.Recognizer.{IsExpected}
use Rattle.prepared_grammars.proofs.Finding.{AddsStarts, gathers_found}
use Rattle.scanless.proofs.candidates.list_lexemes.Goals as goal

pub returns : goal.returns
returns c =
    let begun = c.in_ok-extend_from_slice.ensures.items ∙ (ap (λ l. l ++ c.deref.result.now) c.clear.ensures.items ∙ c.deref.ensures.value) in
    let adds : AddsStarts c.lookups-lookups.result.now.starts.items c.expected_terminals.result.now c.lookups-lookups.result.now.always.items c.add_starts.new.found.items =
    subst (λ old. AddsStarts c.lookups-lookups.result.now.starts.items c.expected_terminals.result.now old c.add_starts.new.found.items) begun
    (subst (λ starts. AddsStarts starts c.expected_terminals.result.now c.extend_from_slice.new.self.items c.add_starts.new.found.items) c.deref-2.ensures.value c.in_ok-add_starts.ensures) in
    gathers_found c.args.p.now.lexemes c.lookups-lookups.result.now.always.items c.lookups-lookups.result.now.starts.items (IsExpected c.args.recce.now) c.expected_terminals.result.now c.add_starts.new.found.items
    c.lookups-lookups.ensures.are_always c.lookups-lookups.ensures.are_starts c.expected_terminals.ensures.exact adds
