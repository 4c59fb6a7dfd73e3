use Rattle.std.proofs.Common.{sym, ◌∙◌, ap, List, ℕ, [], ◌∷◌, ◌++◌}
use Rattle.grammar_model.specs.Grammar.{Grammar}
use Rattle.language_model.specs.Building.{is_one_of}
use Rattle.dsl_build.proofs.Differing.{unseen}
use Rattle.dsl_faults.proofs.Lists.{take_get}
use Rattle.dsl_build.proofs.writing.named.Goals as goal

abbrev only : List (List ℕ) → Grammar
only names = record { names = names; rules = []; starts = [] }

pub add_symbol-requires-clause-new : goal.add_symbol-requires-clause-new
add_symbol-requires-clause-new c = ap (λ (w : Grammar). is_one_of w.names c.text.result.now) c.loop-place.invariant ∙ unseen [] c.args.names.now c.loop-place.place c.text.result.now c.requires.differ c.text.ensures

pub loop-place-preserved : goal.loop-place-preserved
loop-place-preserved c =
    c.in_ok-add_symbol.ensures ∙ ap (λ (w : Grammar). record { names = w.names ++ c.text.result.now ∷ []; rules = w.rules; starts = w.starts }) c.loop-place.invariant
    ∙ ap only (sym (take_get c.args.names.now c.loop-place.place c.text.result.now c.text.ensures))
