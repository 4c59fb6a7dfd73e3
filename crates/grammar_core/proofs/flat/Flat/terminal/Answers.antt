use Rattle.std.proofs.Common.{◌≡◌, sym, ◌∙◌, subst}
use Rattle.std.specs.Prelude.{slice_get, Some, None}
use Rattle.recognizer_model.specs.declared.flat.FlatSymbol.TheVariants.{Terminal}
use Rattle.recognizer_model.specs.Invariant.{IsArranged}
use Rattle.grammar_core.proofs.Halving.{only_there}
use Rattle.grammar_core.proofs.flat.Flat.terminal.Goals as goal

pub returns-in_default-clause-none : goal.returns-in_default-clause-none
returns-in_default-clause-none c none x is =
    let place = c.terminals_below-place in
    let arranged : IsArranged c.args.self.now = place.ensures.arranged in
    let there = only_there c.args.self.now arranged c.args.t place.result place.ensures.below place.ensures.above x is in
    let at : slice_get c.args.self.now.symbols place.result ≡ Some (Terminal c.args.t) = subst (λ z. slice_get c.args.self.now.symbols z ≡ Some (Terminal c.args.t)) there is in
    let found : Some c.in-Some.symbol ≡ Some (Terminal c.args.t) = sym c.in-Some.is ∙ c.symbol_at.ensures ∙ at in
    let same : c.in-Some.symbol ≡ Terminal c.args.t = cc in
    let test = c.is_terminal.ensures.1 same in
    let off = c.if-is_terminal.false in
    cc

pub returns-in_default-2-clause-none : goal.returns-in_default-2-clause-none
returns-in_default-2-clause-none c none x is =
    let place = c.terminals_below-place in
    let arranged : IsArranged c.args.self.now = place.ensures.arranged in
    let there = only_there c.args.self.now arranged c.args.t place.result place.ensures.below place.ensures.above x is in
    let at : slice_get c.args.self.now.symbols place.result ≡ Some (Terminal c.args.t) = subst (λ z. slice_get c.args.self.now.symbols z ≡ Some (Terminal c.args.t)) there is in
    let found : None ≡ Some (Terminal c.args.t) = sym c.in_default.is ∙ c.symbol_at.ensures ∙ at in
    cc
