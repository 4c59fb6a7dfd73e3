use Rattle.std.proofs.Common.{◌≡◌, ℕ, Some, slice_get, subst}
use Rattle.std.specs.Prelude.{◌≢◌, IfSome, IsNone}
use Rattle.recognizer_model.specs.declared.flat.FlatSymbol.TheVariants.{Terminal}
use Rattle.earley_sets.specs.Recognizer.{Recognizer}
use Rattle.earley_sets.proofs.recce.Recce.symbol_of.Goals as goal

pub symbol_of-requires : goal.symbol_of-requires
symbol_of-requires c = c.self.invariant.1

pub returns-clause-some : goal.returns-clause-some
returns-clause-some c = subst (λ (r : Recognizer). IfSome c.symbol_of.result (λ x. slice_get r.flat.symbols x ≡ Some (Terminal c.args.t))) c.self.view_is c.symbol_of.ensures.some

pub returns-clause-none : goal.returns-clause-none
returns-clause-none c = subst (λ (r : Recognizer). IsNone c.symbol_of.result → (x : ℕ) → slice_get r.flat.symbols x ≢ Some (Terminal c.args.t)) c.self.view_is c.symbol_of.ensures.none
