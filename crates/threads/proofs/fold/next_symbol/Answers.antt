use Rattle.std.proofs.Common.{◌≡◌, ◌<◌, ◌+◌, ◌^◌, ℕ, Option, Some, None, length, sym, arith}
use Rattle.std.specs.Prelude.{IfSome}
use Rattle.std.proofs.lemmas.Option.{slice_get_within}
use Rattle.recognizer_model.specs.Flat.{FlatGrammar, IsRule, rhs_of, part_of}
use Rattle.recognizer_model.specs.Invariant.{IsFlat}
use Rattle.threads.proofs.fold.next_symbol.Goals as goal

part_fits : (g : FlatGrammar) (r p : ℕ) (o : Option ℕ) → IsFlat g → IsRule g r → o ≡ part_of g r p → IfSome o (λ _. p + 1 < 2 ^ 32)
part_fits g r p (Some x) flat rule e = let within = slice_get_within (rhs_of g r) p x (sym e) in let short = flat.in_range.short r rule in omega arith
part_fits g r p None flat rule e = tt

part_known : (g : FlatGrammar) (r p : ℕ) (o : Option ℕ) → IsFlat g → IsRule g r → o ≡ part_of g r p → IfSome o (λ x. x < length g.symbols)
part_known g r p (Some x) flat rule e = flat.in_range.parts r p x rule (sym e)
part_known g r p None flat rule e = tt

pub returns-clause-value : goal.returns-clause-value
returns-clause-value c = c.part.ensures

pub returns-clause-fits : goal.returns-clause-fits
returns-clause-fits c = part_fits c.args.flat.now c.args.thread.rule c.args.thread.dot c.part.result c.known.ensures.flat c.requires c.part.ensures

pub returns-clause-symbol : goal.returns-clause-symbol
returns-clause-symbol c = part_known c.args.flat.now c.args.thread.rule c.args.thread.dot c.part.result c.known.ensures.flat c.requires c.part.ensures
