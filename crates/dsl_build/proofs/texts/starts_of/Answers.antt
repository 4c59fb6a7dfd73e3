use Rattle.std.proofs.Common.{[], sym, subst, List, ℕ}
use Rattle.dsl_faults.specs.Texts.{AllNew}
use Rattle.dsl_build.proofs.Differing.{new_all, filter_new}
use Rattle.dsl_build.proofs.texts.starts_of.Goals as goal

pub start_texts-requires-clause-lexemes : goal.start_texts-requires-clause-lexemes
start_texts-requires-clause-lexemes c = subst (λ (ns : List (List ℕ)). AllNew [] ns) (sym c.in_ok-lexemes.ensures) (filter_new _ [] c.args.symbols.now c.requires)

pub start_texts-requires-clause-discards : goal.start_texts-requires-clause-discards
start_texts-requires-clause-discards c = subst (λ (ns : List (List ℕ)). AllNew [] ns) (sym c.in_ok-discards.ensures) (new_all [] _)

pub returns : goal.returns
returns c = record { lexemes = c.in_ok-lexemes.ensures; discards = c.in_ok-discards.ensures; texts = c.in_ok-texts.ensures }
