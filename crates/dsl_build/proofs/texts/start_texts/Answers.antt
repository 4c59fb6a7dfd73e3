use Rattle.std.proofs.Common.{◌++◌, [], sym, subst, List, ℕ}
use Rattle.dsl_faults.specs.Texts.{AllNew}
use Rattle.dsl_build.proofs.texts.start_texts.Goals as goal

pub append-requires : goal.append-requires
append-requires c = subst (λ (ns : List (List ℕ)). AllNew [] (ns ++ c.args.lexemes.now)) (sym c.new-texts.ensures) c.requires.lexemes
