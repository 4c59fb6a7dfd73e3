use Rattle.std.proofs.Common.{List, sym, subst}
use Rattle.grammar_model.specs.Trees.{Tree}
use Rattle.grammar_model.specs.Characters.{IsAllOfCharacters}
use Rattle.grammar_model.proofs.Characters.{characters_listed}
use Rattle.plain_lister.proofs.BareLines.{same_line}
use Rattle.plain_lister.proofs.derive.Goals as goal

pub returns-clause-trees : goal.returns-clause-trees
returns-clause-trees c =
    let found = c.in_ok-cells.ensures in
    let P : List Tree → Type 0 = IsAllOfCharacters c.args.w.now c.args.input.now in
    subst P (sym found.2) (characters_listed c.args.w.now c.args.input.now c.requires.simple found.0 found.1)

pub returns-clause-lines : goal.returns-clause-lines
returns-clause-lines c = λ t. same_line c.args.w.now c.args.input.now _ c.in_ok-lefts.lefts.items c.in_ok-copied_bytes.field-0.items t c.in_ok-names.ensures c.in_ok-lefts.ensures c.in_ok-copied_bytes.ensures
