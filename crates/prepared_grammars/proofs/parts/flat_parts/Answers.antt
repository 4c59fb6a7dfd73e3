use Rattle.std.proofs.Common.{subst}
use Rattle.grammar_model.specs.Checked.{IsChecked}
use Rattle.prepared_grammars.proofs.Faults.{are_parts}
use Rattle.prepared_grammars.proofs.parts.flat_parts.Goals as goal

pub returns-clause-ok : goal.returns-clause-ok
returns-clause-ok c =
    are_parts c.args.built.now c.args.structural.now c.args.lexical.now c.in_ok-flat.flat c.in_ok-lexical.lexical c.in_ok-abilities.abilities.items c.requires.structural
    (subst IsChecked c.requires.structural c.known.ensures.checked) c.requires.lexical c.in_ok-flat.ensures.ok c.in_ok-flat.ensures.few c.in_ok-lexical.ensures.ok c.in_ok-abilities.ensures
