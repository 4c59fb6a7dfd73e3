use Rattle.grammar_model.specs.Analysis.{IsNullable}
use Rattle.grammar_check.proofs.Linking.{cause_told}
use Rattle.grammar_check.proofs.links.is_part_nullable.Goals as goal

pub returns : goal.returns
returns c = cause_told (IsNullable c.args.w.now) c.args.w.now c.args.bases.now c.args.nullable.now c.args.i c.args.k c.child_number.result c.has.result c.known.ensures c.requires.numbering c.requires.rule c.requires.part c.requires.nullable.exact c.child_number.ensures c.has.ensures
