use Rattle.std.proofs.Common.{List, subst}
use Rattle.grammar_model.specs.Trees.{Tree}
use Rattle.tree_iter.specs.Iteration.{AreGiven}
use Rattle.slif_parser.specs.Views.{DerivationsOf}
use Rattle.slif_parser.specs.Readings.{IsPrefixOfAll}
use Rattle.slif_parser.proofs.Going.{prefix_of_all}
use Rattle.slif_parser.proofs.derivations.Derivations.known.Goals as goal

pub returns : goal.returns
returns c =
    subst (λ (d : DerivationsOf). (given : List Tree) → AreGiven d.iteration given → IsPrefixOfAll d given) c.self.view_is
    (prefix_of_all c.self.inside.prepared.now c.self.inside.lexemes.now c.self.inside.chars.now c.self.inside.spans.now c.self.inside.iter c.self.invariant)
