use Rattle.std.proofs.Common.{◌∙◌, sym}
use Rattle.grammar_core.specs.Edges.{all_placed}
use Rattle.grammar_core.specs.Latest.{latest_at}
use Rattle.grammar_core.proofs.Newest.{told_some, told_none}
use Rattle.grammar_core.proofs.edges.TokenEdges.holds.Goals as goal

pub returns-in-Some : goal.returns-in-Some
returns-in-Some c =
    told_some (all_placed c.self.inside.places.items c.self.inside.edges.items) c.args.self.now (latest_at c.self.inside.latest) c.self.view_is c.self.invariant.1
    c.args.t c.args.length c.args.at c.ranges.length.fits c.requires c.in-Some.place (sym c.get.ensures ∙ c.in-Some.is)

pub returns-in-None : goal.returns-in-None
returns-in-None c =
    told_none (all_placed c.self.inside.places.items c.self.inside.edges.items) c.args.self.now (latest_at c.self.inside.latest) c.self.view_is c.self.invariant.1
    c.args.t c.args.length c.args.at c.ranges.length.fits c.requires (sym c.get.ensures ∙ c.in-None.is)
