use Rattle.std.proofs.Common.{◌∙◌}
use Rattle.jagged.proofs.Cutting.{in_ends, row_here}
use Rattle.jagged.proofs.array.Jagged.row.Goals as goal

pub end_before-start-requires : goal.end_before-start-requires
end_before-start-requires g c = in_ends c.self.inside.ends.items c.self.inside.items.items c.self.invariant c.args.self.now c.self.view_is c.args.k c.requires c.deref.result.now c.deref.ensures.value

pub end_of-end-requires : goal.end_of-end-requires
end_of-end-requires g c = in_ends c.self.inside.ends.items c.self.inside.items.items c.self.invariant c.args.self.now c.self.view_is c.args.k c.requires c.deref-2.result.now c.deref-2.ensures.value

pub between-requires-clause-order : goal.between-requires-clause-order
between-requires-clause-order g c = (row_here c.self.inside.ends.items c.self.inside.items.items c.self.invariant c.args.self.now c.self.view_is c.args.k c.requires c.deref.result.now c.deref-2.result.now c.deref-3.result.now c.deref.ensures.value c.deref-2.ensures.value c.deref-3.ensures.value c.end_before-start.result c.end_of-end.result c.end_before-start.ensures c.end_of-end.ensures).order

pub between-requires-clause-bound : goal.between-requires-clause-bound
between-requires-clause-bound g c = (row_here c.self.inside.ends.items c.self.inside.items.items c.self.invariant c.args.self.now c.self.view_is c.args.k c.requires c.deref.result.now c.deref-2.result.now c.deref-3.result.now c.deref.ensures.value c.deref-2.ensures.value c.deref-3.ensures.value c.end_before-start.result c.end_of-end.result c.end_before-start.ensures c.end_of-end.ensures).bound

pub returns : goal.returns
returns g c = c.between.ensures ∙ (row_here c.self.inside.ends.items c.self.inside.items.items c.self.invariant c.args.self.now c.self.view_is c.args.k c.requires c.deref.result.now c.deref-2.result.now c.deref-3.result.now c.deref.ensures.value c.deref-2.ensures.value c.deref-3.ensures.value c.end_before-start.result c.end_of-end.result c.end_before-start.ensures c.end_of-end.ensures).items
