use Rattle.std.proofs.Common.{◌<◌, inl, inr, length, arith}
use Rattle.std.proofs.lemmas.Bool.{cases_lt, false≢true}
use Rattle.std.proofs.lemmas.List.Elements.{Contains-get_or}
use Rattle.forest_parts.specs.Parts.{part_at, no_part}
use Rattle.first_walk.proofs.Orders.{symbols_up}
use Rattle.first_walk.proofs.place.has_other_start.Goals as goal

pub returns-then-parts-j : goal.returns-then-parts-j
returns-then-parts-j c = (
  λ t. absurd (false≢true t),
  λ (i, after, below, differs, match). elim (cases_lt i c.loop-j.j) [
    | inl lt ↦ absurd (c.loop-j.invariant.none i after lt differs match)
    | inr ge ↦
        let low = c.loop-j.invariant.low in
        let j_in : c.loop-j.j < length c.args.parts.now = omega arith in
        let up = symbols_up c.args.parts.now c.requires.sorted c.requires.ends c.args.k c.loop-j.j (omega arith) j_in in
        let up' = symbols_up c.args.parts.now c.requires.sorted c.requires.ends c.loop-j.j i ge below in
        let is = match.0 in
        absurd (omega arith)
  ],
)

pub begins-requires-clause-part : goal.begins-requires-clause-part
begins-requires-clause-part c =
    let j_in : c.loop-j.j < length c.args.parts.now = omega arith in
    (c.requires.places (part_at c.args.parts.now c.loop-j.j) (Contains-get_or c.args.parts.now c.loop-j.j no_part j_in)).0

pub begins-requires-clause-end : goal.begins-requires-clause-end
begins-requires-clause-end c =
    let j_in : c.loop-j.j < length c.args.parts.now = omega arith in
    (c.requires.places (part_at c.args.parts.now c.loop-j.j) (Contains-get_or c.args.parts.now c.loop-j.j no_part j_in)).1
