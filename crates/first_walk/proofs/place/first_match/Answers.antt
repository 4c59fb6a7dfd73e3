use Rattle.std.proofs.Common.{◌<◌, inl, inr, length, arith}
use Rattle.std.proofs.lemmas.Bool.{cases_lt}
use Rattle.std.proofs.lemmas.List.Elements.{Contains-get_or}
use Rattle.forest_parts.specs.Parts.{part_at, no_part}
use Rattle.first_walk.proofs.Orders.{symbols_up}
use Rattle.first_walk.proofs.place.first_match.Goals as goal

pub returns-then-parts-k-clause-none : goal.returns-then-parts-k-clause-none
returns-then-parts-k-clause-none c = λ same j below match. elim (cases_lt j c.loop-k.k) [
  | inl lt ↦ absurd (c.loop-k.invariant.none j lt match)
  | inr ge ↦
      let up = symbols_up c.args.parts.now c.requires.sorted c.requires.ends c.loop-k.k j ge below in
      let k_in : c.loop-k.k < length c.args.parts.now = omega arith in
      let from = c.requires.from.1 c.loop-k.k c.loop-k.invariant.low k_in in
      let is = match.0 in
      absurd (omega arith)
]

pub begins-requires-clause-part : goal.begins-requires-clause-part
begins-requires-clause-part c =
    let k_in : c.loop-k.k < length c.args.parts.now = omega arith in
    (c.requires.places (part_at c.args.parts.now c.loop-k.k) (Contains-get_or c.args.parts.now c.loop-k.k no_part k_in)).0

pub begins-requires-clause-end : goal.begins-requires-clause-end
begins-requires-clause-end c =
    let k_in : c.loop-k.k < length c.args.parts.now = omega arith in
    (c.requires.places (part_at c.args.parts.now c.loop-k.k) (Contains-get_or c.args.parts.now c.loop-k.k no_part k_in)).1
