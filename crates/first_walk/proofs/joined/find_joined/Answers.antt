use Rattle.std.proofs.Common.{rules, ◌<◌, length}
use Rattle.first_walk.proofs.JoinedFound.{match_of, no_match, first_match, other_start}
use Rattle.first_walk.proofs.joined.find_joined.Goals as goal

pub returns-then-is_empty-clause-none : goal.returns-then-is_empty-clause-none
returns-then-is_empty-clause-none c _ =
    no_match c.args.recce.now c.args.parts.now c.args.joined.now c.requires.joined c.args.symbol c.args.item c.requires.part c.joined_of-mine.result.now c.joined_of-mine.ensures.sorted c.joined_of-mine.ensures.exact
    (search rules)

pub has_other_length-other-requires-clause-first : goal.has_other_length-other-requires-clause-first
has_other_length-other-requires-clause-first c =
    (first_match c.args.recce.now c.args.parts.now c.args.joined.now c.requires.joined c.args.symbol c.args.item c.requires.part c.joined_of-mine.result.now c.joined_of-mine.ensures.sorted c.joined_of-mine.ensures.exact (search rules)).below

pub has_other_length-other-requires-clause-parts : goal.has_other_length-other-requires-clause-parts
has_other_length-other-requires-clause-parts c j h =
    (match_of c.args.recce.now c.args.parts.now c.args.joined.now c.requires.joined c.args.symbol c.args.item c.requires.part c.joined_of-mine.result.now c.joined_of-mine.ensures.sorted c.joined_of-mine.ensures.exact j h).0

pub returns-clause-some : goal.returns-clause-some
returns-clause-some c =
    let some : 0 < length c.joined_of-mine.result.now = search rules in
    let is = first_match c.args.recce.now c.args.parts.now c.args.joined.now c.requires.joined c.args.symbol c.args.item c.requires.part c.joined_of-mine.result.now c.joined_of-mine.ensures.sorted c.joined_of-mine.ensures.exact some in
    let other = other_start c.args.recce.now c.args.parts.now c.args.joined.now c.requires.joined c.args.symbol c.args.item c.requires.part c.joined_of-mine.result.now c.joined_of-mine.ensures.sorted c.joined_of-mine.ensures.exact some in
    (is, (λ t. other.0 (c.has_other_length-other.ensures.0 t), λ h. c.has_other_length-other.ensures.1 (other.1 h)))
