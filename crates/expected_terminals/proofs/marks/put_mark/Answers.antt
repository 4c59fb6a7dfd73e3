use Rattle.std.proofs.Common.{arith, inl, inr, sym, subst, Contains}
use Rattle.expected_terminals.specs.Marks.{AreMarked}
use Rattle.expected_terminals.proofs.Marking.{listed_is, room_for, marked_more, listed_more}
use Rattle.expected_terminals.proofs.marks.put_mark.Goals as goal

pub push_reserved-requires : goal.push_reserved-requires
push_reserved-requires c =
    let are = c.requires.marked in
    let is = listed_is c.args.flat.now c.known.ensures.flat c.args.symbol c.args.t c.args.mark c.requires.symbol c.args.marks.now.rows.items c.args.marks.now.listed.items are c.requires.room.all c.index.result.now c.index.result.now c.index.ensures in
    let few = room_for c.args.flat.now c.known.ensures.flat c.args.symbol c.args.t c.args.mark c.requires.symbol c.args.marks.now.rows.items c.args.marks.now.listed.items are c.requires.room.all (λ h. c.if-index-mark.true (is.1 h)) in
    let room = c.requires.room.room in
    let long = c.args.marks.now.listed.ok.0 in
    omega (arith, few, room, long)

pub returns-then-index-mark-clause-marked : goal.returns-then-index-mark-clause-marked
returns-then-index-mark-clause-marked c =
    let are = c.requires.marked in
    let is = listed_is c.args.flat.now c.known.ensures.flat c.args.symbol c.args.t c.args.mark c.requires.symbol c.args.marks.now.rows.items c.args.marks.now.listed.items are c.requires.room.all c.index.result.now c.index.result.now c.index.ensures in
    subst (AreMarked c.args.flat.now c.args.mark _) (sym c.push_reserved.ensures.items)
    (marked_more c.args.flat.now c.known.ensures.flat c.args.symbol c.args.t c.args.mark c.requires.symbol c.args.marks.now.rows.items c.args.marks.now.listed.items are c.requires.room.all (λ h. c.if-index-mark.true (is.1 h)))

pub returns-then-index-mark-clause-listed : goal.returns-then-index-mark-clause-listed
returns-then-index-mark-clause-listed c = listed_more c.args.marks.now.listed.items c.push_reserved.new.self.items c.args.t c.push_reserved.ensures.items

pub returns-else-index-mark-clause-listed : goal.returns-else-index-mark-clause-listed
returns-else-index-mark-clause-listed c = λ s. (
  inl,
  λ h. elim h [
    | inl o ↦ o
    | inr e ↦ subst (Contains c.args.marks.now.listed.items) e
        ((listed_is c.args.flat.now c.known.ensures.flat c.args.symbol c.args.t c.args.mark c.requires.symbol c.args.marks.now.rows.items c.args.marks.now.listed.items c.requires.marked c.requires.room.all c.index.result.now c.index.result.now c.index.ensures).0 c.if-index-mark.false)
  ],
)
