use Rattle.std.proofs.Common.{ap, Some, None}
use Rattle.flat_rules.specs.Tables.{Numbering}
use Rattle.flat_rules.proofs.Listing.{place_told}
use Rattle.flat_rules.proofs.numbering.Symbols.slot_number.Goals as goal

pub returns-in-Some : goal.returns-in-Some
returns-in-Some c =
    place_told c.self.inside.slots.keys c.args.self.now.slots c.args.symbol c.args.level (Some c.in-Some.place) (ap (λ (t : Numbering). t.slots) c.self.view_is) c.in-Some.ensures.index

pub returns-in-None : goal.returns-in-None
returns-in-None c = place_told c.self.inside.slots.keys c.args.self.now.slots c.args.symbol c.args.level None (ap (λ (t : Numbering). t.slots) c.self.view_is) c.in-None.ensures.index
