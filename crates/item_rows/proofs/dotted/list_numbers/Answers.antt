use Rattle.std.proofs.Common.{◌∷◌, [], ◌∙◌, ap, length, length-append, arith}
use Rattle.std.proofs.lemmas.Option.{slice_get-get_or, slice_get_within}
use Rattle.item_rows.specs.Dotted.{no_item}
use Rattle.item_rows.proofs.Listed.{numbers_more}
use Rattle.item_rows.proofs.dotted.list_numbers.Goals as goal

pub loop-item-preserved : goal.loop-item-preserved
loop-item-preserved c =
    let grown = ap length c.in_ok-push-in-Some.ensures.items ∙ length-append c.loop-item.numbers.items (c.in-Some.number ∷ []) in
    let long = c.loop-item.invariant.size in
    record {
      size = omega (arith, grown, long);
      are = numbers_more c.args.listed.now c.args.rules.now c.loop-item.numbers.items c.loop-item.item-index _ c.in-Some.number c.push.new.self.items long c.loop-item.invariant.are
          (slice_get-get_or c.args.listed.now c.loop-item.item-index no_item c.loop-item-test.true) c.in-Some.ensures.some c.in_ok-push-in-Some.ensures.items;
    }

pub returns : goal.returns
returns c k item e =
    let within = slice_get_within c.args.listed.now k item e in
    let done = c.loop-item-test.false in
    c.loop-item.invariant.are k item (omega (arith, within, done)) e
