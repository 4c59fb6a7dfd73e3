use Rattle.std.proofs.Common.{◌≡◌, ◌+◌, arith, sym, ◌∙◌, ap, length, drop, get_or}
use Rattle.std.specs.Str.{chars}
use Rattle.std.proofs.lemmas.List.{drop_all, drop_more}
use Rattle.dsl_faults.proofs.Counting.{count_behind, count_none, count_ends, count_goes_on}
use Rattle.dsl_faults.proofs.quotes.character_count.Goals as goal
use Rattle.dsl_faults.proofs.quotes.character_count.Goals.{then-rest-eq0, else-rest-eq0}

pub loop-byte-preserved : goal.loop-byte-preserved
loop-byte-preserved c =
    let text = c.args.text.now in
    let i = c.loop-byte.byte-index in
    let count = c.loop-byte.count in
    let rest = c.bytes_after-rest.result in
    let here = ap (λ bs. count + count_behind c.loop-byte.rest bs) (sym (drop_more text i 0 (omega arith))) ∙ c.loop-byte.invariant.counted in
    let n = c.loop-byte.rest in
    let b = get_or text i 0 in
    let bs = drop (i + 1) text in
    elim c.if-rest-eq0.branch [
      | then-rest-eq0 w ↦ record {
        counted = let e = count_ends n b rest count bs (length (chars text)) c.bytes_after-rest.ensures w.if-rest-eq0.true here in omega (arith, w.count-is, e);
        within = omega (arith, w.count-is, c.loop-byte.invariant.within);
      }
      | else-rest-eq0 w ↦ record {
        counted = let e = count_goes_on n b rest count bs (length (chars text)) c.bytes_after-rest.ensures (λ (z : rest ≡ 0). w.if-rest-eq0.false z) here in omega (arith, w.count-is, e);
        within = omega (arith, w.count-is, c.loop-byte.invariant.within);
      }
    ]

pub returns : goal.returns
returns c =
    let none = ap (count_behind c.loop-byte.rest) (drop_all c.loop-byte.byte-index c.args.text.now (omega arith)) ∙ count_none c.loop-byte.rest in
    omega (arith, c.loop-byte.invariant.counted, none)
