use Rattle.std.proofs.Common.{◌<◌, [], ◌∷◌, ◌++◌, map, length, sym, ap, ◌∙◌, arith}
use Rattle.std.specs.Prelude.{string_bytes}
use Rattle.std.proofs.lemmas.List.{map-append, take_more}
use Rattle.std.proofs.lemmas.Option.{get_or_from_slice_get}
use Rattle.plain_lister.proofs.names_of.Goals as goal

pub loop-i-preserved : goal.loop-i-preserved
loop-i-preserved c =
    let names = c.args.w.now.names in
    let i = c.loop-i.i in
    let lt : i < length names = omega (arith, c.symbol_count-i-end.ensures.count) in
    let got = get_or_from_slice_get names i c.name.result.now [] c.name.ensures in
    ap (map string_bytes) c.in_ok-push.ensures.items ∙ map-append string_bytes c.loop-i.names.items (c.in_ok-from_str.field-0 ∷ [])
    ∙ (λ z. c.loop-i.invariant z ++ (c.in_ok-from_str.ensures.ok ∙ sym got) z ∷ []) ∙ sym (take_more names i [] lt)
