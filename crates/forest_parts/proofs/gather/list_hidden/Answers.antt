use Rattle.std.proofs.Common.{List, length, refl, ap, arith}
use Rattle.recognizer_model.specs.declared.Item.{Item}
use Rattle.forest_parts.proofs.gather.list_hidden.Goals as goal

pub returns-in_err-expanded-clause-counted : goal.returns-in_err-expanded-clause-counted
returns-in_err-expanded-clause-counted g c =
    (length c.in_ok-hidden.hidden.items, (c.in_ok-hidden.hidden.items, c.in_ok-hidden.ensures.hidden.once, (λ x h. (c.in_ok-hidden.ensures.hidden.exact x).0 h), refl), c.in_ok-hidden.ensures.counted)

pub returns-clause-expanded : goal.returns-clause-expanded
returns-clause-expanded g c =
    let e = c.in_ok-expanded.ensures.ok in
    let l = ap (λ (l : List Item). length l) c.as_slice.ensures.value in
    (length c.in_ok-hidden.hidden.items, (c.in_ok-hidden.hidden.items, c.in_ok-hidden.ensures.hidden, refl), omega arith)

pub returns-clause-counted : goal.returns-clause-counted
returns-clause-counted g c =
    (length c.in_ok-hidden.hidden.items, (c.in_ok-hidden.hidden.items, c.in_ok-hidden.ensures.hidden.once, (λ x h. (c.in_ok-hidden.ensures.hidden.exact x).0 h), refl), c.in_ok-hidden.ensures.counted)
