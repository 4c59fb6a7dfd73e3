use Rattle.std.proofs.Common.{◌≡◌, slice_get, subst, Some}
use Rattle.lexer.proofs.lexer.start_of.Goals as goal

pub returns-in-Top : goal.returns-in-Top
returns-in-Top c = λ k.
    let at = c.in-Top.ensures in (
      (λ e. let is = (c.known.ensures.flat.tops k c.args.rule e).source in cc),
      (λ same.
          let (j, top) = c.requires.top in
          let is = (c.known.ensures.flat.tops j c.args.rule top).source in
          let here : j ≡ k = cc in
          subst (λ z. slice_get c.args.flat.now.tops z ≡ Some c.args.rule) here top),
    )

pub returns-in-Written : goal.returns-in-Written
returns-in-Written c = λ k. let at = c.in-Written.ensures in ((λ e. let is = (c.known.ensures.flat.tops k c.args.rule e).source in absurd (cc)), (λ same. absurd (cc)))
