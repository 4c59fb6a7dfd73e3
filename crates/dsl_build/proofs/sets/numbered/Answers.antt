use Rattle.std.proofs.Common.{◌≡◌, arith, ◌∙◌, ap, ◌+◌, ◌++◌, [], ◌∷◌, length, reverse}
use Rattle.std.proofs.lemmas.List.{length-append}
use Rattle.language_model.specs.Building.{numbered_from}
use Rattle.dsl_build.proofs.NumberedLemmas.{numbered_on}
use Rattle.dsl_build.proofs.sets.numbered.Goals as goal

pub loop-set-preserved : goal.loop-set-preserved
loop-set-preserved c =
    let first = c.args.first in
    let rest = c.pop.new.self.items in
    let number : first + c.len.result ≡ first + length rest = omega (arith, c.len.ensures, c.pop.new.self.ok) in
    let long : length c.loop-set.sets.items ≡ length rest + 1 = ap length c.in-Some.ensures.items ∙ length-append rest (c.in-Some.set ∷ []) in
    record {
      items = ap (λ ps. numbered_from first rest ++ reverse ps) c.in_ok-push.ensures.items
          ∙ numbered_on first (first + c.len.result) c.loop-set.sets.items rest c.in-Some.set c.loop-set.numbered.items c.in-Some.ensures.items number ∙ c.loop-set.invariant.items;
      within = omega (arith, long, c.loop-set.invariant.within);
    }
