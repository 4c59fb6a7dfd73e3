use Rattle.std.proofs.Common.{◌≡◌, ℕ, suc, ◌<◌, List, [], ◌∷◌, ◌++◌, length, ap, sym, subst, arith, length-append}
use Rattle.std.proofs.lemmas.List.Elements.{All-push}
use Rattle.grammar_model.specs.Values.{Value}
use Rattle.value_text.specs.Pool.{AreIds, IsPut}
use Rattle.bench_drivers.proofs.values.put_numbers.Goals as goal

more_ids : (old new : List Value) (ids ids' : List ℕ) (id : ℕ) (v : Value) → AreIds old ids → IsPut old new id v → ids' ≡ ids ++ id ∷ [] → AreIds new ids'
more_ids old new ids ids' id v all put e =
    let longer : length new ≡ suc (length old) = omega (arith, ap length put.values, length-append old (v ∷ [])) in
    subst (AreIds new) (sym e) (All-push (λ k. k < length new) ids id (λ k d b. (let h = all k d b in omega (arith, h, longer))) (let p = put.place in omega (arith, p, longer)))

pub loop-n-preserved : goal.loop-n-preserved
loop-n-preserved c = more_ids _ _ _ _ _ _ c.loop-n.invariant c.in_ok-id.ensures.ok c.in_ok-push.ensures.items
