-- What symbols can do, listed one by one.
use Rattle.std.proofs.Common.{◌≡◌, ℕ, zero, suc, ◌+◌, List, [], ◌∷◌, ◌++◌, length, length-append, Some, sym, ap, ◌∙◌, subst, arith}
use Rattle.std.specs.Prelude.{slice_get}
use Rattle.grammar_model.specs.Grammar.{Grammar}
use Rattle.prepared_grammars.specs.declared.abilities.Ability.{Ability}
use Rattle.prepared_grammars.specs.Abilities.{IsAbility, AreAbilitiesOf}

-- the abilities of symbols from k on
abbrev AreFrom : Grammar → ℕ → List Ability → Type 0
AreFrom g k abilities = (s : ℕ) (a : Ability) → slice_get abilities s ≡ Some a → IsAbility g (k + s) a

one_more : (g : Grammar) (k : ℕ) (xs : List Ability) (a : Ability) → AreFrom g k xs → IsAbility g (k + length xs) a → AreFrom g k (xs ++ a ∷ [])
one_more g k [] a all last zero b e = let same : a ≡ b = cc in subst (IsAbility g (k + 0)) same last
one_more g k [] a all last (suc s) b e = cc
one_more g k (x ∷ xs) a all last zero b e = all zero b e
one_more g k (x ∷ xs) a all last (suc s) b e =
    let rest : AreFrom g (suc k) xs = (λ t c f. subst (λ n. IsAbility g n c) (omega arith) (all (suc t) c f)) in
    let more = one_more g (suc k) xs a rest (subst (λ n. IsAbility g n a) (omega arith) last) s b e in
    subst (λ n. IsAbility g n b) (omega arith) more

pub pushed : (g : Grammar) (n : ℕ) (xs ys : List Ability) (a : Ability) → AreAbilitiesOf g n xs → IsAbility g n a → ys ≡ xs ++ a ∷ [] → AreAbilitiesOf g (n + 1) ys
pushed g n xs ys a (count, all) is e =
    let here : IsAbility g (0 + length xs) a = subst (λ k. IsAbility g k a) (omega (arith, count)) is in
    let before : AreFrom g 0 xs = (λ s b f. subst (λ k. IsAbility g k b) (omega arith) (all s b f)) in
    let more = one_more g 0 xs a before here in (
      omega (arith, ap length e, length-append xs (a ∷ []), count),
      λ s b f. subst (λ k. IsAbility g k b) (omega arith) (more s b (ap (λ zs. slice_get zs s) (sym e) ∙ f)),
    )
