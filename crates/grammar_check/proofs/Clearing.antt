-- What a grammar has passed excludes the earlier faults.
use Rattle.std.proofs.Common.{arith, ◌≡◌, ℕ, ◌<◌, ◌≤◌, length, Option, None, refl, sym, ◌∙◌, subst}
use Rattle.grammar_model.specs.Grammar.{Grammar}
use Rattle.grammar_model.specs.Checked.{IsFirstStart, StartsAreLeft, SequencesAreAlone, RulesDiffer, ItemsSpan, StartsAreProductive, Refusal, NoRules, NoStart, StartNotLhs, SequenceLhs, Duplicate, CountedNullable, UnproductiveStart, Cyclic, IsFault, kind_of}
use Rattle.grammar_core.specs.Written.{IsWritten}
use Rattle.grammar_core.proofs.Known.{lhs_known}
use Rattle.std.specs.Option.{IsNone}
use Rattle.finite_sets.proofs.Lists.{get_item}

pub clear : (g : Grammar) (k : ℕ) → k ≤ 8 → (1 < k → 0 < length g.rules) → (2 < k → 0 < length g.starts) → (3 < k → StartsAreLeft g) → (4 < k → SequencesAreAlone g) → (5 < k → RulesDiffer g) → (6 < k → ItemsSpan g) →
    (7 < k → StartsAreProductive g) → (other : Refusal) → kind_of other < k → IsFault g other → ⊥
clear g k le rules starts left alone differ span productive NoRules lt f = let h = rules lt in omega (arith, h, f)
clear g k le rules starts left alone differ span productive NoStart lt f = let h = starts lt in omega (arith, h, f)
clear g k le rules starts left alone differ span productive (StartNotLhs symbol) lt (i, e, none, first) = none (left lt symbol (get_item g.starts i symbol e))
clear g k le rules starts left alone differ span productive (SequenceLhs symbol) lt ((i, j, r, il, jl, ne, is, a, b), least) = ne (alone lt i j il jl r is (b ∙ sym a))
clear g k le rules starts left alone differ span productive (Duplicate rule) lt (small, (dup, least)) = differ lt rule small dup
clear g k le rules starts left alone differ span productive (CountedNullable rule) lt (small, (h, least)) = span lt rule small h
clear g k le rules starts left alone differ span productive (UnproductiveStart symbol) lt (i, e, none, first) = none (productive lt symbol (get_item g.starts i symbol e))
clear g k le rules starts left alone differ span productive (Cyclic cycle) lt f = omega (arith, le, lt)

-- a look-up's two clauses, where it told nothing and where it told something
pub none_told : {X : Type 0} (r : Option X) (P : Type 0) → r ≡ None → (IsNone r → P) → P
none_told r P e h = (subst (λ r. IsNone r → P) e h) refl

pub no_fault_at : (k n : ℕ) (P : Type 0) → k ≡ n → n < k → P
no_fault_at k n P e lt = absurd (omega (arith, e, lt))

pub start_of : (g : Grammar) (P : ℕ → Type 0) (s : ℕ) → IsWritten g → IsFirstStart g P s → s < length g.names
start_of g P s w (k, e, p, first) = let (j, jl, is) = get_item g.starts k s e in subst (λ s. s < length g.names) is (w.starts_known j s jl)

pub shared_of : (g : Grammar) (s : ℕ) → IsWritten g → IsFault g (SequenceLhs s) → s < length g.names
shared_of g s w ((i, j, r, il, jl, ne, is, a, b), least) = subst (λ s. s < length g.names) b (lhs_known g j w jl)
