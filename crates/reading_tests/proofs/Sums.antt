-- The grammar of sums is a simple one.
use Rattle.std.proofs.Common.{◌≡◌, ◌≢◌, ℕ, zero, suc, ◌<◌, ◌≤◌, List, [], ◌∷◌, false, pos, length, refl, sym, ap, subst, lit≤, arith, inl, inr}
use Rattle.grammar_model.specs.Grammar.{Grammar, WrittenRule, Plain, IsTerminal}
use Rattle.grammar_model.specs.declared.Assoc.TheVariants.{Left}
use Rattle.grammar_model.specs.Simple.{IsSimple}

abbrev plain : ℕ → List ℕ → WrittenRule
plain lhs rhs = Plain (record { lhs = lhs; rhs = rhs; level = 0; groups = 1; assoc = Left; rank = pos 0; null_high = false })

abbrev pub sum_rules : (e plus one : ℕ) → List WrittenRule
sum_rules e plus one = plain e (e ∷ plus ∷ e ∷ []) ∷ plain e (one ∷ []) ∷ []

abbrev with : Grammar → List WrittenRule → Grammar
with g rules = record { names = g.names; rules = rules; starts = g.starts }

terminal : (g : Grammar) (e plus one : ℕ) → one ≢ e → IsTerminal (with g (sum_rules e plus one)) one
terminal g e plus one other zero lt is = other (sym is)
terminal g e plus one other (suc zero) lt is = other (sym is)
terminal g e plus one other (suc (suc i)) lt is = absurd (omega (arith, lt))

simple_with : (g : Grammar) (e plus one : ℕ) → one ≢ e → IsSimple (with g (sum_rules e plus one))
simple_with g e plus one other zero lt = (refl, refl, inr (lit≤ tt))
simple_with g e plus one other (suc zero) lt = (refl, refl, inl (refl, terminal g e plus one other))
simple_with g e plus one other (suc (suc i)) lt = absurd (omega (arith, lt))

pub sums_are_simple : (g : Grammar) (e plus one : ℕ) → one ≢ e → g.rules ≡ sum_rules e plus one → IsSimple g
sums_are_simple g e plus one other are = subst IsSimple (sym (ap (with g) are)) (simple_with g e plus one other)
