-- What flat rules come from, and even numbers.
use Rattle.std.proofs.Common.{◌≡◌, ℕ, zero, suc, ◌%◌, Bool, true, false, cond, length, slice_get, Some, nat_eq, refl, sym, ◌∙◌, ap, arith}
use Rattle.std.specs.Prelude.{not}
use Rattle.finite_sets.proofs.Lists.{got_at}
use Rattle.grammar_model.specs.Grammar.{Grammar, is_even, rule_at, no_rule, WrittenRule}
use Rattle.recognizer_model.specs.declared.flat.FlatSource.{FlatSource}
use Rattle.recognizer_model.specs.declared.flat.FlatSource.TheVariants.{Written}
use Rattle.recognizer_model.specs.declared.flat.FlatSymbol.{FlatSymbol}
use Rattle.recognizer_model.specs.declared.flat.FlatSymbol.TheVariants.{Terminal, Slot, Sequence, Top}
use Rattle.grammar_model.specs.declared.id.RuleId.{RuleId}
use Rattle.recognizer_model.specs.Flat.{FlatGrammar, lhs_of, rhs_of}
use Rattle.recognizer_model.specs.FlatForm.{source_number, symbol_at, is_list, list_length}

pub even_mod : (n : ℕ) → nat_eq (n % 2) 0 ≡ is_even n
even_mod zero = refl
even_mod (suc zero) = refl
even_mod (suc (suc n)) =
    let e : suc (suc n) % 2 ≡ n % 2 = omega arith in
    ap (λ k. nat_eq k 0) e ∙ even_mod n ∙ twice (is_even n)
  where
    twice : (b : Bool) → b ≡ not (not b)
    twice true = refl
    twice false = refl

pub rule_is : (w : Grammar) (s : FlatSource) (i : ℕ) (rule : WrittenRule) → s ≡ Written i → slice_get w.rules i ≡ Some rule → rule ≡ rule_at w (source_number w s)
rule_is w s i rule same at = sym (got_at w.rules i rule no_rule (sym at)).1 ∙ ap (λ z. rule_at w (source_number w z)) (sym same)

-- the length of a list's rule goes by the symbol on its left side
pub length_by : (g : FlatGrammar) (r x : ℕ) (s : FlatSymbol) → x ≡ lhs_of g r → slice_get g.symbols x ≡ Some s → cond (is_list s) (length (rhs_of g r)) 0 ≡ list_length g r
length_by g r x s same at = ap (λ z. cond (is_list z) (length (rhs_of g r)) 0) (sym (ap (symbol_at g) (sym same) ∙ (got_at g.symbols x s (Top 0) (sym at)).1))

-- and no other rule has one
pub no_length : (g : FlatGrammar) (r x : ℕ) (s : FlatSymbol) → x ≡ lhs_of g r → slice_get g.symbols x ≡ Some s → ((i : RuleId) → ¬ (s ≡ Sequence i)) → 0 ≡ list_length g r
no_length g r x s same at other = no_list s other ∙ length_by g r x s same at
  where
    no_list : (s : FlatSymbol) → ((i : RuleId) → ¬ (s ≡ Sequence i)) → 0 ≡ cond (is_list s) (length (rhs_of g r)) 0
    no_list (Terminal t) never = refl
    no_list (Slot symbol level) never = refl
    no_list (Sequence i) never = absurd (never i refl)
    no_list (Top k) never = refl
