-- What flat rules come from.
use Rattle.std.proofs.Common.{◌≡◌, ℕ, zero, suc, ◌<◌, List, [], ◌∷◌, length, Some, subst, arith}
use Rattle.std.specs.Prelude.{slice_get, slice_index_or}
use Rattle.std.proofs.lemmas.List.Elements.{Contains-get_or}
use Rattle.grammar_model.specs.Grammar.{Grammar}
use Rattle.recognizer_model.specs.declared.flat.FlatSource.TheVariants.{Written}
use Rattle.recognizer_model.specs.Flat.{FlatGrammar, FlatRule, IsRule, source_of, no_rule}
use Rattle.recognizer_model.specs.FlatForm.{IsFlatOf, IsRuleOf, NamedRule, OfPlain, OfList, OfTrailing, OfItem, OfItems, OfSeparated, OfTop, named}
use Rattle.finite_sets.proofs.Lists.{Contains-map}

within : (w : Grammar) (n : NamedRule) (i : ℕ) → IsRuleOf w n → n.source ≡ Written i → i < length w.rules
within w n i (OfPlain j s k r right lt a b c d e f g) same = let q : j ≡ i = cc in subst (λ z. z < length w.rules) q lt
within w n i (OfList j r is a) same = let q : j ≡ i = cc in subst (λ z. z < length w.rules) q is.1
within w n i (OfTrailing j separator r c' is a b c d e) same = let q : j ≡ i = cc in subst (λ z. z < length w.rules) q is.1
within w n i (OfItem j r b' is a c) same = let q : j ≡ i = cc in subst (λ z. z < length w.rules) q is.1
within w n i (OfItems j r b' is a c d) same = let q : j ≡ i = cc in subst (λ z. z < length w.rules) q is.1
within w n i (OfSeparated j separator r b' c' is a c d e f) same = let q : j ≡ i = cc in subst (λ z. z < length w.rules) q is.1
within w n i (OfTop k start s a b) same = absurd (cc)

-- a flat rule comes from a rule that the written grammar has
pub source_within : (f : FlatGrammar) (w : Grammar) (r i : ℕ) → IsFlatOf f w → IsRule f r → source_of f r ≡ Written i → i < length w.rules
source_within f w r i flat rule same =
    let rule' = slice_index_or f.rules r no_rule in
    within w (named f rule') i ((flat.rules.exact (named f rule')).0 (Contains-map (named f) f.rules rule' (Contains-get_or f.rules r no_rule rule))) same

-- a rule with a part is there
pub rule_there : (rules : List FlatRule) (r d x : ℕ) → slice_get (slice_index_or rules r no_rule).rhs d ≡ Some x → r < length rules
rule_there [] r d x e = absurd (cc)
rule_there (y ∷ ys) zero d x e = omega arith
rule_there (y ∷ ys) (suc r) d x e = let h = rule_there ys r d x e in omega arith
