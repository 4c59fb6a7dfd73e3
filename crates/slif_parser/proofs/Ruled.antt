-- The symbols of a rule of a grammar, and its text.
use Rattle.std.proofs.Common.{◌≡◌, ℕ, suc, ◌<◌, ◌∷◌, All, length, Option, Some, None, ap, ◌∙◌, subst, arith}
use Rattle.std.specs.Prelude.{IfSome, slice_get}
use Rattle.std.specs.Option.{option_to_list}
use Rattle.std.proofs.lemmas.Option.{get_or_from_slice_get}
use Rattle.grammar_model.specs.Grammar.{Grammar, PlainRule, SequenceRule, WrittenRule, Plain, Sequence, no_rule, rule_at}
use Rattle.grammar_core.specs.Written.{IsWritten, symbols_of}
use Rattle.slif_parser.specs.Rules.{plain_text, rule_text, sequence_text}

separator_known : (P : ℕ → Type 0) (l i : ℕ) (o : Option ℕ) → All P (l ∷ i ∷ option_to_list o) → IfSome o P
separator_known P l i None all = tt
separator_known P l i (Some s) all = all 2 0 (omega arith)

module _ (g : Grammar) (written : IsWritten g) (i : ℕ) (lt : i < length g.rules) (w : WrittenRule) (at : slice_get g.rules i ≡ Some w) where
  is_rule : rule_at g i ≡ w
  is_rule = get_or_from_slice_get g.rules i w no_rule at

  abbrev Known : ℕ → Type 0
  Known s = s < length g.names

  all_known : All Known (symbols_of w)
  all_known = subst (λ (x : WrittenRule). All Known (symbols_of x)) is_rule (written.rules_known i lt).0

  pub plain_known : (r : PlainRule) → w ≡ Plain r → Known r.lhs × All Known r.rhs
  plain_known r e =
      let all = subst (λ (x : WrittenRule). All Known (symbols_of x)) e all_known in
      (all 0 0 (omega arith), λ k d less. all (suc k) d (omega (arith, less)))

  pub sequence_known : (r : SequenceRule) → w ≡ Sequence r → Known r.lhs × Known r.item × IfSome r.separator Known
  sequence_known r e =
      let all = subst (λ (x : WrittenRule). All Known (symbols_of x)) e all_known in
      (all 0 0 (omega arith), all 1 0 (omega arith), separator_known Known r.lhs r.item r.separator all)

  pub plain_told : (r : PlainRule) → w ≡ Plain r → rule_text g (rule_at g i) ≡ plain_text g r
  plain_told r e = ap (rule_text g) (is_rule ∙ e)

  pub sequence_told : (r : SequenceRule) → w ≡ Sequence r → rule_text g (rule_at g i) ≡ sequence_text g r
  sequence_told r e = ap (rule_text g) (is_rule ∙ e)
