-- Grammars are accepted, or have one fault.
use Rattle.std.proofs.Common.{◌≡◌, ℕ, ◌≤◌, true, false, ◌⊎◌, inl, inr, refl, ap, arith, length}
use Rattle.std.proofs.lemmas.Bool.{cases_lt}
use Rattle.grammar_model.specs.Grammar.{Grammar}
use Rattle.grammar_model.specs.Checked.{IsChecked, Refusal, Refuses}
use Rattle.grammar_model.specs.declared.limits.TheConstants.{MOST_FLAT_RULES}
use Rattle.recognizer_model.specs.Counts.{IsCountOf}
use Rattle.recognizer_model.specs.FlatForm.{IsRuleOf}
use Rattle.language_model.specs.Building.{Built}
use Rattle.reading_model.specs.Accepted.{IsLexical, HasFewRules, HasTooManyRules, AreChecked, IsAccepted, GrammarFault, Structural, Lexical, TooManyRules, HasGrammarFault}
use Rattle.reading_model.specs.Laws.{AcceptedHaveNoFault, GrammarFaultIsOne}
use Rattle.recognizer_model.proofs.Counting.{one_count}

-- what is needed of checks: a grammar passes, or is refused in one way, and its flat rules have a count
pub record CheckLaws : Type 0 where
  pub decided : (g : Grammar) → IsChecked g ⊎ ((r : Refusal) × Refuses g r)
  pub not_both : (g : Grammar) (r : Refusal) → IsChecked g → Refuses g r → ⊥
  pub one_refusal : (g : Grammar) (r s : Refusal) → Refuses g r → Refuses g s → r ≡ s
  pub counted : (g : Grammar) → (n : ℕ) × IsCountOf (IsRuleOf g) n

few_or_many : (g : Grammar) → HasFewRules g → HasTooManyRules g → ⊥
few_or_many g few many = let same = one_count (IsRuleOf g) few.count many.count few.counted many.counted in omega (arith, same, few.few, many.many)

module _ (laws : CheckLaws) where
  pub no_fault : AcceptedHaveNoFault
  no_fault b (Structural r) accepted fault = laws.not_both b.g1 r accepted.checked.structural fault
  no_fault b (Lexical r) accepted fault = laws.not_both b.l0 r (accepted.checked.lexical fault.1) fault.2
  no_fault b (TooManyRules false) accepted fault = few_or_many b.g1 accepted.structural fault.1
  no_fault b (TooManyRules true) accepted fault = few_or_many b.l0 (accepted.lexical fault.2) fault.3

  pub one_fault : GrammarFaultIsOne
  one_fault b (Structural r) (Structural s) x y = ap Structural (laws.one_refusal b.g1 r s x y)
  one_fault b (Structural r) (Lexical s) x y = absurd (laws.not_both b.g1 r y.0 x)
  one_fault b (Structural r) (TooManyRules false) x y = absurd (laws.not_both b.g1 r y.0.structural x)
  one_fault b (Structural r) (TooManyRules true) x y = absurd (laws.not_both b.g1 r y.0.structural x)
  one_fault b (Lexical r) (Structural s) x y = absurd (laws.not_both b.g1 s x.0 y)
  one_fault b (Lexical r) (Lexical s) x y = ap Lexical (laws.one_refusal b.l0 r s x.2 y.2)
  one_fault b (Lexical r) (TooManyRules false) x y = absurd (laws.not_both b.l0 r (y.0.lexical x.1) x.2)
  one_fault b (Lexical r) (TooManyRules true) x y = absurd (laws.not_both b.l0 r (y.0.lexical x.1) x.2)
  one_fault b (TooManyRules false) (Structural s) x y = absurd (laws.not_both b.g1 s x.0.structural y)
  one_fault b (TooManyRules true) (Structural s) x y = absurd (laws.not_both b.g1 s x.0.structural y)
  one_fault b (TooManyRules false) (Lexical s) x y = absurd (laws.not_both b.l0 s (x.0.lexical y.1) y.2)
  one_fault b (TooManyRules true) (Lexical s) x y = absurd (laws.not_both b.l0 s (x.0.lexical y.1) y.2)
  one_fault b (TooManyRules false) (TooManyRules false) x y = refl
  one_fault b (TooManyRules false) (TooManyRules true) x y = absurd (few_or_many b.g1 y.1 x.1)
  one_fault b (TooManyRules true) (TooManyRules false) x y = absurd (few_or_many b.g1 x.1 y.1)
  one_fault b (TooManyRules true) (TooManyRules true) x y = refl

  few_or_not : (g : Grammar) → HasFewRules g ⊎ HasTooManyRules g
  few_or_not g =
      let (n, counted) = laws.counted g in
      elim (cases_lt MOST_FLAT_RULES n) [
        | inl many ↦ inr (record { count = n; counted = counted; many = many })
        | inr few ↦ inl (record { count = n; counted = counted; few = few })
      ]

  abbrev Judged : Built → Type 0
  Judged b = IsAccepted b ⊎ ((fault : GrammarFault) × HasGrammarFault b fault)

  module _ (b : Built) where
    by_rules : AreChecked b → (IsLexical b ⊎ (length b.l0.starts ≤ 0)) → Judged b
    by_rules checked is_lexical = elim (few_or_not b.g1) [ inr many ↦ inr (TooManyRules false, (checked, many)) | inl few ↦ of_lexical few is_lexical ]
      where
        of_lexical : HasFewRules b.g1 → (IsLexical b ⊎ (length b.l0.starts ≤ 0)) → Judged b
        of_lexical few (inr none) = inl (record { checked = checked; structural = few; lexical = λ some. absurd (omega (arith, none, some)) })
        of_lexical few (inl some) = elim (few_or_not b.l0) [
          | inr many ↦ inr (TooManyRules true, (checked, few, some, many))
          | inl less ↦ inl (record { checked = checked; structural = few; lexical = λ _. less })
        ]

    by_lexical : IsChecked b.g1 → (IsLexical b ⊎ (length b.l0.starts ≤ 0)) → Judged b
    by_lexical structural (inr none) = by_rules (record { structural = structural; lexical = λ some. absurd (omega (arith, none, some)) }) (inr none)
    by_lexical structural (inl some) = elim (laws.decided b.l0) [
      | inr refused ↦ inr (Lexical refused.0, (structural, some, refused.1))
      | inl lexical ↦ by_rules (record { structural = structural; lexical = λ _. lexical }) (inl some)
    ]

    pub accepted_or_fault : Judged b
    accepted_or_fault = elim (laws.decided b.g1) [
      | inr refused ↦ inr (Structural refused.0, refused.1)
      | inl structural ↦ by_lexical structural (cases_lt 0 (length b.l0.starts))
    ]
