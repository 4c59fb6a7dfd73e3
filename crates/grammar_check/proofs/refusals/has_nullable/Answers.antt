use Rattle.std.proofs.Common.{sym, ◌∙◌, ap, subst, true≢false, inl, inr}
use Rattle.grammar_model.specs.Grammar.{slot_of}
use Rattle.grammar_model.specs.Analysis.{IsNullable}
use Rattle.grammar_check.proofs.Faults.{has_either}
use Rattle.grammar_check.proofs.refusals.has_nullable.Goals as goal

pub returns-else-nullable : goal.returns-else-nullable
returns-else-nullable c =
    let both = has_either c.args.analysis.now c.args.rule.now c.in-Some.s (sym (ap (λ r. r.separator) c.rule.view_is) ∙ c.in-Some.is) in (
      λ t. both.0 (inr (c.nullable-else-nullable.ensures.0 t)),
      λ h. elim (both.1 h) [
        | inl i ↦ absurd (true≢false (sym (c.nullable.ensures.1 (subst (λ s. IsNullable c.args.analysis.now (slot_of s)) (sym (ap (λ r. r.item) c.rule.view_is)) i)) ∙ c.if-nullable.false))
        | inr i ↦ c.nullable-else-nullable.ensures.1 i
      ],
    )
