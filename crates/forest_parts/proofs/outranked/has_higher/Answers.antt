use Rattle.std.proofs.Common.{◌≡◌, ◌∙◌, sym, subst}
use Rattle.recognizer_model.specs.Flat.{FlatGrammar, IsRule, lhs_of}
use Rattle.forest_parts.proofs.outranked.has_higher.Goals as goal

pub is_one_higher-requires-clause-rules : goal.is_one_higher-requires-clause-rules
is_one_higher-requires-clause-rules c r le lt = subst (λ (g : FlatGrammar). IsRule g r) c.flat-flat.ensures ((c.rules_of-rules.ensures r).0 (le, lt)).0

pub returns : goal.returns
returns c = (
  λ t.
      (let (r, within, h) = c.is_one_higher.ensures.0 t in
      let (is_rule, left) = (c.rules_of-rules.ensures r).0 within in
      (r, (subst (λ (g : FlatGrammar). IsRule g r) c.flat-flat.ensures is_rule, subst (λ (g : FlatGrammar). lhs_of g r ≡ lhs_of g c.args.item.rule) c.flat-flat.ensures (left ∙ c.lhs.ensures)), h)),
  λ (r, (is_rule, left), h).
      c.is_one_higher.ensures.1 (
        r,
        (c.rules_of-rules.ensures r).1 (subst (λ (g : FlatGrammar). IsRule g r) (sym c.flat-flat.ensures) is_rule, subst (λ (g : FlatGrammar). lhs_of g r ≡ lhs_of g c.args.item.rule) (sym c.flat-flat.ensures) left ∙ sym c.lhs.ensures),
        h,
      ),
)
