use Rattle.std.proofs.Common.{List, Contains, inl, inr, sym, ◌∙◌, subst, true≢false}
use Rattle.std.proofs.lemmas.List.{take_rest}
use Rattle.recognizer_model.specs.declared.Item.{Item}
use Rattle.item_sets.proofs.Holding.{there_first}
use Rattle.item_sets.proofs.item_set.is_held.Goals as goal

pub returns-then-is_in_table : goal.returns-then-is_in_table
returns-then-is_in_table c = (
  λ t. (there_first c.args.items.now c.args.filled c.args.item).1 (inl ((c.requires.first c.args.item).0 (c.is_in_table.ensures.0 t))),
  λ h. c.if-is_in_table.true,
)

pub returns-else-is_in_table : goal.returns-else-is_in_table
returns-else-is_in_table c = (
  λ t. (there_first c.args.items.now c.args.filled c.args.item).1 (inr (subst (λ (l : List Item). Contains l c.args.item) (take_rest c.args.items.now c.args.filled) (c.is_among.ensures.0 t))),
  λ h. elim ((there_first c.args.items.now c.args.filled c.args.item).0 h) [
    | inl first ↦ absurd (true≢false (sym (c.is_in_table.ensures.1 ((c.requires.first c.args.item).1 first)) ∙ c.if-is_in_table.false))
    | inr rest ↦ c.is_among.ensures.1 (subst (λ (l : List Item). Contains l c.args.item) (sym (take_rest c.args.items.now c.args.filled)) rest)
  ],
)
