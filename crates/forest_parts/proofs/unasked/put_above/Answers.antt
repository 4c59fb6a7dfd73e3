use Rattle.std.proofs.Common.{◌≡◌, ◌∙◌, inl, inr, Some, None, length, sym, ap, arith}
use Rattle.std.proofs.lemmas.Bool.{cases_lt}
use Rattle.std.proofs.lemmas.Option.{slice_get-get_or}
use Rattle.std.proofs.lemmas.Result.{on_ok_weaker}
use Rattle.recognizer_model.specs.Flat.{FlatGrammar, rhs_of, part_of}
use Rattle.recognizer_model.specs.declared.Item.{Item}
use Rattle.recognizer_model.specs.Items.{IsWhole}
use Rattle.recognizer_model.proofs.Leo.{past_end}
use Rattle.earley_sets.specs.Kept.{IsItem}
use Rattle.forest_parts.specs.Unasked.{IsAfterNothing, IsOverChosen, IsAbove}
use Rattle.forest_parts.proofs.Taking.{takes_of, none_differs}
use Rattle.forest_parts.proofs.unasked.put_above.Goals as goal

-- where no part is left the item is whole
full_by : (g : FlatGrammar) (item : Item) → IsItem g item → part_of g item.rule item.dot ≡ None → IsWhole g item
full_by g item is none =
    let w = is.within in
    elim (cases_lt item.dot (length (rhs_of g item.rule))) [
      | inl lt ↦ (let at = slice_get-get_or (rhs_of g item.rule) item.dot 0 lt in absurd (none_differs _ _ at none))
      | inr ge ↦ omega arith
    ]

pub returns-in-Some : goal.returns-in-Some
returns-in-Some c =
    let at : part_of c.args.recce.now.flat c.args.item.rule c.args.item.dot ≡ Some c.in-Some.symbol = ap (λ (g : FlatGrammar). part_of g c.args.item.rule c.args.item.dot) (sym c.flat.ensures) ∙ sym c.part.ensures ∙ c.in-Some.is in
    on_ok_weaker c.put_after_nothing.result
    (λ t. takes_of c.args.recce.now (IsAfterNothing c.args.recce.now c.args.item) (IsAbove c.args.w.now c.args.ranking c.args.recce.now c.args.end c.args.item) c.args.items.now.keys c.put_after_nothing.new.items.keys
    (λ x p. elim p [
      | inl a ↦ a
      | inr (full, o) ↦ absurd (past_end (rhs_of c.args.recce.now.flat c.args.item.rule) c.args.item.dot c.in-Some.symbol full at)
    ])
    (λ x a. inl a) t)
    c.put_after_nothing.ensures

pub returns-in-None : goal.returns-in-None
returns-in-None c =
    let at : part_of c.args.recce.now.flat c.args.item.rule c.args.item.dot ≡ None = ap (λ (g : FlatGrammar). part_of g c.args.item.rule c.args.item.dot) (sym c.flat.ensures) ∙ sym c.part.ensures ∙ c.in-None.is in
    on_ok_weaker c.put_chosen.result
    (λ t. takes_of c.args.recce.now (IsOverChosen c.args.w.now c.args.ranking c.args.recce.now c.args.end c.args.item) (IsAbove c.args.w.now c.args.ranking c.args.recce.now c.args.end c.args.item) c.args.items.now.keys c.put_chosen.new.items.keys
    (λ x p. elim p [
      | inl ((s, e, null), q) ↦ absurd (none_differs s _ e at)
      | inr (full, o) ↦ o
    ])
    (λ x o. inr (full_by c.args.recce.now.flat c.args.item c.requires.item at, o)) t)
    c.put_chosen.ensures
