use Rattle.std.proofs.Common.{◌≡◌, ◌∙◌, ◌++◌, ◌∷◌, [], List, Contains, inl, inr, sym, ap, subst, arith}
use Rattle.std.proofs.lemmas.Option.{slice_get_within}
use Rattle.recognizer_model.specs.declared.Item.{Item}
use Rattle.recognizer_model.specs.Flat.{FlatGrammar, rhs_of}
use Rattle.item_rows.specs.Rows.{ItemRows, row_at, shared_at}
use Rattle.item_rows.specs.Kept.{IsItem}
use Rattle.item_rows.proofs.Listed.{part_of_rule}
use Rattle.grammar_tests.proofs.leo.step_of.Goals as goal

pub push-requires-clause-items : goal.push-requires-clause-items
push-requires-clause-items c item among =
    let waits = c.requires.waits item among in
    let is : IsItem c.args.flat.now item = record {
      is_rule = part_of_rule c.args.flat.now item c.args.symbol waits;
      within = (let lt = slice_get_within (rhs_of c.args.flat.now item.rule) item.dot c.args.symbol waits in omega (arith, lt));
    } in
    subst (λ (g : FlatGrammar). IsItem g item) (sym c.in_ok-rows.ensures.0) is

-- the only row has these items, since the list that it shares is empty
pub leo_of-step-requires : goal.leo_of-step-requires
leo_of-step-requires c item among =
    let (row, kind, is, list) = c.in_ok-push.ensures.ok in
    let (flat_is, sets_is, shared_is) = c.in_ok-rows.ensures in
    let here : c.row.result ≡ row = c.row.ensures ∙ ap (λ (r : ItemRows). row_at r.sets 0) is ∙ ap (λ (sets : List (List Item)). row_at (sets ++ row ∷ []) 0) sets_is in
    elim ((list.exact item).0 (subst (λ (l : List Item). Contains l item) here among)) [
      | inl m ↦ (c.args.symbol, c.requires.waits item m)
      | inr (origin, m) ↦ (
          let (k, lt, e) = subst (λ (lists : List (List Item)). Contains (shared_at lists 0) (record item { origin = 0 })) shared_is m in absurd (omega (arith, lt))
          )
    ]
