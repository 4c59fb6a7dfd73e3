use Rattle.std.proofs.Common.{◌≡◌, ◌≢◌, ◌↔◌, ◌∙◌, ◌++◌, List, drop, Contains, true≢false, sym, ap, subst}
use Rattle.std.specs.List.{AllPairs}
use Rattle.std.proofs.Math.Seq.{drop-append_seam}
use Rattle.std.proofs.lemmas.Result.{IfOk-weaker}
use Rattle.recognizer_model.specs.declared.Item.{Item}
use Rattle.recognizer_model.specs.Counts.{IsListOf}
use Rattle.item_rows.specs.Rows.{row_at}
use Rattle.item_rows.proofs.Viewing.{whole_over}
use Rattle.leo_items.specs.Closed.{IsReached}
use Rattle.leo_items.specs.Hidden.{IsSingleStep, IsHiddenIn}
use Rattle.leo_items.proofs.Hiding.{whole_from, hidden_listed, none_hidden}
use Rattle.leo_items.proofs.hidden.list_hidden.Goals as goal

pub some_leads_on-requires-clause-items : goal.some_leads_on-requires-clause-items
some_leads_on-requires-clause-items c item h = (c.requires.rows.are c.args.earleme).items item ((c.whole-whole.ensures.exact item).0 h).0

pub returns-then-not-some_leads_on : goal.returns-then-not-some_leads_on
returns-then-not-some_leads_on c =
    subst (λ (l : List Item). IsListOf (IsHiddenIn c.args.flat.now c.args.rows.now.sets c.args.earleme c.args.from) l) (sym c.new.ensures.items)
    (none_hidden c.args.flat.now c.args.rows.now.sets c.args.earleme c.args.from c.whole-whole.result
    (whole_over c.args.rows.now c.args.flat.now (row_at c.args.rows.now.sets c.args.earleme) c.whole-whole.result c.requires.rows.flat c.whole-whole.ensures)
    (c.some_leads_on.ensures (λ t. true≢false (sym t ∙ c.if-not-some_leads_on.true))))

pub add_steps-requires-clause-items : goal.add_steps-requires-clause-items
add_steps-requires-clause-items c item h = (c.requires.rows.are c.args.earleme).items item ((c.whole-whole.ensures.exact item).0 ((c.in_ok-put_from.ensures item).0 h).0).0

pub returns : goal.returns
returns c =
    let (more, e) = c.in_ok-add_steps.ensures.begins in
    let kept = c.put_from.new.set in
    IfOk-weaker c.list_behind-behind.result _ _
    (λ v is.
    let same : v.items ≡ more = is ∙ (ap (λ (l : List Item). drop c.len-kept.result l) (c.as_slice.ensures.items ∙ e) ∙ (ap (λ n. drop n (kept ++ more)) c.len-kept.ensures.len ∙ drop-append_seam kept more)) in
    subst (λ (l : List Item). IsListOf (IsHiddenIn c.args.flat.now c.args.rows.now.sets c.args.earleme c.args.from) l) (sym same)
    (hidden_listed c.args.flat.now c.args.rows.now.sets c.requires.rows.are c.args.earleme c.args.from kept more
    (whole_from c.args.flat.now c.args.from (row_at c.args.rows.now.sets c.args.earleme) c.whole-whole.result kept
    (whole_over c.args.rows.now c.args.flat.now (row_at c.args.rows.now.sets c.args.earleme) c.whole-whole.result c.requires.rows.flat c.whole-whole.ensures)
    c.in_ok-put_from.ensures)
    (λ item. subst (λ (l : List Item). Contains l item ↔ IsReached (IsSingleStep c.args.flat.now c.args.rows.now.sets c.args.earleme c.args.from) kept item) e (c.in_ok-add_steps.ensures.closed item))
    (subst (λ (l : List Item). AllPairs (λ x y. x ≢ y) l) e c.as_slice.ensures.once)))
    c.list_behind-behind.ensures
