use Rattle.std.proofs.Common.{◌≡◌, ◌≤◌, ◌∙◌, ◌++◌, ◌∷◌, [], inl, inr, Some, Contains, List, length, take, slice_get, sym, ap, subst, arith, append_assoc}
use Rattle.std.proofs.lemmas.List.{take_more, take_all}
use Rattle.std.proofs.lemmas.List.Elements.{Contains-append_left, Contains-append_right, Contains-append_cases}
use Rattle.finite_sets.proofs.Lists.{got_at}
use Rattle.recognizer_model.specs.declared.Item.{Item}
use Rattle.earley_sets.specs.Recognizer.{set_at}
use Rattle.earley_sets.proofs.Exact.{full_exact}
use Rattle.progress.proofs.lines.items_of.Goals as goal

pub loop-k-preserved : goal.loop-k-preserved
loop-k-preserved g c =
    let set = set_at c.args.recce.now c.args.j in
    let at : slice_get (set_at c.args.recce.now c.args.j) c.loop-k.k ≡ Some c.at.result = ap (λ (l : List Item). slice_get l c.loop-k.k) (sym c.kept-set.ensures) ∙ c.at.ensures in
    let (lt, same) = got_at (set_at c.args.recce.now c.args.j) c.loop-k.k c.at.result c.at.result (sym at) in
    c.in_ok-push.ensures.items
    ∙ (ap (λ (l : List Item). l ++ c.at.result ∷ []) c.loop-k.invariant
    ∙ (append_assoc c.in_ok-items.items.items (take c.loop-k.k (set_at c.args.recce.now c.args.j)) (c.at.result ∷ [])
    ∙ ap (λ (l : List Item). c.in_ok-items.items.items ++ l) (ap (λ (x : Item). take c.loop-k.k (set_at c.args.recce.now c.args.j) ++ x ∷ []) (sym same) ∙ sym (take_more (set_at c.args.recce.now c.args.j) c.loop-k.k c.at.result lt))))

pub returns : goal.returns
returns g c item =
    let le : length (set_at c.args.recce.now c.args.j) ≤ c.loop-k.k =
    (let n = c.len-k-end.ensures in let f = c.loop-k-test.false in let s = ap (λ (l : List Item). length l) c.kept-set.ensures in omega arith) in
    let all : c.loop-k.items.items ≡ c.in_ok-items.items.items ++ set_at c.args.recce.now c.args.j =
    c.loop-k.invariant ∙ ap (λ (l : List Item). c.in_ok-items.items.items ++ l) (take_all c.loop-k.k (set_at c.args.recce.now c.args.j) le) in
    let law = full_exact c.args.recce.now c.requires.is c.args.j c.in_ok-items.items.items (let p = c.requires.place in let s = c.requires.is.some in omega arith) c.in_ok-items.ensures.hidden item in (
      λ h. law.0 (elim (Contains-append_cases c.in_ok-items.items.items (set_at c.args.recce.now c.args.j) item (subst (λ (l : List Item). Contains l item) all h)) [ inl m ↦ inr m | inr k ↦ inl k ]),
      λ s. subst (λ (l : List Item). Contains l item) (sym all) (elim (law.1 s) [
        | inl k ↦ Contains-append_right c.in_ok-items.items.items (set_at c.args.recce.now c.args.j) item k
        | inr m ↦ Contains-append_left c.in_ok-items.items.items (set_at c.args.recce.now c.args.j) item m
      ]),
    )
