use Rattle.std.proofs.Common.{◌∙◌, ap, refl, ℕ, List, ◌++◌, ◌∷◌, []}
use Rattle.finite_sets.proofs.Clauses.{on_err}
use Rattle.jagged.specs.Rows.{last_end}
use Rattle.jagged.proofs.Cutting.{put_within, put_view, put_ends, put_more_ends, put_more_view}
use Rattle.jagged.proofs.array.Jagged.push.Goals as goal

pub put-requires : goal.put-requires
put-requires g c = put_within c.self.inside.ends.items c.self.inside.items.items c.self.invariant c.last-last.result (c.last-last.ensures ∙ ap (λ (l : List ℕ). last_end 0 l) c.deref.ensures.value)

pub invariant_of-self : goal.invariant_of-self
invariant_of-self g c =
    put_ends c.self.inside.ends.items c.self.inside.items.items c.self.invariant c.last-last.result (c.last-last.ensures ∙ ap (λ (l : List ℕ). last_end 0 l) c.deref.ensures.value)
    _ c.self.inside.ends.items refl c.put.ensures.long

pub returns-in_err-put-clause-err : goal.returns-in_err-put-clause-err
returns-in_err-put-clause-err g c =
    on_err c.from_residual-in_err-put.result
    (put_view c.self.inside.ends.items c.self.inside.items.items c.self.invariant c.last-last.result (c.last-last.ensures ∙ ap (λ (l : List ℕ). last_end 0 l) c.deref.ensures.value)
    c.put.new.items.items c.self.inside.ends.items refl c.put.ensures.same ∙ c.self.view_is)

pub invariant_of-self-in_err-push : goal.invariant_of-self-in_err-push
invariant_of-self-in_err-push g c =
    put_ends c.self.inside.ends.items c.self.inside.items.items c.self.invariant c.last-last.result (c.last-last.ensures ∙ ap (λ (l : List ℕ). last_end 0 l) c.deref.ensures.value)
    _ c.push.new.self.items c.in_err-push.ensures.items c.put.ensures.long

pub returns-in_err-push-clause-err : goal.returns-in_err-push-clause-err
returns-in_err-push-clause-err g c =
    on_err c.from_residual-in_err-push.result
    (put_view c.self.inside.ends.items c.self.inside.items.items c.self.invariant c.last-last.result (c.last-last.ensures ∙ ap (λ (l : List ℕ). last_end 0 l) c.deref.ensures.value)
    c.put.new.items.items c.push.new.self.items c.in_err-push.ensures.items c.put.ensures.same ∙ c.self.view_is)

pub invariant_of-self-2 : goal.invariant_of-self-2
invariant_of-self-2 g c =
    put_more_ends c.self.inside.ends.items c.self.inside.items.items c.self.invariant c.last-last.result (c.last-last.ensures ∙ ap (λ (l : List ℕ). last_end 0 l) c.deref.ensures.value)
    c.args.row.now c.put.new.items.items c.push.new.self.items c.in_ok-put.ensures.ok _ refl (c.in_ok-push.ensures.items ∙ ap (λ (e : ℕ). c.self.inside.ends.items ++ e ∷ []) c.in_ok-end.ensures.ok)

pub returns-clause-ok : goal.returns-clause-ok
returns-clause-ok g c =
    put_more_view c.self.inside.ends.items c.self.inside.items.items c.self.invariant c.last-last.result (c.last-last.ensures ∙ ap (λ (l : List ℕ). last_end 0 l) c.deref.ensures.value)
    c.args.row.now c.put.new.items.items c.push.new.self.items c.in_ok-put.ensures.ok _ refl (c.in_ok-push.ensures.items ∙ ap (λ (e : ℕ). c.self.inside.ends.items ++ e ∷ []) c.in_ok-end.ensures.ok)
    ∙ ap (λ (l : List (List _)). l ++ c.args.row.now ∷ []) c.self.view_is
